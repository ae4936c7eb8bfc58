use Rattle.p3_helpers.proofs.helpers.add_scaled_slice_in_place.Goals as goal

pub add_scaled_by_packing-requires-clause-factor : goal.add_scaled_by_packing-requires-clause-factor
add_scaled_by_packing-requires-clause-factor g c = g.met.P.Algebra.froms _ _ c.from.ensures
