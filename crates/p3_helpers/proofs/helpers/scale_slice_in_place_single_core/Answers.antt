use Rattle.p3_helpers.proofs.helpers.scale_slice_in_place_single_core.Goals as goal

pub scale_by_packing-requires : goal.scale_by_packing-requires
scale_by_packing-requires g c = g.met.P.Algebra.froms _ _ c.from.ensures
