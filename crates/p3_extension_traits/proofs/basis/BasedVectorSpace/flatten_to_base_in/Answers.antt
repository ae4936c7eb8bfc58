use Rattle.std.proofs.Common.{◌≡◌, ◌+◌, ◌*◌, ap, ◌∙◌, arith}
use Rattle.std.proofs.lemmas.Grind.{common_steps}
use Rattle.std.specs.Prelude.{slice_get}
use Rattle.p3_theory.specs.Bases.Coordinates.{flattened}
use Rattle.p3_theory.specs.Bases.CoordinateLemmas.{flattened-entry}
use Rattle.p3_extension_traits.proofs.basis.BasedVectorSpace.flatten_to_base_in.Goals as goal

pub returns-clause-coefficients : goal.returns-clause-coefficients
returns-clause-coefficients g c = λ i j x e h.
    let v = g.Self.BasedVectorSpace in
    let whole : c.loop-x.flat.items ≡ flattened v.coefficients c.args.vec.items = grind (arith, common_steps) in
    ap (λ l. slice_get l (i * v.DIMENSION + j)) whole ∙ flattened-entry v.coefficients v.DIMENSION g.met.Self.BasedVectorSpace.lengths c.args.vec.items i j x e h
