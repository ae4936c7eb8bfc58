use Rattle.std.proofs.Common.{◌≡◌, ◌+◌, ◌*◌, ◌<◌, ◌%◌, length, take, drop, ap, ◌∙◌, sym, arith, length-drop}
use Rattle.std.specs.Prelude.{slice_get}
use Rattle.std.proofs.lemmas.Grind.{common_steps}
use Rattle.p3_theory.specs.Bases.Coordinates.{flattened}
use Rattle.p3_theory.specs.Bases.CoordinateLemmas.{flattened-entry, flattened-push, divided_front}
use Rattle.p3_extension_traits.proofs.basis.BasedVectorSpace.reconstitute_from_base_in.Goals as goal

pub loop-rest-preserved : goal.loop-rest-preserved
loop-rest-preserved g c =
    let v = g.Self.BasedVectorSpace in
    let n = v.DIMENSION in
    let rest = c.loop-rest.rest.now in
    let front : c.split_at.result.0.now ≡ take n rest = rw c.DIMENSION-in-loop-rest.ensures at c.split_at.ensures.front in
    let back : c.split_at.result.1.now ≡ drop n rest = rw c.DIMENSION-in-loop-rest.ensures at c.split_at.ensures.back in
    let some : 0 < length rest = grind (arith, common_steps) in
    let divided = divided_front (length rest) n g.met.Self.BasedVectorSpace.positive c.loop-rest.invariant.divided some in
    record {
      divided = ap (λ m. m % n) (ap length back ∙ length-drop n rest) ∙ divided.1;
      read = rw (c.in_ok-push.ensures.items, back) (flattened-push v.coefficients n c.loop-rest.values.items c.value_of_group.result rest c.args.vec.items (c.value_of_group.ensures ∙ front) c.loop-rest.invariant.read);
    }

pub returns-clause-coefficients : goal.returns-clause-coefficients
returns-clause-coefficients g c = λ i j x e h.
    let v = g.Self.BasedVectorSpace in
    let whole : flattened v.coefficients c.loop-rest.values.items ≡ c.args.vec.items = grind (arith, common_steps) in
    ap (λ l. slice_get l (i * v.DIMENSION + j)) (sym whole) ∙ flattened-entry v.coefficients v.DIMENSION g.met.Self.BasedVectorSpace.lengths c.loop-rest.values.items i j x e h
