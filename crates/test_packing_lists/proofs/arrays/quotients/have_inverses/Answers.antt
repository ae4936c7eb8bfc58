use borrow.Author.Count.{below_more}
use Rattle.std.proofs.Common.{get_or, refl, subst, sym, arith}
use Rattle.p3_theory.specs.Rings.Ring.{Invertible}
use Rattle.p3_theory.specs.Lists.ByIndex.{read_at}
use Rattle.test_packing_lists.proofs.arrays.quotients.have_inverses.Goals as goal

pub loop-i-preserved : goal.loop-i-preserved
loop-i-preserved g c d =
    let o = g.F.PrimeCharacteristicRing.ops in
    let xs = c.args.y.items in
    below_more (λ k. Invertible o (get_or xs k d)) c.loop-i.i (λ k b. c.loop-i.invariant d k b)
    (subst (Invertible o) (sym (read_at xs c.loop-i.i c.index-entry.result.now d (omega (arith, c.loop-i-test.true, c.args.y.sized)) c.index-entry.ensures)) (c.if-not-has_inverse.ensures refl))
