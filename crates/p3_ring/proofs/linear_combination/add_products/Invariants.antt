use Rattle.std.proofs.Common.{map}
use Rattle.p3_theory.specs.Rings.Ring.{Ops, RingLaws}
use Rattle.p3_theory.specs.Rings.Operators.{Gives}
use Rattle.p3_theory.specs.Rings.DotProduct.{dot}
use Rattle.p3_theory.specs.Rings.MixedDotProduct.{MakesWithRest}
use Rattle.p3_ring.proofs.linear_combination.add_products.Given as goal

abbrev pub invariant-loop-i : goal.invariant-loop-i
invariant-loop-i g l =
    (o : Ops g.row.A.Denot) → RingLaws o → (embed : g.row.V.Denot → g.row.A.Denot) → Gives g.A.Add.can_add g.A.Add.add_gives o.add → Gives g.A.Mul.can_mul g.A.Mul.mul_gives (λ x v. o.mul x (embed v))
    → MakesWithRest o embed l.values l.coeffs (o.add l.fn.start (dot o l.values (map embed l.coeffs))) l.i l.sum
