use Rattle.std.proofs.Common.{◌≡◌, ◌≤◌, ◌-◌, length, map}
use Rattle.p3_theory.specs.Rings.Ring.{Ops, RingLaws}
use Rattle.p3_theory.specs.Rings.Operators.{Gives}
use Rattle.p3_theory.specs.Rings.DotProduct.{dot}
use Rattle.p3_theory.specs.Rings.MixedDotProduct.{MakesWithRest}
use Rattle.p3_ring.proofs.linear_combination.sum_products.Given as goal

abbrev pub invariant-loop-start : goal.invariant-loop-start
invariant-loop-start g l =
    record {
      inside : l.start ≤ length l.values;
      makes : (o : Ops g.row.A.Denot) → RingLaws o → (embed : g.row.V.Denot → g.row.A.Denot) → Gives g.A.Add.can_add g.A.Add.add_gives o.add → Gives g.A.Mul.can_mul g.A.Mul.mul_gives (λ x v. o.mul x (embed v)) → l.zero ≡ o.zero
          → MakesWithRest o embed l.values l.coeffs (dot o l.values (map embed l.coeffs)) l.start l.sum;
    }

abbrev pub decreases-loop-start : goal.decreases-loop-start
decreases-loop-start g l = length l.values - l.start
