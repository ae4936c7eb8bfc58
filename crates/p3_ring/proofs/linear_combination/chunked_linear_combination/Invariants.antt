use Rattle.std.proofs.Common.{◌≤◌, ◌-◌, length, map}
use Rattle.p3_theory.specs.Rings.DotProduct.{dot}
use Rattle.p3_theory.specs.Rings.MixedDotProduct.{MakesWithRest}
use Rattle.p3_ring.proofs.linear_combination.chunked_linear_combination.Given as goal

abbrev pub invariant-loop-start : goal.invariant-loop-start
invariant-loop-start g l =
    let o = g.A.PrimeCharacteristicRing.ops in
    let e = g.A.Algebra.embed in
    (l.start ≤ length l.values) × MakesWithRest o e l.values l.coeffs (dot o l.values (map e l.coeffs)) l.start l.sum

abbrev pub decreases-loop-start : goal.decreases-loop-start
decreases-loop-start g l = length l.values - l.start
