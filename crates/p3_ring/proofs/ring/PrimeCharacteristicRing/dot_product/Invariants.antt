use Rattle.std.proofs.Common.{◌≡◌, drop}
use Rattle.p3_theory.specs.Rings.DotProduct.{dot}
use Rattle.p3_ring.proofs.ring.PrimeCharacteristicRing.dot_product.Given as goal

abbrev pub invariant-loop-i : goal.invariant-loop-i
invariant-loop-i g l =
    let o = g.Self.PrimeCharacteristicRing.ops in
    o.add l.sum (dot o (drop l.i l.u) (drop l.i l.v)) ≡ dot o l.u l.v
