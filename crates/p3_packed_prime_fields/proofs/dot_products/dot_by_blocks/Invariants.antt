use Rattle.std.proofs.Common.{◌≡◌, ◌≤◌, ◌-◌, length, drop}
use Rattle.p3_theory.specs.Rings.DotProduct.{dot}
use Rattle.p3_theory.specs.Lanes.RowRing.{row_ops}
use Rattle.p3_packed_prime_fields.specs.Values.{packed_rows}
use Rattle.p3_packed_prime_fields.proofs.dot_products.dot_by_blocks.Given as goal

abbrev pub invariant-loop-start : goal.invariant-loop-start
invariant-loop-start g l =
    let o = row_ops packed_rows g.F.PrimeCharacteristicRing.ops in
    (l.start ≤ length l.u) × (o.add l.sum (dot o (drop l.start l.u) (drop l.start l.v)) ≡ dot o l.u l.v)

abbrev pub decreases-loop-start : goal.decreases-loop-start
decreases-loop-start g l = length l.u - l.start
