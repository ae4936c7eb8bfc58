use Rattle.std.proofs.Common.{◌≡◌, drop}
use Rattle.p3_theory.specs.Rings.DotProduct.{dot}
use Rattle.p3_theory.specs.Lanes.RowRing.{row_ops}
use Rattle.p3_packed_prime_fields.specs.Values.{packed_rows}
use Rattle.p3_packed_prime_fields.proofs.dot_products.add_products.Given as goal

abbrev pub invariant-loop-i : goal.invariant-loop-i
invariant-loop-i g l =
    let o = row_ops packed_rows g.F.PrimeCharacteristicRing.ops in
    o.add l.sum (dot o (drop l.i l.u) (drop l.i l.v)) ≡ o.add l.fn.sum (dot o (drop l.start l.u) (drop l.start l.v))
