use Rattle.std.proofs.Common.{◌≡◌, drop}
use Rattle.p3_theory.specs.Rings.Operators.{product_list}
use Rattle.example_shares.proofs.lagrange.product.Given as goal

abbrev pub invariant-loop-entry : goal.invariant-loop-entry
invariant-loop-entry g l =
    let o = g.F.PrimeCharacteristicRing.ops in
    o.mul l.product (product_list o (drop l.entry-index l.entries)) ≡ product_list o l.entries
