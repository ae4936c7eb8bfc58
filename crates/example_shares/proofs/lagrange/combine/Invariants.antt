use Rattle.std.proofs.Common.{◌≡◌, drop}
use Rattle.p3_theory.specs.Rings.Operators.{product_list}
use Rattle.example_shares.specs.Lagrange.{lagrange}
use Rattle.example_shares.specs.ShareLists.{points, values}
use Rattle.example_shares.proofs.lagrange.combine.Given as goal

abbrev pub invariant-loop-i : goal.invariant-loop-i
invariant-loop-i g l =
    let o = g.F.PrimeCharacteristicRing.ops in
    let rest = drop l.i l.shares in
    record {
      summed : l.sum ≡ lagrange o (points rest) (values rest) (drop l.i l.weights);
      multiplied : l.product ≡ product_list o (points rest);
    }
