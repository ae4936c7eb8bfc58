use Rattle.std.proofs.Common.{◌≡◌, drop}
use Rattle.example_shares.specs.Lagrange.{differences}
use Rattle.example_shares.specs.ShareLists.{points}
use Rattle.example_shares.proofs.lagrange.difference_product.Given as goal

abbrev pub invariant-loop-share : goal.invariant-loop-share
invariant-loop-share g l =
    let o = g.F.PrimeCharacteristicRing.ops in
    o.mul l.product (differences o l.x (points (drop l.share-index l.shares))) ≡ differences o l.x (points l.shares)
