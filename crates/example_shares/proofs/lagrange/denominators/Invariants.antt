use Rattle.std.proofs.Common.{◌≡◌, ◌<◌, ℕ, length, get_or}
use Rattle.example_shares.specs.Lagrange.{differences}
use Rattle.example_shares.specs.Denominators.{others}
use Rattle.example_shares.specs.ShareLists.{points}
use Rattle.example_shares.proofs.lagrange.denominators.Given as goal

abbrev pub invariant-loop-i : goal.invariant-loop-i
invariant-loop-i g l =
    let o = g.F.PrimeCharacteristicRing.ops in
    let xs = points l.shares in
    record {
      lengths : length l.products.items ≡ l.i;
      multiplied : (d : g.row.F.Denot) (k : ℕ) → k < l.i → get_or l.products.items k d ≡ differences o (get_or xs k d) (others xs k);
    }
