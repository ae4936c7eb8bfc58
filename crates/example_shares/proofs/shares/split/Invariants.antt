use Rattle.std.proofs.Common.{◌≡◌, map}
use Rattle.example_shares.specs.Secrets.{value_at, first_points}
use Rattle.example_shares.specs.ShareLists.{points, values}
use Rattle.example_shares.proofs.shares.split.Given as goal

abbrev pub invariant-loop-i : goal.invariant-loop-i
invariant-loop-i g l =
    let o = g.F.PrimeCharacteristicRing.ops in
    record {
      placed : points l.shares.items ≡ first_points o l.i;
      evaluated : values l.shares.items ≡ map (value_at o l.coefficients) (points l.shares.items);
    }
