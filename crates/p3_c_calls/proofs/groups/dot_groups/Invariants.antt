use Rattle.std.proofs.Common.{◌≡◌, ◌<◌, ◌≤◌, ◌%◌, ◌++◌, List, length}
use Rattle.std.specs.Prelude.{All}
use Rattle.p3_theory.specs.Bases.Coordinates.{flattened}
use Rattle.p3_theory.specs.Rings.DotProduct.{dot}
use Rattle.p3_c_calls.proofs.groups.dot_groups.Given as goal

abbrev pub invariant-loop-a : goal.invariant-loop-a
invariant-loop-a g l =
    let e = g.E.Grouped in
    record {
      lengths : length l.a ≡ length l.b;
      whole : length l.a % g.row.D ≡ 0;
      fits : 0 < length l.a → g.row.D ≤ length l.a;
      left : All e.stands l.a;
      right : All e.stands l.b;
      done : (xs : List g.row.E.Denot) × (ys : List g.row.E.Denot) × (length xs ≡ length ys) × (flattened e.group xs ++ l.a ≡ l.left) × (flattened e.group ys ++ l.b ≡ l.right)
          × (l.total ≡ dot g.E.PrimeCharacteristicRing.ops xs ys);
    }

abbrev pub decreases-loop-a : goal.decreases-loop-a
decreases-loop-a g l = length l.a
