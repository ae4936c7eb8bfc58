use Rattle.std.proofs.Common.{◌≡◌, ◌<◌, ◌≤◌, ◌+◌, ◌-◌, ◌%◌, ◌++◌, List, length, take, drop}
use Rattle.std.specs.Prelude.{All}
use Rattle.p3_theory.specs.Bases.Coordinates.{flattened}
use Rattle.p3_theory.specs.Lists.PairedLists.{zip_with}
use Rattle.p3_c_calls.proofs.groups.pairs.Given as goal

abbrev pub invariant-loop-start : goal.invariant-loop-start
invariant-loop-start g l =
    let e = g.E.Grouped in
    record {
      inside : l.start ≤ length l.left;
      long : length l.left ≡ length l.initial.left;
      whole : (length l.left - l.start) % g.row.D ≡ 0;
      fits : l.start < length l.left → l.start + g.row.D ≤ length l.left;
      stand : All e.stands (drop l.start l.left);
      other : All e.stands (drop l.start l.right);
      done : (xs : List g.row.E.Denot) × (ys : List g.row.E.Denot) × (length xs ≡ length ys) × (flattened e.group xs ++ drop l.start l.left ≡ l.initial.left)
          × (flattened e.group ys ++ drop l.start l.right ≡ l.right) × (take l.start l.left ≡ flattened e.group (zip_with g.E.PrimeCharacteristicRing.ops.mul xs ys));
    }

abbrev pub decreases-loop-start : goal.decreases-loop-start
decreases-loop-start g l = length l.left - l.start
