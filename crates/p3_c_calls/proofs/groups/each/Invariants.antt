use Rattle.std.proofs.Common.{◌≡◌, ◌<◌, ◌≤◌, ◌+◌, ◌-◌, ◌%◌, ◌++◌, List, length, map, take, drop}
use Rattle.std.specs.Prelude.{All}
use Rattle.p3_theory.specs.Bases.Coordinates.{flattened}
use Rattle.p3_c_calls.proofs.groups.each.Given as goal

abbrev pub invariant-loop-start : goal.invariant-loop-start
invariant-loop-start g l =
    let group = g.E.Grouped.group in
    let f = g.S.ValueStep.gives l.step in
    record {
      inside : l.start ≤ length l.words;
      long : length l.words ≡ length l.initial.words;
      whole : (length l.words - l.start) % g.row.D ≡ 0;
      fits : l.start < length l.words → l.start + g.row.D ≤ length l.words;
      stand : All g.E.Grouped.stands (drop l.start l.words);
      done : (xs : List g.row.E.Denot) × (flattened group xs ++ drop l.start l.words ≡ l.initial.words) × (take l.start l.words ≡ flattened group (map f xs));
    }

abbrev pub decreases-loop-start : goal.decreases-loop-start
decreases-loop-start g l = length l.words - l.start
