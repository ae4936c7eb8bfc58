use Rattle.std.proofs.Common.{◌≡◌, ◌<◌, ◌≤◌, ◌+◌, length, take, drop}
use Rattle.p3_theory.specs.Bases.Coordinates.{flattened}
use Rattle.p3_c_calls.proofs.groups.write_values.Given as goal

abbrev pub invariant-loop-i : goal.invariant-loop-i
invariant-loop-i g l =
    let group = g.E.Grouped.group in
    record {
      left : length l.words ≡ l.start + length (flattened group (drop l.i l.values));
      fits : l.i < length l.values → l.start + g.row.D ≤ length l.words;
      written : take l.start l.words ≡ flattened group (take l.i l.values);
    }
