use Rattle.std.proofs.Common.{◌≡◌, ◌<◌, ◌≤◌, ◌%◌, ◌++◌, length}
use Rattle.std.specs.Prelude.{All}
use Rattle.p3_theory.specs.Bases.Coordinates.{flattened}
use Rattle.p3_c_calls.proofs.groups.read_values.Given as goal

abbrev pub invariant-loop-rest : goal.invariant-loop-rest
invariant-loop-rest g l =
    let e = g.E.Grouped in
    record {
      whole : length l.rest % g.row.D ≡ 0;
      fits : 0 < length l.rest → g.row.D ≤ length l.rest;
      stand : All e.stands l.rest;
      read : flattened e.group l.values.items ++ l.rest ≡ l.words;
    }

abbrev pub decreases-loop-rest : goal.decreases-loop-rest
decreases-loop-rest g l = length l.rest
