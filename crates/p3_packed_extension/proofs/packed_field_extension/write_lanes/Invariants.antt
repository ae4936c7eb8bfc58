use Rattle.std.proofs.Common.{◌≡◌, ◌<◌, ◌≤◌, ℕ, length, get_or, slice_set}
use Rattle.p3_packed_extension.proofs.packed_field_extension.write_lanes.Given as goal

abbrev pub invariant-loop-i : goal.invariant-loop-i
invariant-loop-i g l =
    let lanes = g.P.PackedValue.lanes in
    let old = l.initial.parts in
    record {
      long : length l.parts ≡ length old;
      written : (p : g.row.P.Denot) (j : ℕ) → j < l.i → lanes (get_or l.parts j p) ≡ slice_set (lanes (get_or old j p)) l.lane (get_or l.values j g.F.PrimeCharacteristicRing.ops.zero);
      kept : (p : g.row.P.Denot) (j : ℕ) → l.i ≤ j → get_or l.parts j p ≡ get_or old j p;
    }
