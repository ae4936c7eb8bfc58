use Rattle.std.proofs.Common.{◌≡◌, ◌<◌, ℕ, length, get_or}
use Rattle.p3_extension.proofs.extension.ext_field.ExtFieldSub.sub.Given as goal

abbrev pub invariant-loop-i : goal.invariant-loop-i
invariant-loop-i g l =
    (length l.value ≡ g.row.D)
    × ((d : g.row.A.Denot) (k : ℕ) → k < l.i → g.A.Sub.sub_gives (get_or l.fn.self.value k d) (get_or l.fn.other.value k d) (get_or l.value k d))
