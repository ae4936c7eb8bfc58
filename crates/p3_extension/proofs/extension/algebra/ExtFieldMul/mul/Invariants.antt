use Rattle.std.proofs.Common.{◌≡◌, ◌<◌, ℕ, length, get_or}
use Rattle.p3_extension.proofs.extension.algebra.ExtFieldMul.mul.Given as goal

abbrev pub invariant-loop-i : goal.invariant-loop-i
invariant-loop-i g l =
    (length l.value ≡ g.row.D)
    × ((d : g.row.A.Denot) (k : ℕ) → k < l.i → g.A.Mul.mul_gives (get_or l.fn.self.value k d) l.fn.rhs (get_or l.value k d))
