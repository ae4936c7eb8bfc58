use Rattle.std.proofs.Common.{◌≡◌, ◌<◌, ℕ, length, get_or}
use Rattle.p3_packed_extension.proofs.extension_values.PackedExtFieldAddExtField.add.Given as goal

abbrev pub invariant-loop-i : goal.invariant-loop-i
invariant-loop-i g l =
    (length l.value ≡ g.row.D)
    × ((d : g.row.P.Denot) (e : g.row.F.Denot) (k : ℕ) → k < l.i → g.P.Add.add_gives (get_or l.coefficients k d) (get_or l.rhs.value k e) (get_or l.value k d))
