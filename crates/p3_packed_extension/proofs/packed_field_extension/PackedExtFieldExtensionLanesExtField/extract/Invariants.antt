use Rattle.std.proofs.Common.{◌≡◌, ◌<◌, ℕ, length, get_or}
use Rattle.p3_packed_extension.proofs.packed_field_extension.PackedExtFieldExtensionLanesExtField.extract.Given as goal

abbrev pub invariant-loop-i : goal.invariant-loop-i
invariant-loop-i g l =
    let z = g.F.PrimeCharacteristicRing.ops.zero in
    (length l.value ≡ g.row.D)
    × ((p : g.row.P.Denot) (j : ℕ) → j < l.i → get_or (g.P.PackedValue.lanes (get_or l.self.value.value j p)) l.lane z ≡ get_or l.value j z)
