use Rattle.std.proofs.Common.{◌≡◌, ◌<◌, ℕ, length, get_or}
use Rattle.p3_extension.specs.declared.extension.ext_field.ExtField.{ExtField}
use Rattle.p3_packed_extension.proofs.packed_field_extension.pack_coefficients.Given as goal

abbrev pub invariant-loop-i : goal.invariant-loop-i
invariant-loop-i g l =
    let z = g.F.PrimeCharacteristicRing.ops.zero in
    (length l.res ≡ g.row.D)
    × ((p : g.row.P.Denot) (d : ExtField g.row.F.Denot g.row.D g.row.S.Denot g.row.F.Denot) (j k : ℕ) → j < l.i → k < g.P.PackedValue.WIDTH
    → get_or (g.P.PackedValue.lanes (get_or l.res j p)) k z ≡ get_or (get_or l.slice k d).value j z)
