use Rattle.std.proofs.Common.{◌≡◌, ◌<◌, ℕ, get_or}
use Rattle.p3_extension.specs.declared.extension.ext_field.ExtField.{ExtField}
use Rattle.p3_packed_extension.proofs.packed_field_extension.packed_coefficient.Given as goal

abbrev pub invariant-loop-lane : goal.invariant-loop-lane
invariant-loop-lane g l =
    let z = g.F.PrimeCharacteristicRing.ops.zero in
    (d : ExtField g.row.F.Denot g.row.D g.row.S.Denot g.row.F.Denot) (k : ℕ) → k < l.lane
    → get_or (g.P.PackedValue.lanes l.part) k z ≡ get_or (get_or l.slice k d).value l.i z
