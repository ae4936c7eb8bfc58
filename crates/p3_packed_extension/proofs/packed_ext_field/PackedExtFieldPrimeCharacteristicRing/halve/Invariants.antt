use Rattle.std.proofs.Common.{◌≡◌, ◌<◌, ℕ, length, get_or}
use Rattle.p3_packed_extension.proofs.packed_ext_field.PackedExtFieldPrimeCharacteristicRing.halve.Given as goal

abbrev pub invariant-loop-i : goal.invariant-loop-i
invariant-loop-i g l =
    let o = g.P.PrimeCharacteristicRing.ops in
    (length l.value ≡ g.row.D) × ((d : g.row.P.Denot) (k : ℕ) → k < l.i → o.add (get_or l.value k d) (get_or l.value k d) ≡ get_or l.self.value.value k d)
