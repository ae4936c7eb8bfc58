use Rattle.std.proofs.Common.{◌≡◌, length}
use Rattle.p3_theory.specs.FrobeniusMaps.Frobenius.{iterate}
use Rattle.p3_theory.specs.FrobeniusMaps.FrobeniusTable.{frobenius_list}
use Rattle.p3_extension.proofs.extension.FrobeniusExtendable.apply_repeated_frobenius.Given as goal

abbrev pub invariant-loop-i : goal.invariant-loop-i
invariant-loop-i g l =
    let s = frobenius_list g.Self.PrimeCharacteristicRing.ops g.row.D g.Self.ExtensionAlgebra.modulus g.Self.FrobeniusExtendable.image in
    (length l.value ≡ g.row.D) × (l.value ≡ iterate s l.i l.a)
