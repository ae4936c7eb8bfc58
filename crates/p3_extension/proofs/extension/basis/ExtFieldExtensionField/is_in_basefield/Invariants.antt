use Rattle.p3_theory.specs.Bases.BasisSums.{ZerosBelow}
use Rattle.p3_extension.proofs.extension.basis.ExtFieldExtensionField.is_in_basefield.Given as goal

abbrev pub invariant-loop-i : goal.invariant-loop-i
invariant-loop-i g l = ZerosBelow g.F.PrimeCharacteristicRing.ops l.self.value l.i
