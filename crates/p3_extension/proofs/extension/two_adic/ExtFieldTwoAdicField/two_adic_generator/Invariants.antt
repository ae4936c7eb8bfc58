use Rattle.std.proofs.Common.{◌≡◌, length}
use Rattle.p3_theory.specs.Lists.TabulatedEntries.{HoldsBelow}
use Rattle.p3_extension.proofs.extension.two_adic.ExtFieldTwoAdicField.two_adic_generator.Given as goal

abbrev pub invariant-loop-i : goal.invariant-loop-i
invariant-loop-i g l =
    (length l.value ≡ g.row.D) × HoldsBelow (g.F.TwoAdicExtendable.two_adic_coefficients l.bits) g.F.PrimeCharacteristicRing.ops.zero l.value l.i
