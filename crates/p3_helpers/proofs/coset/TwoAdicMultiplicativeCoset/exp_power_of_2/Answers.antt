use Rattle.std.proofs.Common.{◌^◌, ap₂, ◌∙◌}
use Rattle.p3_theory.specs.Rings.PowerProducts.{power-inverse}
use Rattle.p3_helpers.proofs.coset.TwoAdicMultiplicativeCoset.exp_power_of_2.Goals as goal

pub invariant_of-result-clause-unit : goal.invariant_of-result-clause-unit
invariant_of-result-clause-unit g c =
    let coset = c.args.self.now in
    ap₂ g.F.PrimeCharacteristicRing.ops.mul c.exp_power_of_2-shift.ensures c.exp_power_of_2-shift_inverse.ensures
    ∙ power-inverse g.met.F.PrimeCharacteristicRing.ring coset.shift coset.shift_inverse coset.unit (2 ^ c.args.log_scale_factor)
