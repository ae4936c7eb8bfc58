use Rattle.std.proofs.Common.{◌∙◌}
use Rattle.p3_theory.specs.Rings.PowerProducts.{halves_undone}
use Rattle.p3_ring.proofs.ring.PrimeCharacteristicRing.div_2exp_u64.Goals as goal

pub returns : goal.returns
returns g c =
    let m = g.met.Self.PrimeCharacteristicRing in
    halves_undone m.ring c.args.self.now c.halve-half.result c.exp_u64-scale.result c.mul.result c.args.exponent
    (c.halve-half.ensures ∙ c.one.ensures) c.exp_u64-scale.ensures (m.muls.exact _ _ _ c.mul.ensures)
