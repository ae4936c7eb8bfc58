use Rattle.std.proofs.Common.{ap, ap₂, ◌∙◌}
use Rattle.p3_theory.specs.Rings.Ring.{ring_of}
use Rattle.p3_theory.specs.Rings.Powers.{power, scale_powers}
use Rattle.p3_extension.specs.BinomialShape.{scaled_is_repeated}
use Rattle.p3_extension.proofs.extension.binomial_extension.AnyFrobeniusExtendableBinomial.apply_repeated_frobenius.Goals as goal

pub returns : goal.returns
returns g c =
    let o = g.F.PrimeCharacteristicRing.ops in
    let b = g.F.BinomiallyExtendable in
    let m = g.met.F.BinomiallyExtendable in
    c.scale_by_repeated_powers.ensures
    ∙ ap₂ (λ n r. scale_powers o n r c.args.a.now) c.requires.input (ap (λ r. power o r c.args.count) c.dth_root.ensures)
    ∙ scaled_is_repeated (ring_of g.met.F.PrimeCharacteristicRing.ring) g.row.D g.met.F.ExtensionAlgebra.at_least_two g.F.ExtensionAlgebra.modulus b.w b.dth_root
    m.by_w m.root_power c.args.count c.args.a.now c.requires.input
