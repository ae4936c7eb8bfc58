use Rattle.std.proofs.Common.{ap₂, ◌∙◌}
use Rattle.p3_theory.specs.Rings.Ring.{ring_of}
use Rattle.p3_theory.specs.Rings.Powers.{scale_powers}
use Rattle.p3_extension.specs.BinomialShape.{scaled_is_frobenius}
use Rattle.p3_extension.proofs.extension.binomial_extension.AnyFrobeniusExtendableBinomial.apply_frobenius.Goals as goal

pub returns : goal.returns
returns g c =
    let o = g.F.PrimeCharacteristicRing.ops in
    let b = g.F.BinomiallyExtendable in
    let m = g.met.F.BinomiallyExtendable in
    c.scale_by_powers.ensures
    ∙ ap₂ (λ n r. scale_powers o n r c.args.a.now) c.requires.input c.dth_root.ensures
    ∙ scaled_is_frobenius (ring_of g.met.F.PrimeCharacteristicRing.ring) g.row.D g.met.F.ExtensionAlgebra.at_least_two g.F.ExtensionAlgebra.modulus b.w b.dth_root
    m.by_w m.root_power c.args.a.now c.requires.input
