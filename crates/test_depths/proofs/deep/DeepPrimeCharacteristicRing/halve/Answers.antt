use Rattle.std.proofs.Common.{ap, ap₂, sym, ◌∙◌}
use Rattle.test_depths.specs.Residues.{of, ops}
use Rattle.test_depths.specs.Pairs.{pair, pair_ops, pair-doubled_half}
use Rattle.test_depths.proofs.deep.DeepPrimeCharacteristicRing.halve.Goals as goal

pub joined-requires : goal.joined-requires
joined-requires g c = λ e _. c.half-x.ensures ∙ ap (λ r. ops.mul r (of 516)) e ∙ sym c.half-y.ensures

pub returns : goal.returns
returns g c =
    let e = c.joined.ensures ∙ ap₂ (pair g.P.Place) c.half-x.ensures c.half-y.ensures in
    ap₂ (pair_ops g.P.Place).add e e ∙ pair-doubled_half g.P.Place c.args.self.now
