use Rattle.std.proofs.Common.{◌%◌, ◌^◌, ap, sym, ◌∙◌}
use Rattle.std.proofs.Math.Nat.{mod-lt}
use Rattle.std.proofs.lemmas.Nat.{pow_pos}
use Rattle.p3_theory.specs.Roots.Cosets.{coset_item}
use Rattle.p3_helpers.proofs.coset.TwoAdicMultiplicativeCoset.element.Goals as goal

pub returns : goal.returns
returns g c =
    let o = g.F.PrimeCharacteristicRing.ops in
    let coset = c.args.self.now in
    let k = coset.log_size in
    let place = c.args.index % 2 ^ k in
    g.met.F.PrimeCharacteristicRing.muls.exact _ _ _ c.mul.ensures ∙ ap (o.mul coset.shift) c.generator_exp.ensures
    ∙ sym (coset_item o g.F.TwoAdicField.two_adic coset.shift k place o.zero (mod-lt c.args.index (pow_pos k)))
