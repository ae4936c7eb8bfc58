use Rattle.std.proofs.Common.{◌∙◌, ap, subst}
use Rattle.p3_theory.specs.Rings.Powers.{power}
use Rattle.p3_theory.specs.Roots.Monomials.{AreInverseExponents, residue_power_undone, inverse_exponents_swap}
use Rattle.p3_prime_fields.specs.Elements.{ops, is}
use Rattle.p3_prime_fields.proofs.monomials.FpPermutationMonomial.injective_exp_root_n.Goals as goal

pub returns : goal.returns
returns g c = λ domain.
    let N = g.row.N in
    let form = g.W.Form in
    let exponent = g.W.Modulus.MonomialConstants.ROOT_EXPONENT in
    ap (λ z. power (ops form) z N) c.root_power.ensures
    ∙ residue_power_undone (is form) domain exponent N (inverse_exponents_swap form.ORDER N exponent (subst (λ n. AreInverseExponents n N exponent) g.met.W.OverModulus.same_order g.met.W.Modulus.MonomialConstants.inverse_exponents)) c.args.self.now
