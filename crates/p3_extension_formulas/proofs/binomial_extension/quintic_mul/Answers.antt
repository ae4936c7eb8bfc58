use Rattle.std.proofs.Common.{ap, ◌∙◌}
use Rattle.p3_theory.specs.Polynomials.Polynomial.{quotient_mul, binomial}
use Rattle.p3_extension_formulas.proofs.binomial_extension.quintic_mul.Goals as goal

pub returns : goal.returns
returns g c =
    let o = g.R.PrimeCharacteristicRing.ops in
    c.quintic_product.ensures
    ∙ ap (λ b. quotient_mul o 5 (binomial o 5 (g.R.Algebra-1.embed c.args.w)) c.args.a.now b) c.embed_entries.ensures
