use Rattle.std.proofs.Common.{ap, ◌∙◌}
use Rattle.p3_theory.specs.Polynomials.Polynomial.{quotient_mul, binomial}
use Rattle.p3_extension_formulas.proofs.binomial_extension.binomial_mul.Goals as goal

pub returns-clause-becomes : goal.returns-clause-becomes
returns-clause-becomes g c fixed =
    let o = g.R.PrimeCharacteristicRing.ops in
    c.algebra_mul.ensures.becomes fixed
    ∙ ap (λ b. quotient_mul o g.row.D (binomial o g.row.D (g.R.Algebra-1.embed c.args.w)) c.args.a.now b) c.embed_entries.ensures
