use Rattle.std.proofs.Common.{◌≡◌, rules}
use Rattle.std.specs.Prelude.{◌==◌, if◌then◌else◌}
use Rattle.p3_theory.specs.Lists.IndexCalls.{answers-tabulate}
use Rattle.p3_extension_traits.proofs.basis.BasedVectorSpace.ith_basis_element.Goals as goal

pub returns-then-i-DIMENSION-clause-basis : goal.returns-then-i-DIMENSION-clause-basis
returns-then-i-DIMENSION-clause-basis g c =
    let o = g.F.PrimeCharacteristicRing.ops in
    answers-tabulate _ (λ p. (p.0.now ≡ c.args.i) × (p.1.now ≡ o.one) × (p.2.now ≡ o.zero)) (λ k. if k == c.args.i then o.one else o.zero) (λ p k y q kept h. search rules) o.zero _ _
    g.Self.BasedVectorSpace.DIMENSION (search rules) c.from_basis_coefficients_fn.ensures
