use Rattle.std.proofs.Common.{map, refl, ◌∙◌}
use Rattle.p3_theory.specs.Polynomials.Polynomial.{quotient_mul}
use Rattle.p3_c_calls.proofs.CoefficientLists.{coefficients, are-words, pair-lists}
use Rattle.p3_c_calls.proofs.extensions.multiply.Goals as goal

pub returns : goal.returns
returns g c =
    let r = g.F.Stored.words in
    let d = g.row.D in
    let made = c.pairs.ensures in
    let times = quotient_mul g.F.PrimeCharacteristicRing.ops d g.F.ExtensionAlgebra.modulus in (
      search,
      (
        map coefficients made.0,
        map coefficients made.1,
        are-words d r coefficients (λ x. x.sized) made.0 c.args.left.now made.3,
        are-words d r coefficients (λ x. x.sized) made.1 c.args.right.now made.4,
        made.5 ∙ pair-lists d r coefficients _ times (λ x y. refl) made.0 made.1,
      ),
    )
