use Rattle.std.proofs.Common.{◌≡◌, ◌∙◌, ◌^◌, Some, IsSome, sym, ap, subst}
use Rattle.p3_theory.specs.Polynomials.Coefficients.{length-tabulate}
use Rattle.p3_theory.specs.Polynomials.Polynomial.{tabulate}
use Rattle.p3_theory.specs.Roots.PowersOfTwo.{at_least_two}
use Rattle.p3_extension.specs.Orders.{extension_size, extension_values}
use Rattle.p3_extension.specs.Values.{ext_ops, value_of, constants_apart}
use Rattle.p3_calculator.proofs.RootSearches.{searched, extension_order, extension_order_given}
use Rattle.p3_calculator.proofs.field.ExtFieldCalculatorField.root.Goals as goal

pub tonelli_shanks-requires : goal.tonelli_shanks-requires
tonelli_shanks-requires g c =
    subst (λ s. IsSome (extension_size s g.row.D)) (sym g.met.F.Named.is_base.size_is) (extension_order_given g.F.Base.base_order g.row.D g.met.F.Named.order_fits)

pub returns : goal.returns
returns g c =
    let F = g.F.FrobeniusExtendable in
    let D = g.row.D in
    let field = g.met.F.Field in
    let n = g.F.Base.base_order ^ D in
    let fits = g.met.F.Named.order_fits in
    let given : extension_size g.F.Field.size D ≡ Some n = ap (λ s. extension_size s D) g.met.F.Named.is_base.size_is ∙ extension_order g.F.Base.base_order D fits in
    let E = ext_ops g.F.PrimeCharacteristicRing.ops g.F.ExtensionAlgebra.modulus in
    let apart = constants_apart g.F.PrimeCharacteristicRing.ops D g.met.F.ExtensionAlgebra.at_least_two field.zero_is_not_one in
    let above = at_least_two E.zero E.one apart (extension_values g.F.Field.size D field.values n given) in
    let chosen = value_of (tabulate D F.generator_coefficients) (length-tabulate D F.generator_coefficients) in
    searched E (extension_size g.F.Field.size D) n given above fits chosen c.args.self _ c.tonelli_shanks.ensures.root c.tonelli_shanks.ensures.counted
