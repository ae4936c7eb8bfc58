use Rattle.std.proofs.Common.{map, ◌∙◌}
use Rattle.p3_theory.specs.FrobeniusMaps.Frobenius.{iterate}
use Rattle.p3_theory.specs.FrobeniusMaps.FrobeniusTable.{frobenius_list}
use Rattle.p3_c_calls.proofs.CoefficientLists.{coefficients, are-words, each-list, turned-list}
use Rattle.p3_c_calls.proofs.extensions.frobenius.Goals as goal

pub returns : goal.returns
returns g c =
    let r = g.F.Stored.words in
    let d = g.row.D in
    let o = g.F.PrimeCharacteristicRing.ops in
    let f = g.F.ExtensionAlgebra.modulus in
    let phi = g.F.FrobeniusExtendable.image in
    let made = c.each.ensures in
    let turned = iterate (frobenius_list o d f phi) c.args.count in (
      map coefficients made.0,
      are-words d r coefficients (λ x. x.sized) made.0 c.args.words.now made.1,
      made.2 ∙ each-list d r coefficients _ turned (turned-list d o f phi c.args.count) made.0,
    )
