use Rattle.std.proofs.Common.{◌≡◌, ◌∙◌, arith, subst}
use Rattle.std.proofs.lemmas.List.{length-set}
use Rattle.p3_theory.specs.Polynomials.Polynomial.{tabulate}
use Rattle.p3_theory.specs.Polynomials.Coefficients.{length-tabulate}
use Rattle.p3_theory.specs.Lists.TabulatedEntries.{HoldsBelow, holds-all, holds-more}
use Rattle.p3_extension.specs.Values.{value_of, same_value}
use Rattle.p3_extension.proofs.extension.frobenius.ExtFieldField.generator.Goals as goal

pub returns : goal.returns
returns g c =
    let s = g.F.FrobeniusExtendable.generator_coefficients in
    let o = g.F.PrimeCharacteristicRing.ops in
    let all : c.loop-i.i ≡ g.row.D = omega arith in
    let held = subst (HoldsBelow s o.zero c.loop-i.value) all c.loop-i.invariant.1 in
    same_value c.new.result (value_of (tabulate g.row.D s) (length-tabulate g.row.D s)) (c.new.ensures ∙ holds-all s o.zero c.loop-i.value g.row.D c.loop-i.invariant.0 held)

pub loop-i-preserved : goal.loop-i-preserved
loop-i-preserved g c =
    let v = c.loop-i.value in
    let i = c.loop-i.i in
    let r = c.generator_coefficient.result in (
      length-set v i r ∙ c.loop-i.invariant.0,
      holds-more g.F.FrobeniusExtendable.generator_coefficients g.F.PrimeCharacteristicRing.ops.zero v i r (omega (arith, c.loop-i-test.true, c.loop-i.invariant.0)) c.loop-i.invariant.1 c.generator_coefficient.ensures,
    )
