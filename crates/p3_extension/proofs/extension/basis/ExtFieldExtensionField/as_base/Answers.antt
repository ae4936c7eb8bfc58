use Rattle.std.proofs.Common.{◌<◌, length, refl, sym, ap, ◌∙◌, arith}
use Rattle.p3_theory.specs.Polynomials.Polynomial.{at}
use Rattle.p3_theory.specs.Lists.ByIndex.{read_at}
use Rattle.p3_theory.specs.Bases.BasisSums.{IsScalar, scalar-embedded}
use Rattle.p3_extension.specs.Bases.{some_index}
use Rattle.p3_extension.specs.Values.{constant, same_value}
use Rattle.p3_extension.proofs.extension.basis.ExtFieldExtensionField.as_base.Goals as goal

pub returns-clause-embedded : goal.returns-clause-embedded
returns-clause-embedded g c =
    let o = g.F.PrimeCharacteristicRing.ops in
    let x = c.args.self.now in
    let first = c.index-self-0.result in
    let some : 0 < length x.value = omega (arith, x.sized, some_index g.met.F.ExtensionAlgebra.at_least_two) in
    let scalar : IsScalar o x.value = (rw c.if-not-is_in_basefield.false at c.is_in_basefield.ensures).0 refl in
    ap (constant o) (sym c.index-self-0.is ∙ sym (read_at x.value 0 first o.zero some c.index-self-0.is))
    ∙ same_value (constant o (at o x.value 0)) x (sym (scalar-embedded o g.row.D x.value x.sized scalar))
