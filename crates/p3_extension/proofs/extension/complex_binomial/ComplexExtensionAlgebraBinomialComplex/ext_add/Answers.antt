use Rattle.p3_theory.specs.Polynomials.Polynomial.{binomial}
use Rattle.p3_extension.specs.ComplexValues.{complex_ops}
use Rattle.p3_extension.specs.EntryOperators.{sums_of_values}
use Rattle.p3_extension.proofs.extension.complex_binomial.ComplexExtensionAlgebraBinomialComplex.ext_add.Goals as goal

pub add_each-requires-clause-adds : goal.add_each-requires-clause-adds
add_each-requires-clause-adds g c = λ _ _ _ _ _. g.met.F.PrimeCharacteristicRing.adds.callable _ _

pub returns : goal.returns
returns g c =
    let o = g.F.PrimeCharacteristicRing.ops in
    c.add_each.ensures g.row.D (complex_ops o) c.requires.left
    (sums_of_values o (binomial o 2 (o.neg o.one)) g.F.Add.can_add g.F.Add.add_gives g.met.F.PrimeCharacteristicRing.adds)
