use Rattle.p3_theory.specs.Polynomials.Polynomial.{binomial}
use Rattle.p3_extension.specs.ComplexValues.{complex_ops}
use Rattle.p3_extension.specs.EntryOperators.{differences_of_values}
use Rattle.p3_extension.proofs.extension.complex_binomial.ComplexExtensionAlgebraBinomialComplex.ext_sub.Goals as goal

pub sub_each-requires-clause-subs : goal.sub_each-requires-clause-subs
sub_each-requires-clause-subs g c = λ _ _ _ _ _. g.met.F.PrimeCharacteristicRing.subs.callable _ _

pub returns : goal.returns
returns g c =
    let o = g.F.PrimeCharacteristicRing.ops in
    c.sub_each.ensures g.row.D (complex_ops o) c.requires.left
    (differences_of_values o (binomial o 2 (o.neg o.one)) g.F.Sub.can_sub g.F.Sub.sub_gives g.met.F.PrimeCharacteristicRing.subs)
