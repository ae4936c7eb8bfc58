use Rattle.p3_theory.specs.Bases.BasisSums.{MakesBasisSum}
use Rattle.p3_extension_traits.proofs.extension_field.ExtensionField.from_ext_basis_coefficients.Given as goal

abbrev pub invariant-loop-j : goal.invariant-loop-j
invariant-loop-j g l =
    let v = g.Self.BasedVectorSpace in
    MakesBasisSum g.Base.PrimeCharacteristicRing.ops g.Self.PrimeCharacteristicRing.ops v.coefficients v.DIMENSION l.coeffs l.j l.sum
