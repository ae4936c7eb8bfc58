-- Two-adic generators as values of an extension.
use Rattle.std.specs.Prelude.{ℕ, List, refl}
use Rattle.p3_theory.specs.Rings.Ring.{Ops, Hom}
use Rattle.p3_theory.specs.Polynomials.Polynomial.{binomial, quotient_ops}
use Rattle.p3_theory.specs.FrobeniusMaps.TableEntries.{binomial-along}
use Rattle.p3_theory.specs.Polynomials.Coefficients.{length-tabulate}
use Rattle.p3_theory.specs.Roots.TwoAdic.{AreTwoAdicGenerators}
use Rattle.p3_theory.specs.Roots.TwoAdicCoefficients.{with_coefficients, AreExtensionGenerators, coefficients-back}
use Rattle.p3_extension.specs.Values.{value_of, same_value, ext_ops}
use Rattle.p3_extension.specs.declared.extension.ext_field.ExtField.{ExtField}

-- the value for so many bits has the coefficient c bits i at X^i
abbrev pub generator_value : {F S A : Type 0} (D : ℕ) → (ℕ → ℕ → A) → ℕ → ExtField F D S A
generator_value D c bits = value_of (with_coefficients D c bits) (length-tabulate D (c bits))

-- generators by their coefficient lists are generators as values
pub values_are_generators : {F S A : Type 0} {D : ℕ} (o : Ops A) (f : List A) (s : ℕ) (c : ℕ → ℕ → A) → AreExtensionGenerators o D f s c
    → AreTwoAdicGenerators (ext_ops {F = F} {D = D} {S = S} o f) s (generator_value D c)
values_are_generators o f s c a = record {
  trivial = same_value _ _ a.trivial;
  squares = λ k below. same_value _ _ (a.squares k below);
  minus_one = λ some. same_value _ _ (a.minus_one some);
}

-- a value's coefficient list keeps the operations
pub list_keeps : {F S A : Type 0} {D : ℕ} (o : Ops A) (f : List A) → Hom (ext_ops {F = F} {D = D} {S = S} o f) (quotient_ops o D f) (λ v. v.value)
list_keeps o f = record { zero = refl; one = refl; add = λ _ _. refl; neg = λ _. refl; mul = λ _ _. refl }

-- generators over values, by X^E = w, from those over their coefficient lists
pub generators_over_values : {F S A : Type 0} {D : ℕ} (o : Ops A) (f : List A) (E : ℕ) (w : ExtField F D S A) (s : ℕ) (c : ℕ → ℕ → ExtField F D S A)
    → (let p = quotient_ops o D f in AreExtensionGenerators p E (binomial p E w.value) s (λ bits i. (c bits i).value))
    → (let p = ext_ops o f in AreExtensionGenerators p E (binomial p E w) s c)
generators_over_values {D = D} o f E w s c a =
    let keeps = list_keeps o f in
    coefficients-back keeps same_value E (binomial (ext_ops o f) E w) (binomial (quotient_ops o D f) E w.value) (binomial-along keeps E w) s c a
