-- Residues as a base of the calculator's extensions.
use Rattle.std.specs.Prelude.{ℕ, ℤ, List, Some, refl, decimal, map, get_or}
use Rattle.p3_theory.specs.Polynomials.IntegerPolynomials.{over}
use Rattle.p3_theory.specs.Polynomials.Polynomial.{tabulate, binomial}
use Rattle.p3_theory.specs.ResidueRings.Residues.{are_residues}
use Rattle.p3_prime_fields.specs.declared.form.Form as forms
use Rattle.p3_prime_fields.specs.declared.form.Word as words
use Rattle.p3_prime_fields.specs.declared.fp.Fp.{Fp}
use Rattle.p3_prime_fields.specs.Elements.{canon, of, ops, is}
use Rattle.p3_calculator.specs.Fields.{FieldSpec, PolynomialsModulo}
use Rattle.p3_calculator.specs.Representation.{IsBase}

pub residues_are_base : {W T : Type 0} {form : forms.Ghosts W T} {bounds : words.Ghosts T}
    → IsBase form.ORDER (canon form {bounds = bounds}) (ops form) (Some form.ORDER) (λ x. decimal (canon form x))
residues_are_base {form = form} = record { residues = are_residues (is form); size_is = refl; texts = λ x. refl }

-- the field of the polynomials over residues modulo one of degree D, with the residues of g as the chosen element
module _ {W T : Type 0} (form : forms.Ghosts W T) (bounds : words.Ghosts T) (D : ℕ) where
  abbrev polynomials_modulo : List (Fp W T form bounds) → List ℕ → FieldSpec
  polynomials_modulo f g = PolynomialsModulo form.ORDER D (map (canon form) f) (map (canon form {bounds = bounds}) (tabulate D (λ i. of form (get_or g i 0))))

  -- by X^D = w
  abbrev pub binomial_field : ℕ → List ℕ → FieldSpec
  binomial_field w g = polynomials_modulo (binomial (ops form) D (of form w)) g

  -- by a polynomial with integer coefficients
  abbrev pub polynomial_field : List ℤ → List ℕ → FieldSpec
  polynomial_field f g = polynomials_modulo (over (ops form) f) g
