-- The base inside an extension.
use Rattle.std.specs.Prelude.{◌≡◌, ◌≤◌, ◌<◌, ℕ, List, length, refl}
use Rattle.std.proofs.Common.{ap, arith, ◌∙◌, sym, zero, suc}
use Rattle.p3_theory.specs.Rings.Ring.{Ring, Hom}
use Rattle.p3_theory.specs.Polynomials.Polynomial.{IsMonic, embed}
use Rattle.p3_theory.specs.Rings.Multiples.{of_nat}
use Rattle.p3_theory.specs.Rings.Homomorphism.{map-of_nat}
use Rattle.p3_theory.specs.Polynomials.Substitution as Substitution
use Rattle.p3_extension.specs.Values.{constant, ext_ops, same_value, value_of}
use Rattle.p3_extension.specs.declared.extension.ext_field.ExtField.{ExtField}

-- the base is embedded: its operations are kept
pub embedding : {F S A : Type 0} (R : Ring A) (D : ℕ) → 2 ≤ D → (f : List A) → IsMonic R.ops D f
    → Hom R.ops (ext_ops {F = F} {D = D} {S = S} R.ops f) (constant R.ops)
embedding R zero h f m = absurd (omega arith)
embedding R (suc d) h f m = record {
  zero = refl;
  one = refl;
  add = λ x y. same_value _ _ (ap (λ v. v.0) ((Substitution.hom R d f m).add x y));
  neg = λ x. same_value _ _ (ap (λ v. v.0) ((Substitution.hom R d f m).neg x));
  mul = λ x y. same_value _ _ (ap (λ v. v.0) ((Substitution.hom R d f m).mul x y));
}

-- so a multiple of one is embedded, and the characteristic is that of the base
pub characteristic_of : {F S A : Type 0} (R : Ring A) (D : ℕ) → 2 ≤ D → (f : List A) → IsMonic R.ops D f → (n : ℕ) → of_nat R.ops n ≡ R.zero
    → of_nat (ext_ops {F = F} {D = D} {S = S} R.ops f) n ≡ (ext_ops {F = F} {D = D} {S = S} R.ops f).zero
characteristic_of {F = F} {S = S} R D h f m n e =
    sym (map-of_nat (embedding {F = F} {S = S} R D h f m) n) ∙ ap (constant R.ops) e

-- the value of a coefficient that is a multiple of one is that multiple
pub multiple_of_one : {F S A : Type 0} (R : Ring A) (D : ℕ) → 2 ≤ D → (f : List A) → IsMonic R.ops D f → (r : ExtField F D S A) (x : A) (n : ℕ)
    → r.value ≡ embed R.ops D x → x ≡ of_nat R.ops n → r ≡ of_nat (ext_ops R.ops f) n
multiple_of_one {F = F} {S = S} R D h f m r x n e k =
    same_value r (constant R.ops x) e ∙ ap (constant R.ops) k ∙ map-of_nat (embedding {F = F} {S = S} R D h f m) n

-- a degree of two or more has an index 0
pub some_index : {D : ℕ} → 2 ≤ D → 0 < D
some_index h = omega arith

-- the value with some D coefficients
pub with_coefficients : {F S A : Type 0} {D : ℕ} (xs : List A) → length xs ≡ D → (x : ExtField F D S A) × (x.value ≡ xs)
with_coefficients xs h = (value_of xs h, refl)
