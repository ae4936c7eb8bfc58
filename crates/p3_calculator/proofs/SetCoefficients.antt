-- Coefficients that are set, one or all.
use Rattle.std.proofs.Common.{◌≡◌, ◌∙◌, ℕ, zero, suc, List, ◌∷◌, refl, ap, set, map, replicate}
use Rattle.std.proofs.lemmas.List.{map-set}
use Rattle.p3_theory.specs.Polynomials.Polynomial.{tabulate, embed}
use Rattle.p3_theory.specs.ResidueRings.Residues.{are_residues, residues}
use Rattle.p3_prime_fields.specs.declared.form.Form as forms
use Rattle.p3_prime_fields.specs.declared.form.Word as words
use Rattle.p3_prime_fields.specs.declared.fp.Fp.{Fp}
use Rattle.p3_prime_fields.specs.Elements.{canon, of, is}

-- a value that stands for c is set at index i
pub map-set_value : {A : Type 0} (canon : A → ℕ) (old new : List A) (i : ℕ) (x : A) (c : ℕ) → new ≡ set old i x → canon x ≡ c → map canon new ≡ set (map canon old) i c
map-set_value canon old new i x c e value = ap (map canon) e ∙ map-set canon old i x ∙ ap (set (map canon old) i) value

-- all are one value
pub map-replicate : {A : Type 0} (canon : A → ℕ) (n : ℕ) (x : A) → map canon (replicate n x) ≡ replicate n (canon x)
map-replicate canon zero x = refl
map-replicate canon (suc n) x = ap (λ cs. canon x ∷ cs) (map-replicate canon n x)

-- so many zeros are the polynomial zero
tabulate-zero : (D : ℕ) → replicate {A = ℕ} D 0 ≡ tabulate D (λ k. 0)
tabulate-zero zero = refl
tabulate-zero (suc D) = ap (λ cs. 0 ∷ cs) (tabulate-zero D)

pub zero_coefficients : (n D : ℕ) → replicate {A = ℕ} D 0 ≡ embed (residues n) D 0
zero_coefficients n zero = refl
zero_coefficients n (suc D) = ap (λ cs. 0 ∷ cs) (tabulate-zero D)

-- zero stands for 0
pub canon-zero : {W T : Type 0} {form : forms.Ghosts W T} {bounds : words.Ghosts T} (x : Fp W T form bounds) → x ≡ of form 0 → canon form x ≡ 0
canon-zero {form = form} {bounds = bounds} x e = ap (canon form) e ∙ (are_residues (is form {bounds = bounds})).keeps.zero
