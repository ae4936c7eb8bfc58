-- Halves of residues.
use Rattle.std.specs.Prelude.{◌≡◌, ◌<◌, ◌+◌, ◌*◌, ◌/◌, ◌%◌, ℕ}
use Rattle.std.proofs.Common.{ap, ap₂, sym, ◌∙◌, arith, inl, inr}
use Rattle.std.proofs.Math.Nat.{add-mul-mod_self_left, mod-add-div, mod-eq_of_lt, mul_assoc}
use Rattle.std.proofs.lemmas.Bool.{cases_lt}
use Rattle.std.proofs.lemmas.Nat.{mul-mod_first, mul-mod_second}
use Rattle.p3_theory.specs.Rings.Multiples.{two}
use Rattle.p3_theory.specs.Rings.Ring.{Invertible}
use Rattle.p3_theory.specs.ResidueRings.Residues.{IsResidues, residue_ops}
use Rattle.p3_residues.specs.Inverses.{inverse_of_modulo, modulo_of_inverse}

-- modulo an even number no multiple of two is one
odd_modulus : (n c : ℕ) → (2 * c) % n ≡ 1 → n % 2 ≡ 1
odd_modulus n c h =
    elim (cases_lt (n % 2) 1) [
      | inl even ↦
          let whole : n ≡ 2 * (n / 2) = omega arith in
          let multiple : n * (2 * c / n) ≡ 2 * (n / 2 * (2 * c / n)) = ap (λ k. k * (2 * c / n)) whole ∙ mul_assoc 2 (n / 2) (2 * c / n) in
          omega (arith, mod-add-div (2 * c) n, multiple, h)
      | inr odd ↦ omega arith
    ]

-- modulo an odd number above one, half of what follows it is an inverse of two
half_is_inverse : (n : ℕ) → 1 < n → n % 2 ≡ 1 → (2 % n * ((n + 1) / 2 % n)) % n ≡ 1
half_is_inverse n above odd =
    let half = (n + 1) / 2 in
    let whole : 2 * half ≡ 1 + n * 1 = omega arith in
    mul-mod_first 2 (half % n) n ∙ mul-mod_second 2 half n ∙ ap (λ k. k % n) whole ∙ add-mul-mod_self_left 1 n 1 ∙ mod-eq_of_lt above

module _ {A : Type 0} {n : ℕ} {canon : A → ℕ} {of : ℕ → A} (is : IsResidues n canon of) where
  two-is_two : canon (two (residue_ops n canon of)) ≡ 2 % n
  two-is_two =
      let one_is : canon (of 1) ≡ 1 = is.canon_of 1 ∙ mod-eq_of_lt is.above_one in
      is.canon_of _ ∙ ap₂ (λ a b. (a + b) % n) one_is one_is

  -- two has an inverse only where the order is odd
  pub odd_order : Invertible (residue_ops n canon of) (two (residue_ops n canon of)) → n % 2 ≡ 1
  odd_order (y, h) =
      odd_modulus n (canon y) (sym (mul-mod_first 2 (canon y) n) ∙ ap (λ k. (k * canon y) % n) (sym two-is_two) ∙ modulo_of_inverse is _ y h)

  -- and it has one there
  pub two_has_inverse : n % 2 ≡ 1 → Invertible (residue_ops n canon of) (two (residue_ops n canon of))
  two_has_inverse odd =
      let half = of ((n + 1) / 2) in
      (half, inverse_of_modulo is _ half (ap₂ (λ a b. (a * b) % n) two-is_two (is.canon_of _) ∙ half_is_inverse n is.above_one odd))
