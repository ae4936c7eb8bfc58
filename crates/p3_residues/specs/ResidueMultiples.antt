-- One taken so many times, among residues.
use Rattle.std.specs.Prelude.{◌≡◌, ℕ, zero, suc, ◌+◌, ◌%◌, refl}
use Rattle.std.proofs.Common.{ap, sym, ◌∙◌, arith}
use Rattle.std.proofs.Math.Nat.{mod_self}
use Rattle.p3_theory.specs.Rings.Multiples.{of_nat}
use Rattle.p3_theory.specs.ResidueRings.Residues.{IsResidues, residue_ops, of_keeps}

module _ {A : Type 0} {n : ℕ} {canon : A → ℕ} {of : ℕ → A} (is : IsResidues n canon of) where
  remainder_is : (m : ℕ) → of (m % n) ≡ of m
  remainder_is m = ap of (sym (is.canon_of m)) ∙ is.of_canon (of m)

  -- one taken m times is the value of m
  pub of_nat-is_of : (m : ℕ) → of_nat (residue_ops n canon of) m ≡ of m
  of_nat-is_of zero = refl
  of_nat-is_of (suc m) =
      ap ((residue_ops n canon of).add (of 1)) (of_nat-is_of m)
      ∙ sym ((of_keeps is).add 1 m) ∙ remainder_is (1 + m) ∙ (let e : 1 + m ≡ suc m = omega arith in ap of e)

  -- one taken as many times as the order is zero
  pub of_nat-order : of_nat (residue_ops n canon of) n ≡ of 0
  of_nat-order = of_nat-is_of n ∙ sym (remainder_is n) ∙ ap of (mod_self n)

  -- one taken as many times as the canonical value says is the value
  pub of_nat-canon : (x : A) → x ≡ of_nat (residue_ops n canon of) (canon x)
  of_nat-canon x = sym (of_nat-is_of (canon x) ∙ is.of_canon x)
