-- Numbers as elements of a ring and of residues: one taken so many times.
use Rattle.std.specs.Prelude.{◌≡◌, ℕ, zero, suc, ◌+◌, ◌*◌, ◌%◌, List, [], ◌∷◌, map, refl}
use Rattle.std.proofs.Common.{ap, ap₂, sym, ◌∙◌, arith}
use Rattle.std.proofs.Math.Nat.{zero-mod}
use Rattle.p3_theory.specs.Rings.Ring.{Ops, Ring}
use Rattle.p3_theory.specs.Rings.Multiples.{of_nat, of_nat-add}
use Rattle.p3_theory.specs.Rings.Powers.{eval}
use Rattle.p3_theory.specs.Rings.Homomorphism.{identity, map-of_nat}
use Rattle.p3_theory.specs.Rings.Basics as Basics
use Rattle.p3_theory.specs.Polynomials.HornerFold.{eval-cons}
use Rattle.p3_theory.specs.ResidueRings.Modular.{add-mod_second}
use Rattle.p3_theory.specs.ResidueRings.Residues.{AreResidues, residues}
use Rattle.p3_helpers.specs.Digits.{num}

module _ {A : Type 0} (R : Ring A) where
  pub of_nat-mul : (m n : ℕ) → of_nat R.ops (m * n) ≡ R.mul (of_nat R.ops m) (of_nat R.ops n)
  of_nat-mul zero n = (let e : zero * n ≡ zero = omega arith in ap (of_nat R.ops) e) ∙ sym (Basics.zero-mul R (of_nat R.ops n))
  of_nat-mul (suc m) n =
      (let e : suc m * n ≡ n + m * n = omega arith in ap (of_nat R.ops) e) ∙ of_nat-add R n (m * n)
      ∙ ap₂ R.add (sym (Basics.one-mul R (of_nat R.ops n))) (of_nat-mul m n)
      ∙ sym (Basics.add-mul R R.one (of_nat R.ops m) (of_nat R.ops n))

  -- digits as coefficients have their number as the value at the radix
  pub eval-digits : (ds : List ℕ) (b : ℕ) → eval R.ops R.ops (λ x. x) (of_nat R.ops b) (map (of_nat R.ops) ds) ≡ of_nat R.ops (num ds b)
  eval-digits [] b = refl
  eval-digits (d ∷ ds) b =
      eval-cons R R (λ x. x) (identity R.ops) (of_nat R.ops b) (of_nat R.ops d) (map (of_nat R.ops) ds)
      ∙ ap (λ y. R.add (of_nat R.ops d) (R.mul (of_nat R.ops b) y)) (eval-digits ds b)
      ∙ sym (of_nat-add R d (b * num ds b) ∙ ap (R.add (of_nat R.ops d)) (of_nat-mul b (num ds b)))

of_nat-residue : (n m : ℕ) → of_nat (residues n) m ≡ m % n
of_nat-residue n zero = sym (zero-mod n)
of_nat-residue n (suc m) = ap (λ k. (1 + k) % n) (of_nat-residue n m) ∙ add-mod_second 1 m n ∙ (let e : 1 + m ≡ suc m = omega arith in ap (λ k. k % n) e)

module _ {A : Type 0} {n : ℕ} {O : Ops A} {canon : A → ℕ} (are : AreResidues n O canon) where
  -- a value with the remainder of m is one taken m times
  pub residue-multiple : (x : A) (m : ℕ) → canon x ≡ m % n → x ≡ of_nat O m
  residue-multiple x m h = are.same x (of_nat O m) (h ∙ sym (map-of_nat are.keeps m ∙ of_nat-residue n m))
