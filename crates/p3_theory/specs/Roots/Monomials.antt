-- Powers that keep distinct values distinct, and the powers that undo them.
use Rattle.std.specs.Prelude.{◌≡◌, ◌≢◌, ◌⊎◌, ◌-◌, ◌*◌, ℕ, suc}
use Rattle.std.proofs.Common.{ap, arith, ◌∙◌, sym, inl, inr}
use Rattle.std.proofs.lemmas.Bool.{cases_eq}
use Rattle.p3_theory.specs.Rings.Ring.{Ops, RingLaws, ring_of}
use Rattle.p3_theory.specs.Rings.Powers.{power}
use Rattle.p3_theory.specs.Rings.PowerChains.{power-power}
use Rattle.p3_theory.specs.Rings.PowerProducts.{power_of_one}
use Rattle.p3_theory.specs.Rings.Basics.{zero-mul}
use Rattle.p3_theory.specs.ResidueRings.Residues.{IsResidues, residue_ops, residue_laws, same_canon}
use Rattle.p3_theory.specs.Roots.ValueLists.{ValueList, values-residues}
use Rattle.p3_theory.specs.Rings.ZeroDivisors.{HasNoZeroDivisors}
use Rattle.p3_theory.specs.Roots.Fermat.{fermat}

-- values with one power n are one value
abbrev pub IsInjectivePower : {A : Type 0} → Ops A → ℕ → Type 0
IsInjectivePower {A} O n = (x y : A) → power O x n ≡ power O y n → x ≡ y

-- the product of a and b is one more than a multiple of n - 1
abbrev pub AreInverseExponents : ℕ → ℕ → ℕ → Type 0
AreInverseExponents n a b = (k : ℕ) × (a * b ≡ suc ((n - 1) * k))

pub inverse_exponents_swap : (n a b : ℕ) → AreInverseExponents n a b → AreInverseExponents n b a
inverse_exponents_swap n a b e = (e.0, omega (arith, e.1))

-- among n values without zero divisors, of which each is zero or not, such powers undo each other
module _ {A : Type 0} {O : Ops A} (l : RingLaws O) {n : ℕ} (values : ValueList A n) (tell : (x : A) → (x ≡ O.zero) ⊎ (x ≢ O.zero)) (domain : HasNoZeroDivisors O) where
  pub power_undone : (a b : ℕ) → AreInverseExponents n a b → (x : A) → power O (power O x a) b ≡ x
  power_undone a b e x =
      power-power l x a b ∙ ap (power O x) e.1 ∙ elim (tell x) [
        | inl zero ↦ ap (λ z. O.mul z (power O x ((n - 1) * e.0))) zero ∙ zero-mul (ring_of l) _ ∙ sym zero
        | inr other ↦
            ap (O.mul x) (sym (power-power l x (n - 1) e.0) ∙ ap (λ z. power O z e.0) (fermat l domain values x other) ∙ power_of_one l e.0) ∙ l.mul_one x
      ]

  pub injective_power : (a b : ℕ) → AreInverseExponents n a b → IsInjectivePower O a
  injective_power a b e x y same = sym (power_undone a b e x) ∙ ap (λ z. power O z b) same ∙ power_undone a b e y

-- the same of residues, in whatever form they are stored
module _ {A : Type 0} {n : ℕ} {canon : A → ℕ} {of : ℕ → A} (is : IsResidues n canon of) where
  abbrev O : Ops A
  O = residue_ops n canon of

  tell : (x : A) → (x ≡ O.zero) ⊎ (x ≢ O.zero)
  tell x = elim (cases_eq (canon x) (canon O.zero)) [ inl p ↦ inl (same_canon is x O.zero p) | inr p ↦ inr (λ q. p (ap canon q)) ]

  pub residue_power_undone : HasNoZeroDivisors O → (a b : ℕ) → AreInverseExponents n a b → (x : A) → power O (power O x a) b ≡ x
  residue_power_undone = power_undone (residue_laws is) (values-residues is) tell

  pub residue_injective_power : HasNoZeroDivisors O → (a b : ℕ) → AreInverseExponents n a b → IsInjectivePower O a
  residue_injective_power = injective_power (residue_laws is) (values-residues is) tell
