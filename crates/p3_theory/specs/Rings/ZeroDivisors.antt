-- Rings in which a product is zero only where a factor is.
use Rattle.std.specs.Prelude.{◌≡◌, ◌≢◌, ◌⊎◌, ◌<◌, ◌*◌, ◌%◌, ◌==◌, ◌&&◌, ◌||◌, Bool, true, false, not, ℕ, zero, suc}
use Rattle.std.proofs.Common.{refl, ap, arith, ◌∙◌, sym, subst, inl, inr, eqb-true, eq-eqb}
use Rattle.std.proofs.lemmas.Bool.{cases_lt}
use Rattle.std.proofs.Math.Nat.{mod-eq_of_lt}
use Rattle.p3_theory.specs.Rings.Ring.{Ops, RingLaws, Ring, ring_of}
use Rattle.p3_theory.specs.Rings.Basics.{mul-zero, neg-neg, neg_unique}
use Rattle.p3_theory.specs.RingSolver.SolverSound.{and_true}
use Rattle.p3_theory.specs.ResidueRings.Residues.{IsResidues, residue_ops, canon-below, same_canon}

-- a product is zero only where a factor is
abbrev pub HasNoZeroDivisors : {A : Type 0} → Ops A → Type 0
HasNoZeroDivisors {A} O = (x y : A) → O.mul x y ≡ O.zero → (x ≡ O.zero) ⊎ (y ≡ O.zero)

-- a factor that is not zero may be taken away
pub mul_cancel : {A : Type 0} {O : Ops A} → RingLaws O → HasNoZeroDivisors O → (x y z : A) → x ≢ O.zero → O.mul x y ≡ O.mul x z → y ≡ z
mul_cancel {A} {O} l domain x y z nonzero h =
    let R : Ring A = ring_of l in
    let gone : O.mul x (O.add y (O.neg z)) ≡ O.zero =
    l.mul_add x y (O.neg z) ∙ ap (λ w. O.add w (O.mul x (O.neg z))) h ∙ sym (l.mul_add x z (O.neg z)) ∙ ap (O.mul x) (l.add_neg z) ∙ mul-zero R x in
    elim (domain x (O.add y (O.neg z)) gone) [
      | inl p ↦ absurd (nonzero p)
      | inr p ↦ neg_unique R (O.neg z) y p ∙ neg-neg R z
    ]

-- the test holds of each number below n
abbrev pub holds_below : ℕ → (ℕ → Bool) → Bool
holds_below zero p = true
holds_below (suc n) p = p n && holds_below n p

-- whether each product of numbers below n that is 0 modulo n has a factor 0
abbrev pub has_no_zero_divisors : ℕ → Bool
has_no_zero_divisors n = holds_below n (λ x. holds_below n (λ y. not ((x * y) % n == 0) || (x == 0 || y == 0)))

pub at_below : (n : ℕ) (p : ℕ → Bool) → holds_below n p ≡ true → (k : ℕ) → k < n → p k ≡ true
at_below zero p h k l = absurd (omega arith)
at_below (suc n) p h k l =
    let w = and_true (p n) (holds_below n p) h in
    elim (cases_lt k n) [
      | inl a ↦ at_below n p w.1 k a
      | inr a ↦ let same : n ≡ k = omega arith in subst (λ i. p i ≡ true) same w.0
    ]

either : (a b c : Bool) → not a || (b || c) ≡ true → a ≡ true → (b ≡ true) ⊎ (c ≡ true)
either true true c h k = inl refl
either true false c h k = inr h
either false b c h k = absurd (cc k)

zero_below : (n : ℕ) → has_no_zero_divisors n ≡ true → (x y : ℕ) → x < n → y < n → (x * y) % n ≡ 0 → (x ≡ 0) ⊎ (y ≡ 0)
zero_below n h x y a b z =
    let t = at_below n _ (at_below n (λ x. holds_below n (λ y. not ((x * y) % n == 0) || (x == 0 || y == 0))) h x a) y b in
    elim (either _ _ _ t (eq-eqb _ _ z)) [ inl p ↦ inl (eqb-true _ _ p) | inr p ↦ inr (eqb-true _ _ p) ]

-- what the test says of the residues, in whatever form they are stored
pub residues_have_no_zero_divisors : {A : Type 0} {n : ℕ} {canon : A → ℕ} {of : ℕ → A} → IsResidues n canon of → has_no_zero_divisors n ≡ true
    → HasNoZeroDivisors (residue_ops n canon of)
residues_have_no_zero_divisors {A} {n} {canon} {of} is h x y z =
    let at_zero : canon (of 0) ≡ 0 = is.canon_of 0 ∙ mod-eq_of_lt (omega (arith, is.above_one)) in
    let product : (canon x * canon y) % n ≡ 0 = sym (is.canon_of (canon x * canon y)) ∙ ap canon z ∙ at_zero in
    elim (zero_below n h (canon x) (canon y) (canon-below is x) (canon-below is y) product) [
      | inl p ↦ inl (same_canon is x (of 0) (p ∙ sym at_zero))
      | inr p ↦ inr (same_canon is y (of 0) (p ∙ sym at_zero))
    ]
