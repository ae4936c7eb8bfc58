-- Whole numbers as elements of a ring: one taken so many times.
use Rattle.std.specs.Prelude.{◌≡◌, ℕ, zero, suc, ◌+◌, ◌*◌, ◌%◌, ◌/◌, ◌-◌, ◌<◌, ℤ, pos, negsuc}
use Rattle.std.proofs.Common.{ap, ap₂, sym, ◌∙◌, arith}
use Rattle.std.proofs.Math.Nat.{mod-add-div, mod-lt}
use Rattle.p3_theory.specs.Rings.Ring.{Ops, Ring, RingLaws, ring_of}
use Rattle.p3_theory.specs.Rings.Basics as Basics

-- one added n times
abbrev pub of_nat : {A : Type 0} → Ops A → ℕ → A
of_nat O zero = O.zero
of_nat O (suc n) = O.add O.one (of_nat O n)

-- the same, negated below zero
abbrev pub of_int : {A : Type 0} → Ops A → ℤ → A
of_int O (pos n) = of_nat O n
of_int O (negsuc n) = O.neg (of_nat O (suc n))

-- two
abbrev pub two : {A : Type 0} → Ops A → A
two O = O.add O.one O.one

-- the remainder of a whole number of either sign, from 0 to n - 1
abbrev pub remainder_of : ℤ → ℕ → ℕ
remainder_of (pos a) n = a % n
remainder_of (negsuc a) n = n - 1 - a % n

-- one of 0 to n - 1
abbrev pub IsCanonical : ℤ → ℕ → Type 0
IsCanonical z n = (m : ℕ) × (m < n) × (z ≡ pos m)

module _ {A : Type 0} (R : Ring A) where
  pub of_nat-add : (m n : ℕ) → of_nat R.ops (m + n) ≡ R.add (of_nat R.ops m) (of_nat R.ops n)
  of_nat-add zero n = (let e : zero + n ≡ n = omega arith in ap (of_nat R.ops) e) ∙ sym (Basics.zero-add R (of_nat R.ops n))
  of_nat-add (suc m) n = (let e : suc m + n ≡ suc (m + n) = omega arith in ap (of_nat R.ops) e)
      ∙ ap (R.add R.one) (of_nat-add m n) ∙ sym (R.add_assoc _ _ _)

  of_nat-multiple : (n : ℕ) → of_nat R.ops n ≡ R.zero → (q : ℕ) → of_nat R.ops (n * q) ≡ R.zero
  of_nat-multiple n e zero = let k : n * 0 ≡ 0 = omega arith in ap (of_nat R.ops) k
  of_nat-multiple n e (suc q) = (let k : n * suc q ≡ n + n * q = omega arith in ap (of_nat R.ops) k)
      ∙ of_nat-add n (n * q) ∙ ap₂ R.add e (of_nat-multiple n e q) ∙ R.add_zero R.zero

  -- where n ones make zero, only the remainder counts
  pub of_nat-remainder : (n : ℕ) → of_nat R.ops n ≡ R.zero → (a : ℕ) → of_nat R.ops (a % n) ≡ of_nat R.ops a
  of_nat-remainder n e a =
      let k : a ≡ a % n + n * (a / n) = omega (arith, mod-add-div a n) in
      sym (ap (of_nat R.ops) k ∙ of_nat-add (a % n) (n * (a / n)) ∙ ap (R.add (of_nat R.ops (a % n))) (of_nat-multiple n e (a / n)) ∙ R.add_zero _)

  -- the same of a whole number of either sign
  pub of_int-remainder : (n : ℕ) → 0 < n → of_nat R.ops n ≡ R.zero → (z : ℤ) → of_nat R.ops (remainder_of z n) ≡ of_int R.ops z
  of_int-remainder n h e (pos a) = of_nat-remainder n e a
  of_int-remainder n h e (negsuc a) =
      let below : a % n < n = mod-lt a h in
      let whole : n - 1 - a % n + suc a ≡ n * suc (a / n) = omega (arith, mod-add-div a n) in
      Basics.neg_unique R (of_nat R.ops (suc a)) _ (sym (of_nat-add (n - 1 - a % n) (suc a)) ∙ ap (of_nat R.ops) whole ∙ of_nat-multiple n e (suc (a / n)))

-- what is made from a residue is one taken as many times as the whole number says
pub multiple_of_residue : {A : Type 0} {O : Ops A} → RingLaws O → (n : ℕ) → of_nat O n ≡ O.zero → (z : ℤ) (k : ℕ) → k ≡ remainder_of z n → k < n
    → (r : A) → r ≡ of_nat O k → r ≡ of_int O z
multiple_of_residue {O = O} l n e z k h b r m =
    let above : 0 < n = omega arith in
    m ∙ ap (of_nat O) h ∙ of_int-remainder (ring_of l) n above e z
