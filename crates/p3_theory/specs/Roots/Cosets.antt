-- Cosets of the subgroups of roots of unity whose orders are powers of two.
use Rattle.std.specs.Prelude.{◌≡◌, ◌≢◌, ◌<◌, ◌≤◌, ◌+◌, ◌-◌, ◌/◌, ◌%◌, ◌^◌, ◌⊎◌, ℕ, zero, suc, List, Contains, get_or}
use Rattle.std.proofs.Common.{ap, arith, ◌∙◌, sym, inl, inr, [], ◌∷◌, lit<, pow-add}
use Rattle.std.proofs.Math.Nat.{pow-suc, mul_comm}
use Rattle.p3_theory.specs.Rings.Ring.{Ops, RingLaws, Ring, ring_of}
use Rattle.p3_theory.specs.Rings.Basics.{mul_left_comm, neg-mul, neg-neg, neg_unique, one-mul}
use Rattle.p3_theory.specs.Polynomials.Coefficients.{length-tabulate}
use Rattle.p3_theory.specs.Lists.ByIndex.{get-tabulate}
use Rattle.p3_theory.specs.Rings.Powers.{power}
use Rattle.p3_theory.specs.Rings.PowerLaws.{power-add, power-one, power-square, power-odd, power-even}
use Rattle.p3_theory.specs.Rings.PowerChains.{power-power}
use Rattle.p3_theory.specs.Rings.PowerProducts.{power-mul, power_of_one, power-inverse}
use Rattle.p3_theory.specs.Rings.GeometricSequence.{geometric_term, geometric_sequence}
use Rattle.p3_theory.specs.RingSolver.Reify.{by_laws, reads, yes}
use Rattle.p3_theory.specs.Roots.TwoAdic.{AreTwoAdicGenerators}
use Rattle.p3_theory.specs.Rings.ZeroDivisors.{HasNoZeroDivisors}

-- the coset of the subgroup of order 2^k: shift times the powers of its generator g k, from one on
abbrev pub coset : {A : Type 0} → Ops A → (ℕ → A) → A → ℕ → List A
coset O g shift k = geometric_sequence O (g k) shift (2 ^ k)

twice_power : (k : ℕ) → 2 ^ k + 2 ^ k ≡ 2 ^ suc k
twice_power k = omega (arith, pow-suc 2 k)

-- half of a number that has i binary digits has one fewer
pub halved_digits : (i n : ℕ) → 0 < n → n < 2 ^ i → (0 < i) × (n / 2 < 2 ^ (i - 1))
halved_digits zero n h b = absurd (omega (arith, h, b))
halved_digits (suc i) n h b =
    let e : suc i - 1 ≡ i = omega arith in
    (omega arith, rw e (omega (arith, b, pow-suc 2 i)))

-- the item at an index
pub coset_item : {A : Type 0} (O : Ops A) (g : ℕ → A) (shift : A) (k j : ℕ) (d : A) → j < 2 ^ k → get_or (coset O g shift k) j d ≡ O.mul shift (power O (g k) j)
coset_item O g shift k j d h = get-tabulate (2 ^ k) (geometric_term O (g k) shift) j d h

-- what agrees after i squarings agrees after more
pub agree_later : {A : Type 0} {O : Ops A} → RingLaws O → (x y : A) (i k : ℕ) → i ≤ k → power O x (2 ^ i) ≡ power O y (2 ^ i) → power O x (2 ^ k) ≡ power O y (2 ^ k)
agree_later {A} {O} l x y i k h e = onward x ∙ ap (λ z. power O z (2 ^ (k - i))) e ∙ sym (onward y)
  where
    onward : (z : A) → power O z (2 ^ k) ≡ power O (power O z (2 ^ i)) (2 ^ (k - i))
    onward z =
        let parts : i + (k - i) ≡ k = omega (arith, h) in
        ap (λ j. power O z (2 ^ j)) (sym parts) ∙ ap (power O z) (pow-add 2 i (k - i)) ∙ sym (power-power l z (2 ^ i) (2 ^ (k - i)))

module _ {A : Type 0} {O : Ops A} (l : RingLaws O) {s : ℕ} {g : ℕ → A} (t : AreTwoAdicGenerators O s g) where
  -- the square of a generator is the one before it
  pub generator_before : (i : ℕ) → 0 < i → i ≤ s → O.mul (g i) (g i) ≡ g (i - 1)
  generator_before zero h b = absurd (omega (arith, h))
  generator_before (suc i) h b = t.squares i (omega (arith, b)) ∙ (let e : i ≡ suc i - 1 = omega arith in ap g e)

  -- a binary digit of an exponent, the lowest first, and the generators in turn: the product so far
  -- times the power that is left stays
  pub digit_is_one : (p : A) (i n : ℕ) → 0 < i → i ≤ s → n % 2 ≡ 1 → O.mul (O.mul p (g i)) (power O (g (i - 1)) (n / 2)) ≡ O.mul p (power O (g i) n)
  digit_is_one p i n h b odd =
      ap (λ z. O.mul (O.mul p (g i)) (power O z (n / 2))) (sym (generator_before i h b))
      ∙ l.mul_assoc _ _ _ ∙ ap (O.mul p) (power-odd l (g i) n odd)

  pub digit_is_zero : (p : A) (i n : ℕ) → 0 < i → i ≤ s → n % 2 ≢ 1 → O.mul p (power O (g (i - 1)) (n / 2)) ≡ O.mul p (power O (g i) n)
  digit_is_zero p i n h b even =
      ap (λ z. O.mul p (power O z (n / 2))) (sym (generator_before i h b)) ∙ ap (O.mul p) (power-even l (g i) n even)

  -- the generator for k bits to the power 2^k is one
  pub order_of_generator : (k : ℕ) → k ≤ s → power O (g k) (2 ^ k) ≡ O.one
  order_of_generator zero h = power-one l (g 0) ∙ t.trivial
  order_of_generator (suc k) h =
      ap (power O (g (suc k))) (sym (twice_power k)) ∙ sym (power-square l (g (suc k)) (2 ^ k))
      ∙ ap (λ x. power O x (2 ^ k)) (t.squares k (omega (arith, h))) ∙ order_of_generator k (omega (arith, h))

  -- and half of that power is minus one
  half_order : (k : ℕ) → suc k ≤ s → power O (g (suc k)) (2 ^ k) ≡ O.neg O.one
  half_order zero h = power-one l (g 1) ∙ t.minus_one (omega (arith, h))
  half_order (suc k) h =
      ap (power O (g (suc (suc k)))) (sym (twice_power k)) ∙ sym (power-square l (g (suc (suc k))) (2 ^ k))
      ∙ ap (λ x. power O x (2 ^ k)) (t.squares (suc k) (omega (arith, h))) ∙ half_order k (omega (arith, h))

  -- a term of the coset, to the power 2^k, is the shift to that power
  pub term_agrees : (k : ℕ) → k ≤ s → (shift : A) (j : ℕ) → power O (O.mul shift (power O (g k) j)) (2 ^ k) ≡ power O shift (2 ^ k)
  term_agrees k h shift j =
      power-mul l shift (power O (g k) j) (2 ^ k)
      ∙ ap (O.mul (power O shift (2 ^ k)))
      (power-power l (g k) j (2 ^ k) ∙ ap (power O (g k)) (mul_comm j (2 ^ k)) ∙ sym (power-power l (g k) (2 ^ k) j)
      ∙ ap (λ x. power O x j) (order_of_generator k h) ∙ power_of_one l j)
      ∙ l.mul_one (power O shift (2 ^ k))

  -- so does each member
  pub member_agrees : (k : ℕ) → k ≤ s → (shift x : A) → Contains (coset O g shift k) x → power O x (2 ^ k) ≡ power O shift (2 ^ k)
  member_agrees k h shift x (j, below, e) =
      let inside : j < 2 ^ k = omega (arith, below, length-tabulate (2 ^ k) (geometric_term O (g k) shift)) in
      ap (λ y. power O y (2 ^ k)) (sym e ∙ coset_item O g shift k j x inside) ∙ term_agrees k h shift j

  equal_squares : HasNoZeroDivisors O → (y w : A) → O.mul y y ≡ O.mul w w → (y ≡ w) ⊎ (y ≡ O.neg w)
  equal_squares domain y w e =
      let R : Ring A = ring_of l in
      let factored : O.mul (O.add y (O.neg w)) (O.add y w) ≡ O.add (O.mul y y) (O.neg (O.mul w w)) =
      by_laws O l (y ∷ w ∷ []) (search reads depth 99 fits 99999) (search reads depth 99 fits 99999) yes in
      let gone = factored ∙ ap (λ z. O.add z (O.neg (O.mul w w))) e ∙ l.add_neg (O.mul w w) in
      elim (domain (O.add y (O.neg w)) (O.add y w) gone) [
        | inl p ↦ inl (neg_unique R (O.neg w) y p ∙ neg-neg R w)
        | inr p ↦ inr (neg_unique R w y p)
      ]

  -- where no product but of zeros is zero, the roots of x^(2^k) = 1 are the powers of the generator
  pub root_is_power : HasNoZeroDivisors O → (k : ℕ) → k ≤ s → (y : A) → power O y (2 ^ k) ≡ O.one → (j : ℕ) × (j < 2 ^ k) × (y ≡ power O (g k) j)
  root_is_power domain zero h y e = (0, lit< tt, sym (power-one l y) ∙ e)
  root_is_power domain (suc k) h y e =
      let root = root_is_power domain k (omega (arith, h)) (O.mul y y) (power-square l y (2 ^ k) ∙ ap (power O y) (twice_power k) ∙ e) in
      let j = root.0 in
      let w = power O (g (suc k)) j in
      let below = root.1 in
      let same : O.mul y y ≡ O.mul w w =
      root.2 ∙ ap (λ x. power O x j) (sym (t.squares k (omega (arith, h)))) ∙ power-square l (g (suc k)) j ∙ power-add l (g (suc k)) j j in
      elim (equal_squares domain y w same) [
        | inl p ↦ (j, omega (arith, below, twice_power k), p)
        | inr p ↦ (
          2 ^ k + j,
          omega (arith, below, twice_power k),
          p ∙ sym (neg-mul (ring_of l) O.one w ∙ ap O.neg (one-mul (ring_of l) w)) ∙ ap (λ z. O.mul z w) (sym (half_order k h)) ∙ sym (power-add l (g (suc k)) (2 ^ k) j),
        )
      ]

  -- and what agrees with the shift is a member of the coset
  pub agreeing_is_member : HasNoZeroDivisors O → (k : ℕ) → k ≤ s → (shift inverse x : A) → O.mul shift inverse ≡ O.one
      → power O x (2 ^ k) ≡ power O shift (2 ^ k) → Contains (coset O g shift k) x
  agreeing_is_member domain k h shift inverse x unit e =
      let quotient = O.mul x inverse in
      let power_one : power O quotient (2 ^ k) ≡ O.one =
      power-mul l x inverse (2 ^ k) ∙ ap (λ z. O.mul z (power O inverse (2 ^ k))) e ∙ power-inverse l shift inverse unit (2 ^ k) in
      let root = root_is_power domain k h quotient power_one in
      let j = root.0 in
      let below = root.1 in
      let long = length-tabulate (2 ^ k) (geometric_term O (g k) shift) in
      (j, omega (arith, below, long), coset_item O g shift k j x below ∙ sym (ap (O.mul shift) root.2) ∙ mul_left_comm (ring_of l) shift x inverse ∙ ap (O.mul x) unit ∙ l.mul_one x)
