-- The steps of the extended Euclidean algorithm by shifts.
use Rattle.std.proofs.Common.{◌≡◌, ◌≢◌, ◌<◌, ◌≤◌, ◌+◌, ◌-◌, ◌*◌, ◌%◌, ◌^◌, ℕ, Bool, true, false, not, refl, ap, arith, inl, inr, ◌∙◌, sym, subst}
use Rattle.std.specs.Int.{◌∣◌}
use Rattle.std.proofs.Math.Bool.{beq}
use Rattle.std.proofs.Math.Nat.{
  add-mul-mod_self_left,
  dvd-add,
  dvd-mul_left_of_dvd,
  mod-eq_of_lt,
  mul-le-mul_left,
  mul-le-mul_right,
  pow-le-pow_right,
  zero-mod,
}
use Rattle.std.proofs.lemmas.Bool.{cases_lt}
use Rattle.std.proofs.lemmas.Nat.{mul-mod_first, mul-mod_second, pow-add}
use Rattle.p3_theory.specs.ResidueRings.Modular.{add-mod_first}
use Rattle.p3_residues.specs.Inverses.{IsInverseModulo}
use Rattle.p3_residues.proofs.Euclid.{AreCombinations, combinations-step, inverse_of_true, inverse_of_false}
use Rattle.p3_residues.proofs.PowerQuotients.{power_cancels}

-- after k shifts, with s the coefficient of `last` and t that of `rest`
pub record AreShifted (n value last rest s t k : ℕ) (negative : Bool) : Type 0 where
  pub positive : 0 < last
  pub divisors : (g : ℕ) → g ∣ last → g ∣ rest → (g ∣ n) × (g ∣ value)
  -- this sum of products stays, so that no coefficient is above n
  pub size : s * rest + t * last ≡ n
  pub small : s ≤ n
  pub combinations : AreCombinations n value (last * 2 ^ k) (rest * 2 ^ k) s t negative
  -- the power fits 128 digits, while the product of both numbers isn't zero
  pub room : last * rest * 2 ^ k < 2 ^ 128
  pub few : k < 128

-- a multiple of what is zero modulo n
multiple_of_zero : (n f x : ℕ) → x % n ≡ 0 → (f * x) % n ≡ 0
multiple_of_zero n f x e =
    sym (mul-mod_second f x n) ∙ ap (λ z. (f * z) % n) e ∙ ap (λ z. z % n) (let none : f * 0 ≡ 0 = omega arith in none) ∙ zero-mod n

multiple_of_same : (n f x y : ℕ) → x % n ≡ y % n → (f * x) % n ≡ (f * y) % n
multiple_of_same n f x y e = sym (mul-mod_second f x n) ∙ ap (λ z. (f * z) % n) e ∙ mul-mod_second f y n

-- the same numbers, where `rest` and the power have another factor f in common
combinations-scaled : (n value last r s t f p : ℕ) (negative : Bool) → AreCombinations n value (last * p) (f * r * p) s t negative
    → AreCombinations n value (last * (p * f)) (r * (p * f)) (s * f) t negative
combinations-scaled n value last r s t f p false h =
    let regrouped : s * f * value + last * (p * f) ≡ f * (s * value + last * p) = omega arith in
    let same : f * r * p ≡ r * (p * f) = omega arith in
    (ap (λ z. z % n) regrouped ∙ multiple_of_zero n f (s * value + last * p) h.0, h.1 ∙ ap (λ z. z % n) same)
combinations-scaled n value last r s t f p true h =
    let regrouped : s * f * value ≡ f * (s * value) = omega arith in
    let joined : f * (last * p) ≡ last * (p * f) = omega arith in
    let same : f * r * p ≡ r * (p * f) = omega arith in (
      ap (λ z. z % n) regrouped ∙ multiple_of_same n f (s * value) (last * p) h.0 ∙ ap (λ z. z % n) joined,
      sym (ap (λ z. (t * value + z) % n) same) ∙ h.1,
    )

-- both numbers are exchanged
combinations-turned : (n value last rest s t : ℕ) (negative : Bool) → AreCombinations n value last rest s t negative → AreCombinations n value rest last t s (not negative)
combinations-turned n value last rest s t false h = (h.1, h.0)
combinations-turned n value last rest s t true h = (h.1, h.0)

twice_turned : (negative : Bool) → not (not negative) ≡ negative
twice_turned false = refl
twice_turned true = refl

-- one round: q is what is left of `rest` without its z trailing zeros
module _ (n value last rest s t k z q : ℕ) (negative : Bool) (h : AreShifted n value last rest s t k negative) (nonzero : 0 < rest) (whole : rest ≡ 2 ^ z * q) where
  abbrev f : ℕ
  f = 2 ^ z

  pub left_positive : 0 < q
  left_positive =
      elim (cases_lt 0 q) [
        | inl less ↦ less
        | inr none ↦
            let zero_is : q ≡ 0 = omega (arith, none) in
            let product : rest ≡ 2 ^ z * 0 = whole ∙ ap (λ x. 2 ^ z * x) zero_is in
            absurd (omega (arith, nonzero, product))
      ]

  size-scaled : s * f * q + t * last ≡ n
  size-scaled = (let regrouped : s * f * q + t * last ≡ s * (f * q) + t * last = omega arith in regrouped) ∙ ap (λ x. s * x + t * last) (sym whole) ∙ h.size

  scaled_small : s * f ≤ n
  scaled_small = let most = mul-le-mul_left (s * f) (let one : 1 ≤ q = omega (arith, left_positive) in one) in omega (arith, most, size-scaled)

  coefficient_small : t ≤ n
  coefficient_small = let most = mul-le-mul_left t (let one : 1 ≤ last = omega (arith, h.positive) in one) in omega (arith, most, size-scaled)

  -- the sum of both coefficients is at most n
  pub sum_small : t + s * f ≤ n
  sum_small =
      let most = mul-le-mul_left (s * f) (let one : 1 ≤ q = omega (arith, left_positive) in one) in
      let least = mul-le-mul_left t (let one : 1 ≤ last = omega (arith, h.positive) in one) in
      omega (arith, most, least, size-scaled)

  -- the coefficient loses no digit by the shift
  pub scaled_is : n < 18446744073709551616 → s * f % 18446744073709551616 ≡ s * f
  scaled_is fits = mod-eq_of_lt (omega (arith, scaled_small, fits))

  scaled : AreCombinations n value (last * 2 ^ (k + z)) (q * 2 ^ (k + z)) (s * f) t negative
  scaled =
      let P : ℕ → Type 0 = λ x. AreCombinations n value (last * x) (q * x) (s * f) t negative in
      let Q : ℕ → Type 0 = λ x. AreCombinations n value (last * 2 ^ k) (x * 2 ^ k) s t negative in
      subst P (sym (pow-add 2 k z)) (combinations-scaled n value last q s t f (2 ^ k) negative (subst Q whole h.combinations))

  divisors-scaled : (g : ℕ) → g ∣ last → g ∣ q → (g ∣ n) × (g ∣ value)
  divisors-scaled g a b =
      let P : ℕ → Type 0 = λ x. g ∣ x in
      h.divisors g a (subst P (sym whole) (dvd-mul_left_of_dvd g b f))

  room-scaled : last * q * 2 ^ (k + z) < 2 ^ 128
  room-scaled =
      let regrouped : last * (f * q) * 2 ^ k ≡ last * q * (2 ^ k * f) = omega arith in
      let same : last * rest * 2 ^ k ≡ last * q * 2 ^ (k + z) =
      ap (λ x. last * x * 2 ^ k) whole ∙ regrouped ∙ ap (λ x. last * q * x) (sym (pow-add 2 k z)) in
      omega (arith, same, h.room)

  few-scaled : k + z < 128
  few-scaled =
      elim (cases_lt (k + z) 128) [
        | inl less ↦ less
        | inr more ↦
            let least = pow-le-pow_right {n = 2} (omega arith) more in
            let product : 1 ≤ last * q = (let one = mul-le-mul_left last (let o : 1 ≤ q = omega (arith, left_positive) in o) in omega (arith, one, h.positive)) in
            let most = mul-le-mul_right (2 ^ (k + z)) product in
            absurd (omega (arith, least, most, room-scaled))
      ]

  -- a product of which one factor gives way to a lesser one
  room-lessened : (a d : ℕ) → a * d ≤ last * q → a * d * 2 ^ (k + z) < 2 ^ 128
  room-lessened a d less = let most = mul-le-mul_right (2 ^ (k + z)) less in omega (arith, most, room-scaled)

  divided : (a b p : ℕ) → b ≤ a → a * p ≡ (a - b) * p + b * p * 1
  divided a b p le =
      let split : a ≡ (a - b) + b = omega (arith, le) in
      let spread : ((a - b) + b) * p ≡ (a - b) * p + b * p * 1 = omega arith in
      ap (λ x. x * p) split ∙ spread

  -- where q is the lesser number
  pub lesser : q < last → AreShifted n value q (last - q) t (t + s * f) (k + z) (not negative)
  lesser less =
      let split : (last - q) + q ≡ last = omega (arith, less) in
      let regrouped : t * (last - q) + (t + s * f) * q ≡ s * f * q + t * ((last - q) + q) = omega arith in
      let sum : s * f + 1 * t ≡ t + s * f = omega arith in
      let P : ℕ → Type 0 = λ x. AreCombinations n value (q * 2 ^ (k + z)) ((last - q) * 2 ^ (k + z)) t x (not negative) in
      record {
        positive = left_positive;
        divisors = λ g a b. let D : ℕ → Type 0 = λ x. g ∣ x in divisors-scaled g (subst D split (dvd-add g b a)) a;
        size = regrouped ∙ ap (λ x. s * f * q + t * x) split ∙ size-scaled;
        small = coefficient_small;
        combinations = subst P sum (combinations-step n value (last * 2 ^ (k + z)) (q * 2 ^ (k + z)) (s * f) t 1 ((last - q) * 2 ^ (k + z)) (divided last q (2 ^ (k + z)) (omega (arith, less))) negative scaled);
        room = room-lessened q (last - q) (let most = mul-le-mul_right q (let le : last - q ≤ last = omega arith in le) in omega (arith, most));
        few = few-scaled;
      }

  -- where it isn't
  pub greater : last ≤ q → AreShifted n value last (q - last) (s * f) (t + s * f) (k + z) negative
  greater le =
      let split : (q - last) + last ≡ q = omega (arith, le) in
      let regrouped : s * f * (q - last) + (t + s * f) * last ≡ s * f * ((q - last) + last) + t * last = omega arith in
      let sum : t + 1 * (s * f) ≡ t + s * f = omega arith in
      let P : ℕ → Type 0 = λ x. AreCombinations n value (last * 2 ^ (k + z)) ((q - last) * 2 ^ (k + z)) (s * f) x negative in
      let Q : Bool → Type 0 = λ b. AreCombinations n value (last * 2 ^ (k + z)) ((q - last) * 2 ^ (k + z)) (s * f) (t + 1 * (s * f)) b in
      let turned = combinations-turned n value (last * 2 ^ (k + z)) (q * 2 ^ (k + z)) (s * f) t negative scaled in
      record {
        positive = h.positive;
        divisors = λ g a b. let D : ℕ → Type 0 = λ x. g ∣ x in divisors-scaled g a (subst D split (dvd-add g b a));
        size = regrouped ∙ ap (λ x. s * f * x + t * last) split ∙ size-scaled;
        small = scaled_small;
        combinations = subst P sum (subst Q (twice_turned negative) (combinations-step n value (q * 2 ^ (k + z)) (last * 2 ^ (k + z)) t (s * f) 1 ((q - last) * 2 ^ (k + z)) (divided q last (2 ^ (k + z)) le) (not negative) turned));
        room = room-lessened last (q - last) (mul-le-mul_left last (let l : q - last ≤ q = omega arith in l));
        few = few-scaled;
      }

-- the sign turns where the first number is the lesser one
pub turned_is : (negative : Bool) → not (beq negative true) ≡ not negative
turned_is false = refl
turned_is true = refl

pub kept_is : (negative : Bool) → not (beq negative false) ≡ negative
kept_is false = refl
kept_is true = refl

-- where the last number is one, the quotient r of its coefficient by the power is an inverse, or the negation of one
module _ (n value s k r : ℕ) (above_one : 1 < n) (odd : n % 2 ≡ 1) (small : r ≤ n) (quotient : (r * 2 ^ k) % n ≡ s % n) where
  times_power : (r * value * 2 ^ k) % n ≡ (s * value) % n
  times_power =
      let regrouped : r * value * 2 ^ k ≡ r * 2 ^ k * value = omega arith in
      ap (λ z. z % n) regrouped ∙ sym (mul-mod_first (r * 2 ^ k) value n) ∙ ap (λ z. (z * value) % n) quotient ∙ mul-mod_first s value n

  -- the modulus times the value is zero
  below : (c d : ℕ) → (r * value + c) % n ≡ d → c % n ≢ d → r < n
  below c d e other =
      elim (cases_lt r n) [
        | inl less ↦ less
        | inr more ↦
            let same : r ≡ n = omega (arith, more, small) in
            let regrouped : n * value + c ≡ c + n * value = omega arith in
            absurd (other (sym (ap (λ z. (z * value + c) % n) same ∙ ap (λ z. z % n) regrouped ∙ add-mul-mod_self_left c n value) ∙ e))
      ]

  pub answer_of_true : (s * value) % n ≡ (1 * 2 ^ k) % n → (r < n) × IsInverseModulo n value r
  answer_of_true e =
      let unit = power_cancels n odd k (r * value) 1 (times_power ∙ e) in
      let one : 1 % n ≡ 1 = mod-eq_of_lt above_one in
      let added : r * value + 0 ≡ r * value = omega arith in
      let less = below 0 1 (ap (λ z. z % n) added ∙ unit ∙ one) (λ o. let bad : 0 ≡ 1 = sym (zero-mod n) ∙ o in omega (arith, bad)) in
      let P : ℕ → Type 0 = λ x. IsInverseModulo n value x in
      (less, subst P (mod-eq_of_lt less) (inverse_of_true n value r above_one unit))

  pub answer_of_false : (s * value + 1 * 2 ^ k) % n ≡ 0 → (n - r < n) × IsInverseModulo n value (n - r)
  answer_of_false e =
      let spread : (r * value + 1) * 2 ^ k ≡ r * value * 2 ^ k + 1 * 2 ^ k = omega arith in
      let none : 0 * 2 ^ k ≡ 0 = omega arith in
      let opposite : (r * value + 1) % n ≡ 0 % n =
      power_cancels n odd k (r * value + 1) 0
      (ap (λ z. z % n) spread ∙ sym (add-mod_first (r * value * 2 ^ k) (1 * 2 ^ k) n) ∙ ap (λ z. (z + 1 * 2 ^ k) % n) times_power
      ∙ add-mod_first (s * value) (1 * 2 ^ k) n ∙ e ∙ sym (zero-mod n) ∙ ap (λ z. z % n) (sym none)) in
      let zero_is : (r * value + 1) % n ≡ 0 = opposite ∙ zero-mod n in
      let one : 1 % n ≡ 1 = mod-eq_of_lt above_one in
      let less = below 1 0 zero_is (λ o. let bad : 1 ≡ 0 = sym one ∙ o in omega (arith, bad)) in
      let positive : 0 < r =
      elim (cases_lt 0 r) [
        | inl more ↦ more
        | inr zero ↦
            let same : r ≡ 0 = omega (arith, zero) in
            let only : 0 * value + 1 ≡ 1 = omega arith in
            let bad : 1 ≡ 0 = sym one ∙ sym (ap (λ z. (z * value + 1) % n) same ∙ ap (λ z. z % n) only) ∙ zero_is in
            absurd (omega (arith, bad))
      ] in
      let difference : n - r < n = omega (arith, positive, above_one) in
      let P : ℕ → Type 0 = λ x. IsInverseModulo n value x in
      (difference, subst P (ap (λ z. (n - z) % n) (mod-eq_of_lt less) ∙ mod-eq_of_lt difference) (inverse_of_false n value r above_one zero_is))
