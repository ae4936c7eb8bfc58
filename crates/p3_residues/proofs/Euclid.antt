-- The steps of the extended Euclidean algorithm.
use Rattle.std.proofs.Common.{◌≡◌, ◌≢◌, ◌<◌, ◌+◌, ◌-◌, ◌*◌, ◌/◌, ◌%◌, ℕ, Bool, true, false, not, ap, arith, ◌∙◌, sym, subst}
use Rattle.std.specs.Int.{◌∣◌}
use Rattle.std.proofs.Math.Nat.{mod-eq_of_lt, mod-lt, mod-add-div, zero-mod, add-mul-mod_self_left, mul_comm, dvd-mul_right_of_dvd, dvd-add_iff_right, eq-one_of_dvd-one}
use Rattle.std.proofs.lemmas.Nat.{mul-mod_first, mul-mod_second}
use Rattle.p3_theory.specs.ResidueRings.Modular.{add-mod_first, add-mod_second}
use Rattle.p3_residues.specs.Inverses.{IsInverseModulo}

-- each of two remainders is its coefficient times the value modulo n, one of them negated
abbrev pub AreCombinations : ℕ → ℕ → ℕ → ℕ → ℕ → ℕ → Bool → Type 0
AreCombinations n value last rest s t false = ((s * value + last) % n ≡ 0) × ((t * value) % n ≡ rest % n)
AreCombinations n value last rest s t true = ((s * value) % n ≡ last % n) × ((t * value + rest) % n ≡ 0)

-- in a sum, a multiple of b may give way to one of what is b modulo n
replaced : (a b c q n : ℕ) → b % n ≡ c % n → (a + q * b) % n ≡ (a + q * c) % n
replaced a b c q n e =
    sym (add-mod_second a (q * b) n) ∙ ap (λ z. (a + z) % n) (sym (mul-mod_second q b n) ∙ ap (λ z. (q * z) % n) e ∙ mul-mod_second q c n) ∙ add-mod_second a (q * c) n

-- one division of `last` by `rest`, with the quotient q and the remainder r; the coefficients are s
-- of `last` and t of `rest`, and s + q * t is that of r
module _ (n value last rest s t q r : ℕ) (divided : last ≡ r + rest * q) where
  -- this sum of products stays, so that no coefficient is above n
  pub size-step : s * rest + t * last ≡ n → t * r + (s + q * t) * rest ≡ n
  size-step e = (let regrouped : t * r + (s + q * t) * rest ≡ s * rest + t * (r + rest * q) = omega arith in regrouped) ∙ ap (λ z. s * rest + t * z) (sym divided) ∙ e

  -- the new remainder, where `rest` is t times the value
  combination_of_true : (t * value) % n ≡ rest % n → (s * value + last) % n ≡ 0 → ((s + q * t) * value + r) % n ≡ 0
  combination_of_true e f =
      let regrouped : (s + q * t) * value + r ≡ (s * value + r) + q * (t * value) = omega arith in
      let joined : (s * value + r) + q * rest ≡ s * value + last = omega arith in
      ap (λ z. z % n) regrouped ∙ replaced (s * value + r) (t * value) rest q n e ∙ ap (λ z. z % n) joined ∙ f

  -- and where `rest` is the negation of that
  combination_of_false : (t * value + rest) % n ≡ 0 → (s * value) % n ≡ last % n → ((s + q * t) * value) % n ≡ r % n
  combination_of_false e f =
      let regrouped : (s + q * t) * value ≡ s * value + q * (t * value) = omega arith in
      let joined : last + q * (t * value) ≡ r + q * (t * value + rest) = omega arith in
      let none : r + q * 0 ≡ r = omega arith in
      ap (λ z. z % n) regrouped ∙ sym (add-mod_first (s * value) (q * (t * value)) n) ∙ ap (λ z. (z + q * (t * value)) % n) f
      ∙ add-mod_first last (q * (t * value)) n ∙ ap (λ z. z % n) joined ∙ replaced r (t * value + rest) 0 q n (e ∙ sym (zero-mod n)) ∙ ap (λ z. z % n) none

  pub combinations-step : (negative : Bool) → AreCombinations n value last rest s t negative → AreCombinations n value rest r t (s + q * t) (not negative)
  combinations-step false h = (h.1, combination_of_true h.1 h.0)
  combinations-step true h = (h.1, combination_of_false h.1 h.0)

-- where the last remainder is one, its coefficient is an inverse, or the negation of one
module _ (n value s : ℕ) (above_one : 1 < n) where
  pub inverse_of_true : (s * value) % n ≡ 1 % n → IsInverseModulo n value (s % n)
  inverse_of_true e = mul-mod_second value s n ∙ ap (λ z. z % n) (mul_comm value s) ∙ e ∙ mod-eq_of_lt above_one

  pub inverse_of_false : (s * value + 1) % n ≡ 0 → IsInverseModulo n value ((n - s % n) % n)
  inverse_of_false e =
      let reduced : (s % n * value + 1) % n ≡ 0 =
      sym (add-mod_first (s % n * value) 1 n) ∙ ap (λ z. (z + 1) % n) (mul-mod_first s value n) ∙ add-mod_first (s * value) 1 n ∙ e in
      mul-mod_second value (n - s % n) n ∙ opposite (n - s % n) (s % n) (let below : s % n < n = mod-lt s (omega arith) in omega arith) reduced
    where
      opposite : (d k : ℕ) → d + k ≡ n → (k * value + 1) % n ≡ 0 → (value * d) % n ≡ 1
      opposite d k whole zero =
          let kept : value * d ≡ value * d + 0 = omega arith in
          let regrouped : value * d + (k * value + 1) ≡ 1 + (d + k) * value = omega arith in
          ap (λ z. z % n) kept ∙ ap (λ z. (value * d + z) % n) (sym zero) ∙ add-mod_second (value * d) (k * value + 1) n
          ∙ ap (λ z. z % n) (regrouped ∙ ap (λ z. 1 + z * value) whole) ∙ add-mul-mod_self_left 1 n value ∙ mod-eq_of_lt above_one

-- a common divisor other than one leaves no inverse
pub no_inverse : (n value g : ℕ) → g ∣ n → g ∣ value → g ≢ 1 → (y : ℕ) → ¬ IsInverseModulo n value y
no_inverse n value g divides_n divides_value other y e =
    let whole : value * y ≡ n * (value * y / n) + 1 = omega (arith, mod-add-div (value * y) n, e) in
    let P : ℕ → Type 0 = λ z. g ∣ z in
    let divides_whole : g ∣ n * (value * y / n) + 1 = subst P whole (dvd-mul_right_of_dvd g divides_value y) in
    other (eq-one_of_dvd-one ((dvd-add_iff_right g (dvd-mul_right_of_dvd g divides_n (value * y / n))).1 divides_whole))
