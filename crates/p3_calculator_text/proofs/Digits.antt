-- Decimal digits, written from the last to the first.
use Rattle.std.proofs.Common.{◌≡◌, ◌≢◌, ◌∙◌, ◌<◌, ◌≤◌, ℕ, ◌+◌, ◌-◌, ◌/◌, ◌%◌, ◌^◌, List, [], ◌∷◌, ◌++◌, length, drop, set, decimal, sym, ap, subst, arith, append_assoc, pow-suc, zero, suc}
use Rattle.std.proofs.lemmas.List.{drop-set}
use Rattle.std.proofs.lemmas.Fmt.{decimal_digit, decimal_step_wide}

-- a digit is written before those that stand
digit_before : (digits : List ℕ) (at d : ℕ) → 0 < at → at ≤ length digits → drop (at - 1) (set digits (at - 1) d) ≡ d ∷ drop at digits
digit_before digits at d h within =
    let e : at - 1 + 1 ≡ at = omega arith in
    drop-set digits (at - 1) d (omega arith) ∙ ap (λ k. d ∷ drop k digits) e

-- a number of more than one digit loses one
pub below_power : (n at : ℕ) → 10 ≤ n → n < 10 ^ at → (0 < at - 1) × (n / 10 < 10 ^ (at - 1))
below_power n zero h k = absurd (omega (arith, k))
below_power n (suc zero) h k = absurd (omega (arith, k))
below_power n (suc (suc at)) h k =
    let e : suc (suc at) - 1 ≡ suc at = omega arith in
    let small : n / 10 < 10 ^ suc at = omega (arith, pow-suc 10 (suc at)) in
    (omega arith, subst (λ m. n / 10 < 10 ^ m) (sym e) small)

-- the first digit stands, and the number is whole
pub last_digit : (number n at : ℕ) (digits : List ℕ) → n / 10 ≡ 0 → 0 < at → at ≤ 39 → length digits ≡ 39 → decimal n ++ drop at digits ≡ decimal number
    → drop (at - 1) (set digits (at - 1) (48 + n % 10)) ≡ decimal number
last_digit number n at digits small h within len inv =
    let below : n < 10 = omega arith in
    let same : n % 10 ≡ n = omega arith in
    digit_before digits at (48 + n % 10) h (omega arith)
    ∙ ap (λ d. (48 + d) ∷ drop at digits) same
    ∙ ap (λ ds. ds ++ drop at digits) (sym (decimal_digit n below)) ∙ inv

-- one more digit stands, and the digits before it are to come
pub next_digit : (number n at : ℕ) (digits : List ℕ) → n / 10 ≢ 0 → n < 10 ^ 64 → 0 < at → at ≤ 39 → length digits ≡ 39 → decimal n ++ drop at digits ≡ decimal number
    → decimal (n / 10) ++ drop (at - 1) (set digits (at - 1) (48 + n % 10)) ≡ decimal number
next_digit number n at digits large wide h within len inv =
    let above : 10 ≤ n = omega arith in
    ap (λ l. decimal (n / 10) ++ l) (digit_before digits at (48 + n % 10) h (omega arith))
    ∙ sym (append_assoc (decimal (n / 10)) ((48 + n % 10) ∷ []) (drop at digits))
    ∙ ap (λ ds. ds ++ drop at digits) (sym (decimal_step_wide n above wide)) ∙ inv
