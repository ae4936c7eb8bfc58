-- Sums and products modulo m.
use Rattle.std.specs.Prelude.{◌≡◌, ◌<◌, ◌≤◌, ◌+◌, ◌-◌, ◌*◌, ◌/◌, ◌%◌, ℕ}
use Rattle.std.proofs.Common.{ap, arith, ◌∙◌, sym}
use Rattle.std.proofs.Math.Nat.{add-mul-mod_self_left, mod-eq_of_lt, mod-add-div, mul-add, mul_assoc}
use Rattle.std.proofs.lemmas.Nat.{mul-mod_first, mul-mod_second}

pub add-mod_first : (a b m : ℕ) → (a % m + b) % m ≡ (a + b) % m
add-mod_first a b m =
    let e : a + b ≡ (a % m + b) + m * (a / m) = omega (arith, mod-add-div a m) in
    sym (ap (λ n. n % m) e ∙ add-mul-mod_self_left (a % m + b) m (a / m))

pub add-mod_second : (a b m : ℕ) → (a + b % m) % m ≡ (a + b) % m
add-mod_second a b m =
    let e : a + b ≡ (a + b % m) + m * (b / m) = omega (arith, mod-add-div b m) in
    sym (ap (λ n. n % m) e ∙ add-mul-mod_self_left (a + b % m) m (b / m))

pub add_assoc_mod : (a b c m : ℕ) → ((a + b) % m + c) % m ≡ (a + (b + c) % m) % m
add_assoc_mod a b c m = add-mod_first (a + b) c m ∙ ap (λ n. n % m) (omega arith) ∙ sym (add-mod_second a (b + c) m)

pub mul_assoc_mod : (a b c m : ℕ) → ((a * b) % m * c) % m ≡ (a * ((b * c) % m)) % m
mul_assoc_mod a b c m = mul-mod_first (a * b) c m ∙ ap (λ n. n % m) (mul_assoc a b c) ∙ sym (mul-mod_second a (b * c) m)

pub mul_add_mod : (a b c m : ℕ) → (a * ((b + c) % m)) % m ≡ ((a * b) % m + (a * c) % m) % m
mul_add_mod a b c m =
    mul-mod_second a (b + c) m ∙ ap (λ n. n % m) (mul-add a b c) ∙ sym (add-mod_first (a * b) ((a * c) % m) m ∙ add-mod_second (a * b) (a * c) m)

pub add_neg_mod : (a m : ℕ) → a < m → (a + (m - a) % m) % m ≡ 0 % m
add_neg_mod a m h =
    let e : a + (m - a) ≡ 0 + m * 1 = omega arith in
    add-mod_second a (m - a) m ∙ ap (λ n. n % m) e ∙ add-mul-mod_self_left 0 m 1

pub reduce_once : (s m : ℕ) → m ≤ s → s < m + m → s - m ≡ s % m
reduce_once s m a b =
    let e : s ≡ (s - m) + m * 1 = omega arith in
    sym (ap (λ n. n % m) e ∙ add-mul-mod_self_left (s - m) m 1 ∙ mod-eq_of_lt (omega arith))

-- end
