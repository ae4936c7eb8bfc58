-- Numbers of equal digits.
use Rattle.std.proofs.Common.{◌≡◌, ◌<◌, ◌≤◌, ◌+◌, ◌*◌, ◌^◌, ℕ, zero, suc, ap, arith, ◌∙◌, sym, add-one, inl, inr}
use Rattle.std.proofs.Math.ListN.{replicate}
use Rattle.std.proofs.Math.Nat.{pow-zero, pow-suc, pow-succ', le-mul_of_pos_right, mul-add, mul-le-mul_left, pow-le-pow_left, pow-le-pow_right}
use Rattle.std.proofs.Common.{refl}
use Rattle.std.proofs.lemmas.Bool.{cases_lt}
use Rattle.p3_helpers.specs.Digits.{num, IsLimit}

pub num-more : (d b k : ℕ) → num (replicate (suc k) d) b ≡ num (replicate k d) b + d * b ^ k
num-more d b zero = let h : b ^ 0 ≡ 1 = pow-zero b in omega (arith, ap (λ n. d * n) h)
num-more d b (suc k) =
    let h : b * num (replicate (suc k) d) b ≡ b * num (replicate k d) b + b * (d * b ^ k) = ap (λ n. b * n) (num-more d b k) ∙ mul-add b _ _ in
    let p : b * (d * b ^ k) ≡ d * b ^ suc k = sym (ap (λ n. d * n) (pow-succ' b k) ∙ omega arith) in
    omega (arith, h, p)

pub num-grows : (d b : ℕ) (j k : ℕ) → j ≤ k → num (replicate j d) b ≤ num (replicate k d) b
num-grows d b zero k h = omega arith
num-grows d b (suc j) zero h = absurd (omega arith)
num-grows d b (suc j) (suc k) h = omega (arith, mul-le-mul_left b (num-grows d b j k (omega arith)))

-- where one more digit reaches n
pub limit-from : (d b n k : ℕ) → num (replicate k d) b < n → n ≤ num (replicate k d) b + d * b ^ k → IsLimit d b n k
limit-from d b n k h l = (
  h,
  λ m q.
      elim (cases_lt k m) as (λ _. m ≤ k) [
        | inl p ↦ absurd (omega (arith, num-grows d b (suc k) m (omega arith), num-more d b k))
        | inr p ↦ p
      ],
)

-- k digits are counted: their number, and the weight of the next digit
pub record IsCounted (d b n k sum power : ℕ) : Type 0 where
  pub weight : power ≡ b ^ k
  pub number : sum ≡ num (replicate k d) b
  pub below : sum < n
  pub fits : power < 340282366920938463463374607431768211456

pub counts_none : (d b n : ℕ) → 0 < n → IsCounted d b n 0 0 1
counts_none d b n h = record { weight = sym (pow-zero b); number = refl; below = h; fits = omega arith }

module _ {d b n k sum power : ℕ} (is : IsCounted d b n k sum power) where
  pub stops : n ≤ sum + d * power → IsLimit d b n k
  stops h = limit-from d b n k (omega (arith, is.number, is.below)) (omega (arith, is.number, h, ap (λ z. d * z) is.weight))

  pub counts : (more next s : ℕ) → more ≡ d * power → s ≡ sum + more → s < n → next ≡ power * b → next < 340282366920938463463374607431768211456 → IsCounted d b n (k + 1) s next
  counts more next s p e h q f = record {
    weight = rw add-one (q ∙ ap (λ z. z * b) is.weight ∙ sym (pow-suc b k));
    number = rw add-one (e ∙ omega (arith, is.number, p, num-more d b k, ap (λ z. d * z) is.weight));
    below = h;
    fits = f;
  }

  -- the weight of the next digit is past the order
  pub stops_after : (more s : ℕ) → 0 < d → more ≡ d * power → s ≡ sum + more → s < n → n ≤ power * b → IsLimit d b n (k + 1)
  stops_after more s z p e h q =
      let number : num (replicate (k + 1) d) b ≡ s = rw add-one (omega (arith, e, is.number, p, num-more d b k, ap (λ z. d * z) is.weight)) in
      let weight : b ^ (k + 1) ≡ power * b = rw add-one (pow-suc b k ∙ ap (λ z. z * b) (sym is.weight)) in
      limit-from d b n (k + 1) (omega (arith, number, h)) (let l : power * b ≤ (power * b) * d = le-mul_of_pos_right (power * b) z in omega (arith, ap (λ z. d * z) weight, l, q))

  pub never_full : 2 ≤ b → 128 ≤ k → ⊥
  never_full h g =
      let a : 2 ^ 128 ≤ b ^ 128 = pow-le-pow_left h 128 in
      let z : b ^ 128 ≤ b ^ k = pow-le-pow_right (omega arith) g in
      omega (arith, a, z, is.weight, is.fits)
