-- Lanes by halves: those with an even index and those with an odd one, as pairs and as numbers of 64 bits.
use Rattle.std.proofs.Common.{get_or, ◌≡◌, ℕ, ◌+◌, ◌-◌, ◌*◌, ◌/◌, ◌%◌, ◌^◌, ◌<◌, inl, inr, List, arith, sym, subst}
use Rattle.std.proofs.lemmas.Bool.Decides.{leb_tells}
use Rattle.p3_kernels.specs.Pairs.{ArePairs}

-- a property of each index follows from that of the even and that of the odd ones
pub by_halves : (h : ℕ) (Q : ℕ → Type 0) → ((k : ℕ) → k < h → Q (2 * k)) → ((k : ℕ) → k < h → Q (2 * k + 1)) → (k : ℕ) → k < 2 * h → Q k
by_halves h Q even odd k l = elim (leb_tells 1 (k % 2)) [
  | inl b ↦ (let e : 2 * (k / 2) + 1 ≡ k = omega (arith, b.1) in subst Q e (odd (k / 2) (omega arith)))
  | inr b ↦ (let e : 2 * (k / 2) ≡ k = omega (arith, b.1) in subst Q e (even (k / 2) (omega arith)))
]

low_of : (u v z : ℕ) → u < 2 ^ 32 → z ≡ u + 2 ^ 32 * v → z % 2 ^ 32 ≡ u
low_of u v z l e = omega (arith, l, e)

high_of : (u v z : ℕ) → u < 2 ^ 32 → z ≡ u + 2 ^ 32 * v → z / 2 ^ 32 ≡ v
high_of u v z l e = omega (arith, l, e)

-- the words of pairs
module _ (h : ℕ) (words pairs : List ℕ) (fits : (k : ℕ) → get_or words k 0 < 2 ^ 32) (are : ArePairs h words pairs) where
  pub low_of_pair : (k : ℕ) → k < h → get_or pairs k 0 % 2 ^ 32 ≡ get_or words (2 * k) 0
  low_of_pair k l = low_of (get_or words (2 * k) 0) (get_or words (2 * k + 1) 0) (get_or pairs k 0) (fits (2 * k)) (are k l)

  pub high_of_pair : (k : ℕ) → k < h → get_or pairs k 0 / 2 ^ 32 ≡ get_or words (2 * k + 1) 0
  high_of_pair k l = high_of (get_or words (2 * k) 0) (get_or words (2 * k + 1) 0) (get_or pairs k 0) (fits (2 * k)) (are k l)

first_high : (u v z s : ℕ) → s ≡ z % 2 ^ 32 → z ≡ u + 2 ^ 32 * v → u < 2 ^ 32 → s ≡ u
first_high u v z s a b l = omega (arith, a, b, l)

second_high : (u v z s : ℕ) → s ≡ z / 2 ^ 32 → z ≡ u + 2 ^ 32 * v → u < 2 ^ 32 → s ≡ v
second_high u v z s a b l = omega (arith, a, b, l)

-- the high words of numbers e k and o k, as the words of pairs in turn
module _ (h : ℕ) (pairs words : List ℕ) (e o : ℕ → ℕ)
    (are : (k : ℕ) → k < h → get_or pairs k 0 ≡ e k / 2 ^ 32 + 2 ^ 32 * (o k / 2 ^ 32))
    (even : (k : ℕ) → k < h → get_or words (2 * k) 0 ≡ get_or pairs k 0 % 2 ^ 32)
    (odd : (k : ℕ) → k < h → get_or words (2 * k + 1) 0 ≡ get_or pairs k 0 / 2 ^ 32)
    (fits : (k : ℕ) → k < h → e k < 2 ^ 64) where
  high_fits : (k : ℕ) → k < h → e k / 2 ^ 32 < 2 ^ 32
  high_fits k l = let f = fits k l in omega (arith, f)

  pub even_high : (k : ℕ) → k < h → get_or words (2 * k) 0 ≡ e k / 2 ^ 32
  even_high k l = first_high (e k / 2 ^ 32) (o k / 2 ^ 32) (get_or pairs k 0) (get_or words (2 * k) 0) (even k l) (are k l) (high_fits k l)

  pub odd_high : (k : ℕ) → k < h → get_or words (2 * k + 1) 0 ≡ o k / 2 ^ 32
  odd_high k l = second_high (e k / 2 ^ 32) (o k / 2 ^ 32) (get_or pairs k 0) (get_or words (2 * k + 1) 0) (odd k l) (are k l) (high_fits k l)

  -- all are below a bound if the high words are
  pub highs_below : (b : ℕ) → ((k : ℕ) → k < h → e k / 2 ^ 32 < b) → ((k : ℕ) → k < h → o k / 2 ^ 32 < b) → (k : ℕ) → k < 2 * h → get_or words k 0 < b
  highs_below b ebelow obelow =
      by_halves h (λ k. get_or words k 0 < b) (λ k l. subst (λ z. z < b) (sym (even_high k l)) (ebelow k l)) (λ k l. subst (λ z. z < b) (sym (odd_high k l)) (obelow k l))

-- a property of each index follows from that of the first h and that of the h after them
pub by_blocks : (h : ℕ) (Q : ℕ → Type 0) → ((k : ℕ) → k < h → Q k) → ((k : ℕ) → k < h → Q (h + k)) → (k : ℕ) → k < h + h → Q k
by_blocks h Q low high k l = elim (leb_tells h k) [
  | inr b ↦ low k b.1
  | inl b ↦ (let e : h + (k - h) ≡ k = omega (arith, b.1) in subst Q e (high (k - h) (omega (arith, b.1))))
]
