-- Sums of products of words on eight lanes.
use Rattle.std.proofs.Common.{get_or, ◌≡◌, ℕ, ◌+◌, ◌*◌, ◌<◌, List, [], ◌∷◌, length, take, drop, zero, suc, arith, ◌∙◌, ap, ap₂, refl, subst, sym}
use Rattle.std.proofs.Math.Seq.{take-length}
use Rattle.std.proofs.lemmas.List.{get_or-drop, length-drop, length-take}
use Rattle.std.proofs.lemmas.Simd.{length-zip2, sum-zip2}
use Rattle.std.specs.Simd.Lanes.{sum_l}
use Rattle.p3_kernels.specs.Words.{AreBelow, product_at}
use Rattle.p3_theory.specs.ResidueRings.SumsOfProducts.{sum_of_products, products-split}
use lib.Lanes.{chunk, zip2}

-- what lanes of products sum up to
pub lanes_sum : (n : ℕ) (ws xs ys : List ℕ) → length ws ≡ n → length xs ≡ n → length ys ≡ n → ((k : ℕ) → k < n → get_or ws k 0 ≡ product_at xs ys k)
    → sum_l ws ≡ sum_of_products (λ z. z) xs ys
lanes_sum zero [] [] ys a b c e = refl
lanes_sum zero [] (x ∷ xs) ys a b c e = absurd (omega (arith, b))
lanes_sum zero (w ∷ ws) xs ys a b c e = absurd (omega (arith, a))
lanes_sum (suc n) [] xs ys a b c e = absurd (omega (arith, a))
lanes_sum (suc n) (w ∷ ws) [] ys a b c e = absurd (omega (arith, b))
lanes_sum (suc n) (w ∷ ws) (x ∷ xs) [] a b c e = absurd (omega (arith, c))
lanes_sum (suc n) (w ∷ ws) (x ∷ xs) (y ∷ ys) a b c e =
    let first : w ≡ x * y = e 0 (omega arith) in
    let rest = lanes_sum n ws xs ys (omega (arith, a)) (omega (arith, b)) (omega (arith, c)) (λ k l. e (suc k) (omega (arith, l))) in
    omega (arith, first, rest)

-- the second half of sixteen words, as a vector of eight reads it
pub last_half : (xs : List ℕ) → length xs ≡ 16 → chunk 0 8 (take 8 (drop 8 xs)) ≡ drop 8 xs
last_half xs a =
    let long : 8 ≡ length (drop 8 xs) = omega (arith, a, length-drop 8 xs) in
    let all : take 8 (drop 8 xs) ≡ drop 8 xs = ap (λ m. take m (drop 8 xs)) long ∙ take-length (drop 8 xs) in
    ap (take 8) all ∙ all

pub last_below : (p : ℕ) (xs : List ℕ) → length xs ≡ 16 → AreBelow 16 p xs → AreBelow 8 p (chunk 0 8 (take 8 (drop 8 xs)))
last_below p xs a below = subst (AreBelow 8 p) (sym (last_half xs a)) (λ k l. rw (get_or-drop 8 xs k 0) (below (8 + k) (omega (arith, l))))

-- lanes of products, of the first eight and of the last eight of sixteen words
module _ (us vs ps qs : List ℕ) (a : length us ≡ 16) (b : length vs ≡ 16) (c : length ps ≡ 8) (d : length qs ≡ 8)
    (first : (k : ℕ) → k < 8 → get_or ps k 0 ≡ product_at (take 8 us) (take 8 vs) k)
    (last : (k : ℕ) → k < 8 → get_or qs k 0 ≡ product_at (chunk 0 8 (take 8 (drop 8 us))) (chunk 0 8 (take 8 (drop 8 vs))) k) where
  pub halves_sum : sum_l ps + sum_l qs ≡ sum_of_products (λ z. z) us vs
  halves_sum =
      let one = lanes_sum 8 ps (take 8 us) (take 8 vs) c (omega (arith, length-take 8 us, a)) (omega (arith, length-take 8 vs, b)) first in
      let wu : length (chunk 0 8 (take 8 (drop 8 us))) ≡ 8 = ap length (last_half us a) ∙ omega (arith, length-drop 8 us, a) in
      let wv : length (chunk 0 8 (take 8 (drop 8 vs))) ≡ 8 = ap length (last_half vs b) ∙ omega (arith, length-drop 8 vs, b) in
      let two = lanes_sum 8 qs (chunk 0 8 (take 8 (drop 8 us))) (chunk 0 8 (take 8 (drop 8 vs))) d wu wv last in
      let same = ap₂ (sum_of_products (λ z. z)) (last_half us a) (last_half vs b) in
      omega (arith, one, two, same, products-split (λ z. z) 8 us vs)

-- two vectors that are added to eight lanes
module _ (sums ps qs : List ℕ) (a : length sums ≡ 8) (b : length ps ≡ 8) (c : length qs ≡ 8) where
  width : length (zip2 (λ x y. x + y) sums ps) ≡ 8
  width = length-zip2 (λ x y. x + y) sums ps (a ∙ sym b) ∙ a

  pub first_added : sum_l (zip2 (λ x y. x + y) sums ps) ≡ sum_l sums + sum_l ps
  first_added = sum-zip2 sums ps (a ∙ sym b)

  pub both_added : sum_l (zip2 (λ x y. x + y) (zip2 (λ x y. x + y) sums ps) qs) ≡ sum_l sums + (sum_l ps + sum_l qs)
  both_added = let e = sum-zip2 (zip2 (λ x y. x + y) sums ps) qs (width ∙ sym c) in omega (arith, e, first_added)
