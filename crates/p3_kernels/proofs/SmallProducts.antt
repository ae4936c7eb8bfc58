-- Products of words below 2^8, computed on halves of 16 bits.
use Rattle.std.proofs.Common.{get_or, ◌≡◌, ℕ, ◌+◌, ◌-◌, ◌*◌, ◌/◌, ◌%◌, ◌^◌, ◌<◌, ◌≤◌, List, length, arith, ◌∙◌, sym, ap, subst, w16}
use Rattle.std.proofs.Math.Nat.{mod-eq_of_lt, mul-le-mul, zero-mod}
use Rattle.p3_kernels.proofs.HalfLanes.{by_halves}
use Rattle.p3_kernels.proofs.LaneOperations.{lane2}
use Rattle.p3_kernels.specs.Words.{AreBelow, product_at}
use Rattle.p3_kernels.specs.Residues.{AreResidues}
use lib.Lanes.{zip2}
use borrow.Rule.Simd.Lanes.{act2}
use borrow.Table.Row.{s_int}
use mir.Syntax.{wrap_mul}

abbrev pub times : ℕ → ℕ → ℕ
times = act2 wrap_mul (s_int w16) (s_int w16) (s_int w16)

-- the greatest product of two residues
pub product_most : (p a b m : ℕ) → m ≡ (p - 1) * (p - 1) → a < p → b < p → a * b ≤ m
product_most p a b m e h k = subst (λ z. a * b ≤ z) (sym e) (mul-le-mul (let f : a ≤ p - 1 = omega (arith, h) in f) (let g : b ≤ p - 1 = omega (arith, k) in g))

pub product_short : (p a b : ℕ) → p ≤ 2 ^ 8 → a < p → b < p → a * b < 2 ^ 16
product_short p a b h l m =
    let most = mul-le-mul (let f : a ≤ 255 = omega (arith, h, l) in f) (let g : b ≤ 255 = omega (arith, h, m) in g) in
    omega (arith, most)

pub low_is : (p a x : ℕ) → p ≤ 2 ^ 8 → a < p → x ≡ a % 2 ^ 16 → x ≡ a
low_is p a x h l e = omega (arith, h, l, e)

pub high_is : (p a x : ℕ) → p ≤ 2 ^ 8 → a < p → x ≡ a / 2 ^ 16 → x ≡ 0
high_is p a x h l e = omega (arith, h, l, e)

joined_is : (w x y : ℕ) → w ≡ x + 2 ^ 16 * y → y ≡ 0 → w ≡ x
joined_is w x y e z = omega (arith, e, z)

-- numbers on halves: those of words on the even ones, and zeros on the odd ones
module _ (n p : ℕ) (number half : ℕ → ℕ) (even : (k : ℕ) → k < n → half (2 * k) ≡ number k) (odd : (k : ℕ) → k < n → half (2 * k + 1) ≡ 0) where
  pub halves_fit : ((k : ℕ) → k < n → number k < 2 ^ 16) → (k : ℕ) → k < 2 * n → half k < 2 ^ 16
  halves_fit fit =
      by_halves n (λ k. half k < 2 ^ 16)
      (λ k l. subst (λ z. z < 2 ^ 16) (sym (even k l)) (fit k l))
      (λ k l. subst (λ z. z < 2 ^ 16) (sym (odd k l)) (omega arith))

  pub halves_most : (m : ℕ) → ((k : ℕ) → k < n → number k ≤ m) → (k : ℕ) → k < 2 * n → half k ≤ m
  halves_most m most =
      by_halves n (λ k. half k ≤ m)
      (λ k l. subst (λ z. z ≤ m) (sym (even k l)) (most k l))
      (λ k l. subst (λ z. z ≤ m) (sym (odd k l)) (omega arith))

  pub joined_residues : (zs ws : List ℕ) → AreResidues (2 * n) p half zs → ((k : ℕ) → k < n → get_or ws k 0 ≡ get_or zs (2 * k) 0 + 2 ^ 16 * get_or zs (2 * k + 1) 0)
      → AreResidues n p number ws
  joined_residues zs ws e w k l =
      joined_is (get_or ws k 0) (get_or zs (2 * k) 0) (get_or zs (2 * k + 1) 0) (w k l) (e (2 * k + 1) (omega (arith, l)) ∙ ap (λ z. z % p) (odd k l) ∙ zero-mod p)
      ∙ e (2 * k) (omega (arith, l)) ∙ ap (λ z. z % p) (even k l)

-- of words below p and their halves
module _ (n p : ℕ) (left right xs ys : List ℕ) (fits : p ≤ 2 ^ 8) (a : AreBelow n p left) (b : AreBelow n p right)
    (xe : (k : ℕ) → k < n → get_or xs (2 * k) 0 ≡ get_or left k 0 % 2 ^ 16)
    (xo : (k : ℕ) → k < n → get_or xs (2 * k + 1) 0 ≡ get_or left k 0 / 2 ^ 16)
    (ye : (k : ℕ) → k < n → get_or ys (2 * k) 0 ≡ get_or right k 0 % 2 ^ 16)
    (yo : (k : ℕ) → k < n → get_or ys (2 * k + 1) 0 ≡ get_or right k 0 / 2 ^ 16) where
  even_product : (k : ℕ) → k < n → product_at xs ys (2 * k) ≡ product_at left right k
  even_product k l =
      let x = low_is p (get_or left k 0) (get_or xs (2 * k) 0) fits (a k l) (xe k l) in
      let y = low_is p (get_or right k 0) (get_or ys (2 * k) 0) fits (b k l) (ye k l) in
      λ ι. x ι * y ι

  odd_product : (k : ℕ) → k < n → product_at xs ys (2 * k + 1) ≡ 0
  odd_product k l =
      let x = high_is p (get_or left k 0) (get_or xs (2 * k + 1) 0) fits (a k l) (xo k l) in
      let y = high_is p (get_or right k 0) (get_or ys (2 * k + 1) 0) fits (b k l) (yo k l) in
      λ ι. x ι * y ι

  pub halves_short : (k : ℕ) → k < 2 * n → product_at xs ys k < 2 ^ 16
  halves_short = halves_fit n p (product_at left right) (product_at xs ys) even_product odd_product (λ k l. product_short p (get_or left k 0) (get_or right k 0) fits (a k l) (b k l))

  pub half_products_most : (m : ℕ) → m ≡ (p - 1) * (p - 1) → (k : ℕ) → k < 2 * n → product_at xs ys k ≤ m
  half_products_most m e =
      halves_most n p (product_at left right) (product_at xs ys) even_product odd_product m
      (λ k l. product_most p (get_or left k 0) (get_or right k 0) m e (a k l) (b k l))

  pub joined_products : (zs ws : List ℕ) → AreResidues (2 * n) p (product_at xs ys) zs → ((k : ℕ) → k < n → get_or ws k 0 ≡ get_or zs (2 * k) 0 + 2 ^ 16 * get_or zs (2 * k + 1) 0)
      → AreResidues n p (product_at left right) ws
  joined_products = joined_residues n p (product_at left right) (product_at xs ys) even_product odd_product

  -- without a remainder
  pub joined_exact : (zs ws : List ℕ) → ((k : ℕ) → k < 2 * n → get_or zs k 0 ≡ product_at xs ys k) → ((k : ℕ) → k < n → get_or ws k 0 ≡ get_or zs (2 * k) 0 + 2 ^ 16 * get_or zs (2 * k + 1) 0)
      → (k : ℕ) → k < n → get_or ws k 0 ≡ product_at left right k
  joined_exact zs ws e w k l =
      joined_is (get_or ws k 0) (get_or zs (2 * k) 0) (get_or zs (2 * k + 1) 0) (w k l) (e (2 * k + 1) (omega (arith, l)) ∙ odd_product k l)
      ∙ e (2 * k) (omega (arith, l)) ∙ even_product k l

-- products of words below 2^8 on halves
module _ (n : ℕ) (xs ys : List ℕ) (a : length xs ≡ n) (b : length ys ≡ n) (short : (k : ℕ) → k < n → product_at xs ys k < 2 ^ 16) where
  pub exact_lane : (k : ℕ) → k < n → get_or (zip2 times xs ys) k 0 ≡ product_at xs ys k
  exact_lane k l = lane2 times n xs ys a b k l ∙ mod-eq_of_lt (short k l)
