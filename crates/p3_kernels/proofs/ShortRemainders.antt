-- Remainders of 16 bits, lane by lane: by the vector's own operation, and by products with a reciprocal.
use Rattle.std.proofs.Common.{get_or, ◌≡◌, ℕ, ◌+◌, ◌*◌, ◌/◌, ◌%◌, ◌^◌, ◌<◌, ◌≤◌, List, length, map, arith, ◌∙◌, sym, ap, subst, w16, w32}
use Rattle.std.proofs.Math.Nat.{mod-eq_of_lt, mul-le-mul}
use Rattle.std.proofs.lemmas.List.{get_or-map, length-map}
use Rattle.std.proofs.lemmas.Simd.{Each1-from_get_or}
use Rattle.p3_theory.specs.ResidueRings.Reciprocals.{remainder_by_reciprocal}
use Rattle.p3_kernels.proofs.LaneOperations.{lane_by, width_by}
use Rattle.p3_kernels.proofs.SmallProducts.{times}
use lib.Lanes.{Each1, zip2}
use lib.ListN.{replicate}
use borrow.Rule.Simd.Lanes.{act1, act2}
use borrow.Table.Row.{s_int}
use mir.Syntax.{cast, rem, shr, unsigned, wrap_mul}
use mir.Val.{Fits}

abbrev pub remainder : ℕ → ℕ → ℕ
remainder = act2 (rem unsigned) (s_int w16) (s_int w16) (s_int w16)

abbrev pub widened : ℕ → ℕ
widened = act1 (cast unsigned unsigned w32) (s_int w16) (s_int w32)

abbrev pub narrowed : ℕ → ℕ
narrowed = act1 (cast unsigned unsigned w16) (s_int w32) (s_int w16)

abbrev pub wide_times : ℕ → ℕ → ℕ
wide_times = act2 wrap_mul (s_int w32) (s_int w32) (s_int w32)

abbrev pub down : ℕ → ℕ → ℕ
down = act2 (shr unsigned) (s_int w32) (s_int w32) (s_int w32)

wide_exact : (a b : ℕ) → a < 2 ^ 16 → b < 2 ^ 16 → wide_times a b ≡ a * b
wide_exact a b h k =
    let most = mul-le-mul (let f : a ≤ 65535 = omega (arith, h) in f) (let g : b ≤ 65535 = omega (arith, k) in g) in
    mod-eq_of_lt (omega (arith, most))

high_fits : (a b : ℕ) → a < 2 ^ 16 → b < 2 ^ 16 → a * b / 2 ^ 16 < 2 ^ 16
high_fits a b h k =
    let most = mul-le-mul (let f : a ≤ 65535 = omega (arith, h) in f) (let g : b ≤ 65535 = omega (arith, k) in g) in
    omega (arith, most)

-- the high halves of products of 16 bits by a factor, in lanes of 32
module _ (n p : ℕ) (xs : List ℕ) (a : length xs ≡ n) (fits : (k : ℕ) → get_or xs k 0 < 2 ^ 16) (short : p < 2 ^ 16) where
  abbrev ws : List ℕ
  ws = map widened xs

  abbrev ps : List ℕ
  ps = zip2 wide_times ws (replicate n p)

  abbrev hs : List ℕ
  hs = zip2 down ps (replicate n 16)

  wws : length ws ≡ n
  wws = length-map xs widened ∙ a

  wps : length ps ≡ n
  wps = width_by wide_times n p ws wws

  whs : length hs ≡ n
  whs = width_by down n 16 ps wps

  high_lane : (k : ℕ) → k < n → get_or hs k 0 ≡ get_or xs k 0 * p / 2 ^ 16
  high_lane k l =
      lane_by down n 16 ps wps k l
      ∙ ap (λ z. down z 16) (lane_by wide_times n p ws wws k l
      ∙ ap (λ z. wide_times z p) (get_or-map widened xs k 0 0 (omega (arith, l, a)))
      ∙ wide_exact (get_or xs k 0) p (fits k) short)

  pub highs_fit : Each1 (Fits w16) hs
  highs_fit =
      Each1-from_get_or (Fits w16) hs 0
      (λ k l. record { fits = subst (λ z. z < 2 ^ 16) (sym (high_lane k (omega (arith, l, whs)))) (high_fits (get_or xs k 0) p (fits k) short) })

  pub narrowed_width : length (map narrowed hs) ≡ n
  narrowed_width = length-map hs narrowed ∙ whs

  pub narrowed_lane : (k : ℕ) → k < n → get_or (map narrowed hs) k 0 ≡ get_or xs k 0 * p / 2 ^ 16
  narrowed_lane k l = get_or-map narrowed hs k 0 0 (omega (arith, l, whs)) ∙ high_lane k l

-- the remainders, where ys are the high halves of the products with p
module _ (n p : ℕ) (xs ys : List ℕ) (a : length xs ≡ n) (some : 0 < p)
    (high : (k : ℕ) → k < n → get_or ys k 0 ≡ get_or (zip2 times xs (replicate n ((65535 / p + 1) % 2 ^ 16))) k 0 * p / 2 ^ 16) where
  pub remainder_at : ((k : ℕ) → k < n → get_or xs k 0 * p < 2 ^ 16) → (k : ℕ) → k < n → get_or ys k 0 ≡ get_or xs k 0 % p
  remainder_at short k l =
      high k l
      ∙ ap (λ z. z * p / 2 ^ 16) (lane_by times n ((65535 / p + 1) % 2 ^ 16) xs a k l)
      ∙ remainder_by_reciprocal p some (get_or xs k 0) (short k l)
