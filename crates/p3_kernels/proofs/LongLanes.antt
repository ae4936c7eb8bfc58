-- One lane of what operators on lanes of 64 bits give.
use Rattle.std.proofs.Common.{get_or, ◌≡◌, ℕ, ◌+◌, ◌*◌, ◌/◌, ◌%◌, ◌^◌, ◌<◌, ◌≤◌, List, length, arith, w64, ◌∙◌, ap}
use Rattle.std.proofs.Math.Nat.{mod-eq_of_lt, mod-lt, mul-le-mul}
use Rattle.std.proofs.lemmas.Nat.{and_mask}
use Rattle.p3_kernels.proofs.LaneOperations.{lane2, lane_by, width2, width_by}
use Rattle.p3_kernels.specs.Pairs.{multiple}
use lib.Lanes.{zip2}
use lib.ListN.{replicate}
use borrow.Rule.Simd.Lanes.{act2}
use borrow.Table.Row.{s_int}
use mir.Syntax.{wrap_add, wrap_mul, wrap_sub, bit_and, shl, shr, unsigned}

abbrev pub plus : ℕ → ℕ → ℕ
plus = act2 wrap_add (s_int w64) (s_int w64) (s_int w64)

abbrev pub minus : ℕ → ℕ → ℕ
minus = act2 wrap_sub (s_int w64) (s_int w64) (s_int w64)

abbrev pub times : ℕ → ℕ → ℕ
times = act2 wrap_mul (s_int w64) (s_int w64) (s_int w64)

abbrev pub both : ℕ → ℕ → ℕ
both = act2 bit_and (s_int w64) (s_int w64) (s_int w64)

abbrev pub down : ℕ → ℕ → ℕ
down = act2 (shr unsigned) (s_int w64) (s_int w64) (s_int w64)

abbrev pub up : ℕ → ℕ → ℕ
up = act2 shl (s_int w64) (s_int w64) (s_int w64)

-- the high words of two numbers
one_high : (x y : ℕ) → x < 2 ^ 64 → y < 2 ^ 64 → plus (x / 4294967296) (up (y / 4294967296) 32) ≡ x / 4294967296 + 4294967296 * (y / 4294967296)
one_high x y l m = let e : (y / 4294967296 * 4294967296) % 18446744073709551616 ≡ y / 4294967296 * 4294967296 = omega (arith, m) in rw e (omega (arith, l, m))

pub high_lane : (n : ℕ) (xs ys : List ℕ) → length xs ≡ n → length ys ≡ n → ((k : ℕ) → get_or xs k 0 < 2 ^ 64) → ((k : ℕ) → get_or ys k 0 < 2 ^ 64)
    → (k : ℕ) → k < n → get_or (zip2 plus (zip2 down xs (replicate n 32)) (zip2 up (zip2 down ys (replicate n 32)) (replicate n 32))) k 0
    ≡ get_or xs k 0 / 2 ^ 32 + 2 ^ 32 * (get_or ys k 0 / 2 ^ 32)
high_lane n xs ys a b f g k l =
    let us = zip2 down xs (replicate n 32) in
    let vs = zip2 down ys (replicate n 32) in
    let ws = zip2 up vs (replicate n 32) in
    let wu : length us ≡ n = width_by down n 32 xs a in
    let wv : length vs ≡ n = width_by down n 32 ys b in
    lane2 plus n us ws wu (width_by up n 32 vs wv) k l
    ∙ (λ ι. plus (lane_by down n 32 xs a k l ι) ((lane_by up n 32 vs wv k l ∙ ap (λ v. up v 32) (lane_by down n 32 ys b k l)) ι))
    ∙ one_high (get_or xs k 0) (get_or ys k 0) (f k) (g k)

-- a product of two words
pub exact_product : (a b : ℕ) → a < 2 ^ 32 → b < 2 ^ 32 → times a b ≡ a * b
exact_product a b h k =
    let most = mul-le-mul (let f : a ≤ 4294967295 = omega (arith, h) in f) (let g : b ≤ 4294967295 = omega (arith, k) in g) in
    mod-eq_of_lt (omega (arith, most))

-- of lanes that are the words f k and g k
module _ (n : ℕ) (us vs : List ℕ) (a : length us ≡ n) (b : length vs ≡ n) (f g : ℕ → ℕ)
    (eu : (k : ℕ) → k < n → get_or us k 0 ≡ f k) (ev : (k : ℕ) → k < n → get_or vs k 0 ≡ g k) where
  pub product_lane : ((k : ℕ) → f k < 2 ^ 32) → ((k : ℕ) → g k < 2 ^ 32) → (k : ℕ) → k < n → get_or (zip2 times us vs) k 0 ≡ f k * g k
  product_lane s t k l = lane2 times n us vs a b k l ∙ (λ ι. times (eu k l ι) (ev k l ι)) ∙ exact_product (f k) (g k) (s k) (t k)

-- the multiple that ends in the low 32 bits
one_multiple : (p i s : ℕ) → p < 2 ^ 31 → times (both (times (both s 4294967295) i) 4294967295) p ≡ multiple p i s
one_multiple p i s o =
    let low : both s 4294967295 ≡ s % 2 ^ 32 = and_mask s 32 in
    let factor : both (times (s % 2 ^ 32) i) 4294967295 ≡ (s % 2 ^ 32 * i) % 2 ^ 32 =
    and_mask (times (s % 2 ^ 32) i) 32 ∙ (let e : (s % 2 ^ 32 * i) % 18446744073709551616 % 2 ^ 32 ≡ (s % 2 ^ 32 * i) % 2 ^ 32 = omega arith in e) in
    ap (λ z. times (both (times z i) 4294967295) p) low ∙ ap (λ z. times z p) factor
    ∙ exact_product ((s % 2 ^ 32 * i) % 2 ^ 32) p (mod-lt (s % 2 ^ 32 * i) (omega arith)) (omega (arith, o))

module _ (n p i : ℕ) (xs : List ℕ) (a : length xs ≡ n) where
  abbrev qs : List ℕ
  qs = zip2 both xs (replicate n 4294967295)

  abbrev rs : List ℕ
  rs = zip2 times qs (replicate n i)

  abbrev fs : List ℕ
  fs = zip2 both rs (replicate n 4294967295)

  wq : length qs ≡ n
  wq = width_by both n 4294967295 xs a

  wr : length rs ≡ n
  wr = width_by times n i qs wq

  wf : length fs ≡ n
  wf = width_by both n 4294967295 rs wr

  pub multiple_width : length (zip2 times fs (replicate n p)) ≡ n
  multiple_width = width_by times n p fs wf

  pub multiple_lane : p < 2 ^ 31 → (k : ℕ) → k < n → get_or (zip2 times fs (replicate n p)) k 0 ≡ multiple p i (get_or xs k 0)
  multiple_lane o k l =
      lane_by times n p fs wf k l
      ∙ ap (λ z. times z p) (lane_by both n 4294967295 rs wr k l ∙ ap (λ z. both z 4294967295) (lane_by times n i qs wq k l ∙ ap (λ z. times z i) (lane_by both n 4294967295 xs a k l)))
      ∙ one_multiple p i (get_or xs k 0) o

-- a sum of two numbers that fits
pub sum_lane : (n : ℕ) (xs ys : List ℕ) (a : length xs ≡ n) (b : length ys ≡ n) (k : ℕ) → k < n → (y : ℕ) → get_or ys k 0 ≡ y → get_or xs k 0 + y < 2 ^ 64
    → get_or (zip2 plus xs ys) k 0 ≡ get_or xs k 0 + y
sum_lane n xs ys a b k l y e h = lane2 plus n xs ys a b k l ∙ ap (λ z. plus (get_or xs k 0) z) e ∙ mod-eq_of_lt h

four : (a b c d : ℕ) → a < 2 ^ 62 → b < 2 ^ 62 → c < 2 ^ 62 → d < 2 ^ 62 → plus (plus a b) (plus c d) ≡ a + b + (c + d)
four a b c d i j k l = omega (arith, i, j, k, l)

-- a sum of four numbers
module _ (n : ℕ) (p q r s : List ℕ) (a : length p ≡ n) (b : length q ≡ n) (c : length r ≡ n) (d : length s ≡ n) where
  w_first : length (zip2 plus p q) ≡ n
  w_first = width2 plus n p q a b

  w_last : length (zip2 plus r s) ≡ n
  w_last = width2 plus n r s c d

  pub four_width : length (zip2 plus (zip2 plus p q) (zip2 plus r s)) ≡ n
  four_width = width2 plus n (zip2 plus p q) (zip2 plus r s) w_first w_last

  pub four_lane : (k : ℕ) → k < n → get_or p k 0 < 2 ^ 62 → get_or q k 0 < 2 ^ 62 → get_or r k 0 < 2 ^ 62 → get_or s k 0 < 2 ^ 62
      → get_or (zip2 plus (zip2 plus p q) (zip2 plus r s)) k 0 ≡ get_or p k 0 + get_or q k 0 + (get_or r k 0 + get_or s k 0)
  four_lane k l e f g h =
      lane2 plus n (zip2 plus p q) (zip2 plus r s) w_first w_last k l
      ∙ (λ ι. plus (lane2 plus n p q a b k l ι) (lane2 plus n r s c d k l ι))
      ∙ four (get_or p k 0) (get_or q k 0) (get_or r k 0) (get_or s k 0) e f g h
