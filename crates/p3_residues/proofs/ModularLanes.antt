-- One lane of a sum or a difference modulo p, by the lesser of two words, and the lanes of a vector.
use Rattle.std.proofs.Common.{get_or, ◌≡◌, ℕ, ◌+◌, ◌-◌, ◌*◌, ◌%◌, ◌^◌, ◌<◌, ◌≤◌, inl, inr, List, length, arith, zero, suc, cond, nat_lt, true, false, ◌∷◌, [], map, refl, w32, ◌∙◌, sym, ap}
use Rattle.std.proofs.Math.Nat.{mod-eq_of_lt, mod-eq-sub-mod}
use Rattle.std.proofs.lemmas.Bool.{lt-ltb, le-ltb}
use Rattle.std.proofs.lemmas.Bool.Decides.{leb_tells}
use Rattle.std.specs.Simd.Lanes.{zip2}
use Rattle.std.proofs.lemmas.Simd.{get_or-zip2, length-zip2}
use lib.Lanes.{sel_l, top}
use borrow.Rule.Simd.Lanes.{act2}
use borrow.Table.Row.{s_int}
use mir.Syntax.{wrap_add, wrap_sub, mask, lt, unsigned}

abbrev plus : ℕ → ℕ → ℕ
plus = act2 wrap_add (s_int w32) (s_int w32) (s_int w32)

abbrev minus : ℕ → ℕ → ℕ
minus = act2 wrap_sub (s_int w32) (s_int w32) (s_int w32)

abbrev less : ℕ → ℕ → ℕ
less = act2 (mask (lt unsigned)) (s_int w32) (s_int w32) (s_int w32)

-- the lesser of two words, as a comparison and a selection
abbrev lesser : ℕ → ℕ → ℕ
lesser x y = cond (top 31 (less x y)) x y

lesser_left : (x y : ℕ) → x < y → lesser x y ≡ x
lesser_left x y l = let t : nat_lt x y ≡ true = lt-ltb _ _ l in rw t refl

lesser_right : (x y : ℕ) → y ≤ x → lesser x y ≡ y
lesser_right x y l = let t : nat_lt x y ≡ false = le-ltb _ _ l in rw t refl

reduced : (p s : ℕ) → p ≤ 2 ^ 31 → 0 < p → s < 2 * p → lesser s ((s + (4294967296 - p)) % 4294967296) ≡ s % p
reduced p s o z m = elim (leb_tells p s) [
  | inr h ↦
      (let e : (s + (4294967296 - p)) % 4294967296 ≡ s + (4294967296 - p) = omega (arith, h.1) in
      rw e (lesser_left s (s + (4294967296 - p)) (omega (arith, h.1)) ∙ sym (mod-eq_of_lt h.1)))
  | inl h ↦
      (let e : (s + (4294967296 - p)) % 4294967296 ≡ s - p = omega (arith, h.1) in
      let q : s - p < p = omega arith in
      rw e (lesser_right s (s - p) (omega (arith, h.1)) ∙ sym (mod-eq-sub-mod h.1 ∙ mod-eq_of_lt q)))
]

one_sum : (p x y : ℕ) → p ≤ 2 ^ 31 → x < p → y < p → lesser (plus x y) (minus (plus x y) p) ≡ (x + y) % p
one_sum p x y o l m = let e : (x + y) % 4294967296 ≡ x + y = omega arith in rw e (reduced p (x + y) o (omega arith) (omega arith))

one_difference : (p x y : ℕ) → p ≤ 2 ^ 31 → x < p → y < p → lesser (minus x y) (plus (minus x y) p) ≡ (x + (p - y)) % p
one_difference p x y o l m = elim (leb_tells y x) [
  | inl h ↦
      (let e : (x + (4294967296 - y)) % 4294967296 ≡ x - y = omega (arith, h.1) in
      let f : (x - y + p) % 4294967296 ≡ x - y + p = omega (arith, h.1) in
      let b : p ≤ x + (p - y) = omega (arith, h.1) in
      let d : x + (p - y) - p ≡ x - y = omega (arith, h.1) in
      let q : x + (p - y) - p < p = omega (arith, h.1) in
      rw e (rw f (lesser_left (x - y) (x - y + p) (omega arith) ∙ sym (mod-eq-sub-mod b ∙ mod-eq_of_lt q ∙ d))))
  | inr h ↦
      (let e : (x + (4294967296 - y)) % 4294967296 ≡ x + (4294967296 - y) = omega (arith, h.1) in
      let f : (x + (4294967296 - y) + p) % 4294967296 ≡ x + (p - y) = omega (arith, h.1) in
      let q : x + (p - y) < p = omega (arith, h.1) in
      rw e (rw f (lesser_right (x + (4294967296 - y)) (x + (p - y)) (omega (arith, h.1)) ∙ sym (mod-eq_of_lt q))))
]

-- a lane of the lesser of two vectors
pub least_lane : (us vs : List ℕ) (k : ℕ) → k < length us → length us ≡ length vs → get_or (sel_l (map (top 31) (zip2 less us vs)) us vs) k 0 ≡ lesser (get_or us k 0) (get_or vs k 0)
least_lane [] vs k l e = absurd (omega arith)
least_lane (u ∷ us) [] k l e = absurd (omega arith)
least_lane (u ∷ us) (v ∷ vs) zero l e = refl
least_lane (u ∷ us) (v ∷ vs) (suc k) l e = least_lane us vs k (omega arith) (omega arith)

least_width : (us vs : List ℕ) → length us ≡ length vs → length (sel_l (map (top 31) (zip2 less us vs)) us vs) ≡ length us
least_width [] vs e = refl
least_width (u ∷ us) [] e = absurd (omega arith)
least_width (u ∷ us) (v ∷ vs) e = ap (λ n. suc n) (least_width us vs (omega arith))

module _ (xs ys ps : List ℕ) (n : ℕ) (lx : length xs ≡ n) (ly : length ys ≡ n) (lp : length ps ≡ n) where
  pub sums_width : length (sel_l (map (top 31) (zip2 less (zip2 plus xs ys) (zip2 minus (zip2 plus xs ys) ps))) (zip2 plus xs ys) (zip2 minus (zip2 plus xs ys) ps)) ≡ n
  sums_width =
      let ls : length (zip2 plus xs ys) ≡ length xs = length-zip2 plus xs ys (lx ∙ sym ly) in
      let ld : length (zip2 minus (zip2 plus xs ys) ps) ≡ length (zip2 plus xs ys) = length-zip2 minus (zip2 plus xs ys) ps (ls ∙ lx ∙ sym lp) in
      least_width (zip2 plus xs ys) (zip2 minus (zip2 plus xs ys) ps) (sym ld) ∙ ls ∙ lx

  pub differences_width : length (sel_l (map (top 31) (zip2 less (zip2 minus xs ys) (zip2 plus (zip2 minus xs ys) ps))) (zip2 minus xs ys) (zip2 plus (zip2 minus xs ys) ps)) ≡ n
  differences_width =
      let ls : length (zip2 minus xs ys) ≡ length xs = length-zip2 minus xs ys (lx ∙ sym ly) in
      let ld : length (zip2 plus (zip2 minus xs ys) ps) ≡ length (zip2 minus xs ys) = length-zip2 plus (zip2 minus xs ys) ps (ls ∙ lx ∙ sym lp) in
      least_width (zip2 minus xs ys) (zip2 plus (zip2 minus xs ys) ps) (sym ld) ∙ ls ∙ lx

module _ (xs ys ps : List ℕ) (n : ℕ) (lx : length xs ≡ n) (ly : length ys ≡ n) (lp : length ps ≡ n) (order : (k : ℕ) → k < n → get_or ps k 0 ≤ 2 ^ 31) (left : (k : ℕ) → k < n → get_or xs k 0 < get_or ps k 0) (right : (k : ℕ) → k < n → get_or ys k 0 < get_or ps k 0) where
  pub sums : (k : ℕ) → k < n → get_or (sel_l (map (top 31) (zip2 less (zip2 plus xs ys) (zip2 minus (zip2 plus xs ys) ps))) (zip2 plus xs ys) (zip2 minus (zip2 plus xs ys) ps)) k 0 ≡ (get_or xs k 0 + get_or ys k 0) % get_or ps k 0
  sums k l =
      let ls : length (zip2 plus xs ys) ≡ length xs = length-zip2 plus xs ys (lx ∙ sym ly) in
      let ld : length (zip2 minus (zip2 plus xs ys) ps) ≡ length (zip2 plus xs ys) = length-zip2 minus (zip2 plus xs ys) ps (ls ∙ lx ∙ sym lp) in
      let one : get_or (zip2 plus xs ys) k 0 ≡ plus (get_or xs k 0) (get_or ys k 0) = get_or-zip2 plus xs ys k 0 0 0 (omega arith) (omega arith) in
      let two : get_or (zip2 minus (zip2 plus xs ys) ps) k 0 ≡ minus (get_or (zip2 plus xs ys) k 0) (get_or ps k 0) = get_or-zip2 minus (zip2 plus xs ys) ps k 0 0 0 (omega arith) (omega arith) in
      least_lane (zip2 plus xs ys) (zip2 minus (zip2 plus xs ys) ps) k (omega arith) (sym ld)
      ∙ ap (λ v. lesser (get_or (zip2 plus xs ys) k 0) v) two
      ∙ ap (λ u. lesser u (minus u (get_or ps k 0))) one
      ∙ one_sum (get_or ps k 0) (get_or xs k 0) (get_or ys k 0) (order k l) (left k l) (right k l)

  pub differences : (k : ℕ) → k < n → get_or (sel_l (map (top 31) (zip2 less (zip2 minus xs ys) (zip2 plus (zip2 minus xs ys) ps))) (zip2 minus xs ys) (zip2 plus (zip2 minus xs ys) ps)) k 0 ≡ (get_or xs k 0 + (get_or ps k 0 - get_or ys k 0)) % get_or ps k 0
  differences k l =
      let ls : length (zip2 minus xs ys) ≡ length xs = length-zip2 minus xs ys (lx ∙ sym ly) in
      let ld : length (zip2 plus (zip2 minus xs ys) ps) ≡ length (zip2 minus xs ys) = length-zip2 plus (zip2 minus xs ys) ps (ls ∙ lx ∙ sym lp) in
      let one : get_or (zip2 minus xs ys) k 0 ≡ minus (get_or xs k 0) (get_or ys k 0) = get_or-zip2 minus xs ys k 0 0 0 (omega arith) (omega arith) in
      let two : get_or (zip2 plus (zip2 minus xs ys) ps) k 0 ≡ plus (get_or (zip2 minus xs ys) k 0) (get_or ps k 0) = get_or-zip2 plus (zip2 minus xs ys) ps k 0 0 0 (omega arith) (omega arith) in
      least_lane (zip2 minus xs ys) (zip2 plus (zip2 minus xs ys) ps) k (omega arith) (sym ld)
      ∙ ap (λ v. lesser (get_or (zip2 minus xs ys) k 0) v) two
      ∙ ap (λ u. lesser u (plus u (get_or ps k 0))) one
      ∙ one_difference (get_or ps k 0) (get_or xs k 0) (get_or ys k 0) (order k l) (left k l) (right k l)
