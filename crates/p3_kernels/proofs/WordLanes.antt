-- One lane of a word that is reduced once, on lanes of 32 bits.
use Rattle.std.proofs.Common.{get_or, ◌≡◌, ℕ, ◌+◌, ◌-◌, ◌%◌, ◌^◌, ◌<◌, ◌≤◌, inl, inr, List, length, arith, zero, suc, cond, nat_lt, true, false, ◌∷◌, [], map, refl, w32, ◌∙◌, sym, ap}
use Rattle.std.proofs.Math.Nat.{mod-eq_of_lt, mod-eq-sub-mod}
use Rattle.std.proofs.lemmas.Bool.{lt-ltb, le-ltb}
use Rattle.std.proofs.lemmas.Bool.Decides.{leb_tells}
use Rattle.p3_kernels.proofs.LaneOperations.{lane_by, width_by}
use Rattle.p3_residues.proofs.ModularLanes.{least_lane}
use lib.Lanes.{sel_l, top, zip2}
use lib.ListN.{replicate}
use borrow.Rule.Simd.Lanes.{act2}
use borrow.Table.Row.{s_int}
use mir.Syntax.{wrap_sub, mask, lt, unsigned}

abbrev pub minus : ℕ → ℕ → ℕ
minus = act2 wrap_sub (s_int w32) (s_int w32) (s_int w32)

abbrev pub less : ℕ → ℕ → ℕ
less = act2 (mask (lt unsigned)) (s_int w32) (s_int w32) (s_int w32)

-- the lesser of two words, as a comparison and a selection
abbrev lesser : ℕ → ℕ → ℕ
lesser x y = cond (top 31 (less x y)) x y

lesser_left : (x y : ℕ) → x < y → lesser x y ≡ x
lesser_left x y l = let t : nat_lt x y ≡ true = lt-ltb _ _ l in rw t refl

lesser_right : (x y : ℕ) → y ≤ x → lesser x y ≡ y
lesser_right x y l = let t : nat_lt x y ≡ false = le-ltb _ _ l in rw t refl

one_reduced : (p s : ℕ) → p < 2 ^ 31 → s < p + p → lesser s (minus s p) ≡ s % p
one_reduced p s o m = elim (leb_tells p s) [
  | inr h ↦
      (let e : (s + (4294967296 - p)) % 4294967296 ≡ s + (4294967296 - p) = omega (arith, h.1) in
      rw e (lesser_left s (s + (4294967296 - p)) (omega (arith, h.1)) ∙ sym (mod-eq_of_lt h.1)))
  | inl h ↦
      (let e : (s + (4294967296 - p)) % 4294967296 ≡ s - p = omega (arith, h.1) in
      let q : s - p < p = omega (arith, h.1) in
      rw e (lesser_right s (s - p) (omega (arith, h.1)) ∙ sym (mod-eq-sub-mod h.1 ∙ mod-eq_of_lt q)))
]

least_width : (us vs : List ℕ) → length us ≡ length vs → length (sel_l (map (top 31) (zip2 less us vs)) us vs) ≡ length us
least_width [] vs e = refl
least_width (u ∷ us) [] e = absurd (omega arith)
least_width (u ∷ us) (v ∷ vs) e = ap (λ n. suc n) (least_width us vs (omega arith))

module _ (n p : ℕ) (xs : List ℕ) (a : length xs ≡ n) where
  abbrev ds : List ℕ
  ds = zip2 minus xs (replicate n p)

  wd : length ds ≡ n
  wd = width_by minus n p xs a

  pub reduced_width : length (sel_l (map (top 31) (zip2 less xs ds)) xs ds) ≡ n
  reduced_width = least_width xs ds (a ∙ sym wd) ∙ a

  pub reduced_lane : p < 2 ^ 31 → ((k : ℕ) → k < n → get_or xs k 0 < p + p) → (k : ℕ) → k < n → get_or (sel_l (map (top 31) (zip2 less xs ds)) xs ds) k 0 ≡ get_or xs k 0 % p
  reduced_lane o f k l =
      least_lane xs ds k (omega arith) (a ∙ sym wd)
      ∙ ap (λ z. lesser (get_or xs k 0) z) (lane_by minus n p xs a k l)
      ∙ one_reduced p (get_or xs k 0) o (f k l)
