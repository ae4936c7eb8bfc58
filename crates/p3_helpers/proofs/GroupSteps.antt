-- Slices that are changed group after group of w entries, and then entry after entry.
use Rattle.std.specs.Prelude.{◌≡◌, ◌<◌, ◌≤◌, ◌+◌, ◌-◌, ◌*◌, ◌/◌, ℕ, suc, List, [], ◌++◌, length, map, take, drop, replicate, slice_range}
use Rattle.std.proofs.Common.{arith, ap, ap₂, sym, ◌∙◌, take-add, drop-drop, append_assoc, append-nil, subst}
use Rattle.std.proofs.lemmas.Nat.{div-add-mod'}
use Rattle.std.proofs.lemmas.List.{get_or-map, ext_get_or, length-drop, length-map, take_all}
use Rattle.std.proofs.lemmas.Slice.{take-put_mid_below, between-put_mid, drop-put_mid}
use Rattle.std.proofs.Math.Nat.{suc-mul, mul-le-mul_right}
use Rattle.std.proofs.Math.ListN.{drop_of_length-le}
use Rattle.p3_theory.specs.Rings.Ring.{Ops}
use Rattle.p3_theory.specs.Lanes.Lanes.{lane, KeepsLanes, at_replicate}
use Rattle.p3_theory.specs.Lists.PairedLists.{zip_with, length-zip, get-zip, map-split, zip-map, zip-split}
use borrow.Rule.Slice.PartMut.{put_mid}

module _ (w : ℕ) where
  -- a group below the quotient lies whole in the slice
  pub group_fits : (n i : ℕ) → i < n / w → i * w + w ≤ n
  group_fits n i h =
      let next : suc i * w ≤ (n / w) * w = mul-le-mul_right w (omega (arith, h)) in
      omega (arith, next, suc-mul i w, div-add-mod' n w)

  -- so do all of them
  pub groups_fit : (n : ℕ) → (n / w) * w ≤ n
  groups_fit n = omega (arith, div-add-mod' n w)

module _ {A : Type 0} where
  range_is : (xs : List A) (a w : ℕ) → slice_range xs a (a + w) ≡ take w (drop a xs)
  range_is xs a w = let e : a + w - a ≡ w = omega arith in ap (λ n. take n (drop a xs)) e

  -- the front with a group more
  front : (new : List A) (a w : ℕ) → take (a + w) new ≡ take a new ++ slice_range new a (a + w)
  front new a w = take-add a w new ∙ ap (λ l. take a new ++ l) (sym (range_is new a w))

  joined : (new old part rest whole : List A) (a w : ℕ) → take a new ≡ take a old → slice_range new a (a + w) ≡ part → take a old ++ (part ++ rest) ≡ whole → take (a + w) new ++ rest ≡ whole
  joined new old part rest whole a w before group h =
      ap (λ l. l ++ rest) (front new a w ∙ ap₂ (λ p q. p ++ q) before group) ∙ append_assoc (take a old) part rest ∙ h

  -- a group is written, from another slice
  pub written_group : (f : A → A) (new old from whole : List A) (a w : ℕ) → take a new ≡ take a old → slice_range new a (a + w) ≡ map f (slice_range from a (a + w))
      → take a old ++ map f (drop a from) ≡ whole → take (a + w) new ++ map f (drop (a + w) from) ≡ whole
  written_group f new old from whole a w before group h =
      joined new old (map f (take w (drop a from))) (map f (drop (a + w) from)) whole a w before (group ∙ ap (map f) (range_is from a w))
      (ap (λ l. take a old ++ l) (ap (λ l. map f (take w (drop a from)) ++ map f l) (sym (drop-drop w a from)) ∙ sym (map-split f w (drop a from))) ∙ h)

  -- a group is mapped
  pub mapped_group : (f : A → A) (new old initial : List A) (a w : ℕ) → take a new ≡ take a old → slice_range new a (a + w) ≡ map f (slice_range old a (a + w))
      → drop (a + w) new ≡ drop (a + w) old → take a old ++ map f (drop a old) ≡ map f initial → take (a + w) new ++ map f (drop (a + w) new) ≡ map f initial
  mapped_group f new old initial a w before group after h = ap (λ l. take (a + w) new ++ map f l) after ∙ written_group f new old old (map f initial) a w before group h

  -- a group is combined with that of another slice
  pub combined_group : (g : A → A → A) (new old other initial : List A) (a w : ℕ) → take a new ≡ take a old → slice_range new a (a + w) ≡ zip_with g (slice_range old a (a + w)) (slice_range other a (a + w))
      → drop (a + w) new ≡ drop (a + w) old → take a old ++ zip_with g (drop a old) (drop a other) ≡ zip_with g initial other
      → take (a + w) new ++ zip_with g (drop (a + w) new) (drop (a + w) other) ≡ zip_with g initial other
  combined_group g new old other initial a w before group after h =
      let part = zip_with g (take w (drop a old)) (take w (drop a other)) in
      ap (λ l. take (a + w) new ++ zip_with g l (drop (a + w) other)) after
      ∙ joined new old part (zip_with g (drop (a + w) old) (drop (a + w) other)) (zip_with g initial other) a w before (group ∙ ap₂ (zip_with g) (range_is old a w) (range_is other a w))
      (ap (λ l. take a old ++ l)
      (ap₂ (λ l m. part ++ zip_with g l m) (sym (drop-drop w a old)) (sym (drop-drop w a other)) ∙ sym (zip-split g w (drop a old) (drop a other)))
      ∙ h)

  -- a part is combined with that of another slice, and comes back
  pub combined_part : (g : A → A → A) (old other initial part : List A) (a w k : ℕ) → k ≡ w → a + w ≤ length old → length part ≡ w
      → part ≡ zip_with g (slice_range old a (a + w)) (slice_range other a (a + w)) → take a old ++ zip_with g (drop a old) (drop a other) ≡ zip_with g initial other
      → take (a + w) (put_mid a k old part) ++ zip_with g (drop (a + w) (put_mid a k old part)) (drop (a + w) other) ≡ zip_with g initial other
  combined_part g old other initial part a w k e fits long group h =
      combined_group g (put_mid a k old part) old other initial a w (take-put_mid_below a k old part a (omega arith) (omega (arith, fits)))
      (between-put_mid a k old part (a + w) (omega (arith, fits)) (omega (arith, long)) ∙ group)
      (drop-put_mid a k old part (a + w) (omega (arith, e)) (omega (arith, fits)) (omega (arith, long, e))) h

  -- the part after the last group is combined with that of another slice, and comes back
  pub combined_rest : (g : A → A → A) (old other whole part : List A) (w i m : ℕ) → i ≡ m
      → part ≡ zip_with g (take (length old - m * w) (drop (m * w) old)) (take (length other - m * w) (drop (m * w) other))
      → take (i * w) old ++ zip_with g (drop (i * w) old) (drop (i * w) other) ≡ whole → put_mid (m * w) (length old - m * w) old part ≡ whole
  combined_rest g old other whole part w i m e group h =
      let a = m * w in
      let after : drop (length old - a) (drop a old) ≡ [] = drop_of_length-le (drop a old) (omega (arith, length-drop a old)) in
      let all : (xs : List A) → take (length xs - a) (drop a xs) ≡ drop a xs = λ xs. take_all (length xs - a) (drop a xs) (omega (arith, length-drop a xs)) in
      ap (λ l. take a old ++ l) (ap₂ (λ p q. p ++ q) (group ∙ ap₂ (zip_with g) (all old) (all other)) after ∙ append-nil _)
      ∙ subst (λ j. take (j * w) old ++ zip_with g (drop (j * w) old) (drop (j * w) other) ≡ whole) e h

module _ {P F : Type 0} (O : Ops P) (Q : Ops F) (lanes : P → List F) (w : ℕ) (lengths : (x : P) → length (lanes x) ≡ w) (keeps : KeepsLanes O Q lanes w) where
  -- the lanes of a packing times one value in all lanes
  pub scaled_lanes : (x y : P) (s : F) → lanes y ≡ replicate w s → lanes (O.mul x y) ≡ map (λ a. Q.mul a s) (lanes x)
  scaled_lanes x y s all =
      let long : length (lanes (O.mul x y)) ≡ w = lengths (O.mul x y) in
      ext_get_or Q.zero (lanes (O.mul x y)) (map (λ a. Q.mul a s) (lanes x)) (long ∙ sym (length-map (lanes x) (λ a. Q.mul a s) ∙ lengths x)) (λ k h.
      let below : k < w = omega (arith, h, long) in
      (keeps k below).mul x y ∙ ap (Q.mul (lane Q lanes k x)) (at_replicate w k s Q.zero (lanes y) below all)
      ∙ sym (get_or-map (λ a. Q.mul a s) (lanes x) k Q.zero Q.zero (omega (arith, below, lengths x))))

  -- the lanes of a sum
  pub summed_lanes : (x y : P) → lanes (O.add x y) ≡ zip_with Q.add (lanes x) (lanes y)
  summed_lanes x y =
      let long : length (lanes (O.add x y)) ≡ w = lengths (O.add x y) in
      let alike : length (lanes x) ≡ length (lanes y) = lengths x ∙ sym (lengths y) in
      ext_get_or Q.zero (lanes (O.add x y)) (zip_with Q.add (lanes x) (lanes y)) (long ∙ sym (length-zip Q.add (lanes x) (lanes y) alike ∙ lengths x)) (λ k h.
      let below : k < w = omega (arith, h, long) in
      (keeps k below).add x y ∙ sym (get-zip Q.add (lanes x) (lanes y) k Q.zero Q.zero Q.zero alike (omega (arith, below, lengths x))))

  -- a part of a list combined with the lanes of a packing times a value
  pub combined_lanes : (xs : List F) (y z : P) (s : F) → lanes z ≡ replicate w s → zip_with Q.add xs (lanes (O.mul y z)) ≡ zip_with (λ a b. Q.add a (Q.mul b s)) xs (lanes y)
  combined_lanes xs y z s all = ap (zip_with Q.add xs) (scaled_lanes y z s all) ∙ zip-map Q.add (λ a. Q.mul a s) xs (lanes y)
