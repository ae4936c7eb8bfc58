-- Sums of products, position by position.
use Rattle.std.proofs.Common.{◌≡◌, ◌<◌, ◌≤◌, ◌+◌, ◌-◌, ℕ, List, [], ◌∷◌, ◌++◌, length, get_or, drop, take, sym, ap, ap₂, ◌∙◌, arith}
use Rattle.std.proofs.lemmas.List.{drop_more, drop-drop, take-append-drop, length-take, length-drop}
use Rattle.std.proofs.Math.ListN.{drop_of_length-le}
use Rattle.p3_theory.specs.Rings.Ring.{Ops, RingLaws, ring_of}
use Rattle.p3_theory.specs.Rings.Operators.{sum_list}
use Rattle.p3_theory.specs.Rings.Basics.{zero-add}

-- the sum of the products of two lists, up to the end of the shorter one
abbrev pub dot : {A : Type 0} → Ops A → List A → List A → A
dot O [] ys = O.zero
dot O (x ∷ xs) [] = O.zero
dot O (x ∷ xs) (y ∷ ys) = O.add (O.mul x y) (dot O xs ys)

module _ {A : Type 0} {O : Ops A} (l : RingLaws O) where
  pub sum_list-append : (xs ys : List A) → sum_list O (xs ++ ys) ≡ O.add (sum_list O xs) (sum_list O ys)
  sum_list-append [] ys = sym (zero-add (ring_of l) (sum_list O ys))
  sum_list-append (x ∷ xs) ys = ap (O.add x) (sum_list-append xs ys) ∙ sym (l.add_assoc x _ _)

  -- the sum of the rest of a list, as that of its next n items and the rest after them
  pub sum-chunk : (xs : List A) (i n : ℕ) → sum_list O (drop i xs) ≡ O.add (sum_list O (take n (drop i xs))) (sum_list O (drop (i + n) xs))
  sum-chunk xs i n =
      ap (sum_list O) (sym (take-append-drop n (drop i xs))) ∙ sum_list-append (take n (drop i xs)) (drop n (drop i xs))
      ∙ ap (λ z. O.add (sum_list O (take n (drop i xs))) (sum_list O z)) (drop-drop n i xs)

  -- a sum so far and that of the rest of a list, after n items more
  pub sum-step : (xs : List A) (i n : ℕ) (s c t r : A) → c ≡ sum_list O (take (i + n - i) (drop i xs)) → t ≡ O.add s c
      → O.add s (sum_list O (drop i xs)) ≡ r → O.add t (sum_list O (drop (i + n) xs)) ≡ r
  sum-step xs i n s c t r e m p =
      let width : i + n - i ≡ n = omega arith in
      ap (λ z. O.add z (sum_list O (drop (i + n) xs))) (m ∙ ap (O.add s) (e ∙ ap (λ j. sum_list O (take j (drop i xs))) width)) ∙ l.add_assoc s _ _ ∙ ap (O.add s) (sym (sum-chunk xs i n)) ∙ p

  -- no item is left
  pub sum-end : (xs : List A) (i : ℕ) (s r : A) → length xs ≤ i → O.add s (sum_list O (drop i xs)) ≡ r → s ≡ r
  sum-end xs i s r h p = sym (l.add_zero s) ∙ ap (λ z. O.add s (sum_list O z)) (sym (drop_of_length-le xs h)) ∙ p

  -- the rest of a dot product from index i on, as its first product and the rest after it
  pub dot-drop : (xs ys : List A) (i : ℕ) (x y : A) → i < length xs → i < length ys → x ≡ get_or xs i x → y ≡ get_or ys i y
      → dot O (drop i xs) (drop i ys) ≡ O.add (O.mul x y) (dot O (drop (i + 1) xs) (drop (i + 1) ys))
  dot-drop xs ys i x y h k e f =
      ap₂ (dot O) (drop_more xs i x h ∙ ap (λ z. z ∷ drop (i + 1) xs) (sym e)) (drop_more ys i y k ∙ ap (λ z. z ∷ drop (i + 1) ys) (sym f))

  dot-append : (xs xs' ys ys' : List A) → length xs ≡ length ys → dot O (xs ++ xs') (ys ++ ys') ≡ O.add (dot O xs ys) (dot O xs' ys')
  dot-append [] xs' [] ys' h = sym (zero-add (ring_of l) _)
  dot-append [] xs' (y ∷ ys) ys' h = absurd (omega arith)
  dot-append (x ∷ xs) xs' [] ys' h = absurd (omega arith)
  dot-append (x ∷ xs) xs' (y ∷ ys) ys' h =
      let e : length xs ≡ length ys = omega arith in
      ap (O.add (O.mul x y)) (dot-append xs xs' ys ys' e) ∙ sym (l.add_assoc _ _ _)

  -- the rest of a dot product, as that of its next n indices and the rest after them
  pub dot-chunk : (xs ys : List A) (i n : ℕ) → length xs ≡ length ys
      → dot O (drop i xs) (drop i ys) ≡ O.add (dot O (take n (drop i xs)) (take n (drop i ys))) (dot O (drop (i + n) xs) (drop (i + n) ys))
  dot-chunk xs ys i n h =
      let same : length (take n (drop i xs)) ≡ length (take n (drop i ys)) = simp (length-take, length-drop, h) in
      ap₂ (dot O) (sym (take-append-drop n (drop i xs))) (sym (take-append-drop n (drop i ys)))
      ∙ dot-append (take n (drop i xs)) (drop n (drop i xs)) (take n (drop i ys)) (drop n (drop i ys)) same
      ∙ ap (O.add _) (ap₂ (dot O) (drop-drop n i xs) (drop-drop n i ys))

  -- the first product, and the rest of a dot product after it
  pub dot-begin : (xs ys : List A) (x y s : A) → 0 < length xs → length xs ≡ length ys → x ≡ get_or xs 0 x → y ≡ get_or ys 0 y → s ≡ O.mul x y
      → O.add s (dot O (drop 1 xs) (drop 1 ys)) ≡ dot O xs ys
  dot-begin xs ys x y s h k e f m =
      let first : 0 < length ys = omega arith in
      ap (λ z. O.add z (dot O (drop 1 xs) (drop 1 ys))) m ∙ sym (dot-drop xs ys 0 x y h first e f)

  -- a sum so far and the rest of a dot product, after one more product
  pub dot-step : (xs ys : List A) (i : ℕ) (x y s t r : A) → i < length xs → i < length ys → x ≡ get_or xs i x → y ≡ get_or ys i y
      → t ≡ O.add s (O.mul x y) → O.add s (dot O (drop i xs) (drop i ys)) ≡ r → O.add t (dot O (drop (i + 1) xs) (drop (i + 1) ys)) ≡ r
  dot-step xs ys i x y s t r h k e f m p =
      ap (λ z. O.add z (dot O (drop (i + 1) xs) (drop (i + 1) ys))) m ∙ l.add_assoc s (O.mul x y) _
      ∙ ap (O.add s) (sym (dot-drop xs ys i x y h k e f)) ∙ p

  -- no index is left
  pub dot-end : (xs ys : List A) (i : ℕ) (s r : A) → length xs ≤ i → O.add s (dot O (drop i xs) (drop i ys)) ≡ r → s ≡ r
  dot-end xs ys i s r h p = sym (l.add_zero s) ∙ ap (λ z. O.add s (dot O z (drop i ys))) (sym (drop_of_length-le xs h)) ∙ p
