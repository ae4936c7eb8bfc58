-- Dot products of values of an algebra with embedded elements of its base, as loops make them.
use Rattle.std.proofs.Common.{◌≡◌, ◌<◌, ◌≤◌, ◌+◌, ◌-◌, ℕ, List, length, get_or, drop, take, map, sym, ap, ap₂, ◌∙◌, arith}
use Rattle.std.proofs.Math.ListN.{get_or-map}
use Rattle.std.proofs.lemmas.List.{take-map, drop-map, take_rest}
use Rattle.p3_theory.specs.Rings.Ring.{Ops, RingLaws, ring_of}
use Rattle.p3_theory.specs.Rings.Basics.{add_from_zero}
use Rattle.p3_theory.specs.Rings.Homomorphism.{length-map}
use Rattle.p3_theory.specs.Rings.DotProduct.{dot, dot-chunk, dot-begin, dot-step, dot-end}

-- the indices from i on, as a slice of a list gives them
abbrev pub from : {A : Type 0} → ℕ → List A → List A
from i xs = take (length xs - i) (drop i xs)

-- a sum so far, and the products from index i on, make r
abbrev pub MakesWithRest : {A F : Type 0} → Ops A → (F → A) → List A → List F → A → ℕ → A → Type 0
MakesWithRest O e xs fs r i s = O.add s (dot O (drop i xs) (drop i (map e fs))) ≡ r

module _ {A F : Type 0} {O : Ops A} (l : RingLaws O) (e : F → A) (xs : List A) (fs : List F) (same : length xs ≡ length fs) where
  same-map : length xs ≡ length (map e fs)
  same-map = same ∙ sym (length-map e fs)

  read-map : (i : ℕ) (y : F) → y ≡ get_or fs i y → e y ≡ get_or (map e fs) i (e y)
  read-map i y h = ap e h ∙ sym (get_or-map e fs i y)

  dot-from : (i : ℕ) → dot O (from i xs) (map e (from i fs)) ≡ dot O (drop i xs) (drop i (map e fs))
  dot-from i = ap₂ (λ y z. dot O y (map e z)) (take_rest xs i) (take_rest fs i) ∙ ap (dot O (drop i xs)) (sym (drop-map e i fs))

  -- from zero on
  pub mixed-start : (s : A) → s ≡ O.zero → MakesWithRest O e xs fs (dot O xs (map e fs)) 0 s
  mixed-start s h = add_from_zero (ring_of l) s _ h

  -- after the first product
  pub mixed-begin : (x : A) (y : F) (s : A) → 0 < length xs → x ≡ get_or xs 0 x → y ≡ get_or fs 0 y → s ≡ O.mul x (e y)
      → MakesWithRest O e xs fs (dot O xs (map e fs)) 1 s
  mixed-begin x y s h p q m = dot-begin l xs (map e fs) x (e y) s h same-map p (read-map 0 y q) m

  -- of one product
  pub mixed-one : (x : A) (y : F) (s : A) → length xs ≡ 1 → x ≡ get_or xs 0 x → y ≡ get_or fs 0 y → s ≡ O.mul x (e y) → s ≡ dot O xs (map e fs)
  mixed-one x y s h p q m =
      let some : 0 < length xs = omega arith in
      let last : length xs ≤ 1 = omega arith in
      dot-end l xs (map e fs) 1 s (dot O xs (map e fs)) last (mixed-begin x y s some p q m)

  -- after the products of the first n indices
  pub mixed-first : (n : ℕ) (s : A) → s ≡ dot O (take n xs) (map e (take n fs)) → MakesWithRest O e xs fs (dot O xs (map e fs)) n s
  mixed-first n s h =
      let none : 0 + n ≡ n = omega arith in
      ap (λ z. O.add z (dot O (drop n xs) (drop n (map e fs)))) (h ∙ ap (dot O (take n xs)) (sym (take-map e n fs)))
      ∙ sym (dot-chunk l xs (map e fs) 0 n same-map ∙ ap (λ i. O.add (dot O (take n xs) (take n (map e fs))) (dot O (drop i xs) (drop i (map e fs)))) none)

  -- of the first n indices and of the others
  pub mixed-split : (n : ℕ) (low high s : A) → low ≡ dot O (take n xs) (map e (take n fs)) → high ≡ dot O (from n xs) (map e (from n fs)) → s ≡ O.add low high
      → s ≡ dot O xs (map e fs)
  mixed-split n low high s h k m = m ∙ ap (O.add low) (k ∙ dot-from n) ∙ mixed-first n low h

  -- after one more product
  pub mixed-step : (i : ℕ) (x : A) (y : F) (s t r : A) → i < length xs → x ≡ get_or xs i x → y ≡ get_or fs i y → t ≡ O.add s (O.mul x (e y))
      → MakesWithRest O e xs fs r i s → MakesWithRest O e xs fs r (i + 1) t
  mixed-step i x y s t r h p q m k =
      let inside : i < length (map e fs) = omega (arith, same-map) in
      dot-step l xs (map e fs) i x (e y) s t r h inside p (read-map i y q) m k

  -- after the products of n more indices
  pub mixed-chunk : (i n : ℕ) (c s t r : A) → c ≡ dot O (take (i + n - i) (drop i xs)) (map e (take (i + n - i) (drop i fs))) → t ≡ O.add s c
      → MakesWithRest O e xs fs r i s → MakesWithRest O e xs fs r (i + n) t
  mixed-chunk i n c s t r h m k =
      let width : i + n - i ≡ n = omega arith in
      let moved : map e (take n (drop i fs)) ≡ take n (drop i (map e fs)) = sym (take-map e n (drop i fs)) ∙ ap (take n) (sym (drop-map e i fs)) in
      let chunk : c ≡ dot O (take n (drop i xs)) (take n (drop i (map e fs))) =
      h ∙ ap (λ j. dot O (take j (drop i xs)) (map e (take j (drop i fs)))) width ∙ ap (dot O (take n (drop i xs))) moved in
      ap (λ z. O.add z (dot O (drop (i + n) xs) (drop (i + n) (map e fs)))) (m ∙ ap (O.add s) chunk)
      ∙ l.add_assoc s _ _ ∙ ap (O.add s) (sym (dot-chunk l xs (map e fs) i n same-map)) ∙ k

  -- with no index left
  pub mixed-end : (i : ℕ) (s r : A) → length xs ≤ i → MakesWithRest O e xs fs r i s → s ≡ r
  mixed-end i s r h k = dot-end l xs (map e fs) i s r h k

  -- with the rest added at once
  pub mixed-rest : (i : ℕ) (s t r : A) → t ≡ O.add s (dot O (from i xs) (map e (from i fs))) → MakesWithRest O e xs fs r i s → t ≡ r
  mixed-rest i s t r h k = h ∙ ap (O.add s) (dot-from i) ∙ k
