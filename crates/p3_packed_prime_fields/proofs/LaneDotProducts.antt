-- Dot products along maps, and lane by lane.
use Rattle.std.specs.Prelude.{◌≡◌, ◌<◌, ◌+◌, ◌-◌, ℕ, List, [], ◌∷◌, get_or, map, length, take, drop, refl}
use Rattle.std.proofs.Common.{ap, ap₂, sym, ◌∙◌, arith}
use Rattle.p3_theory.specs.Rings.Ring.{Ops, Hom, RingLaws}
use Rattle.p3_theory.specs.Rings.DotProduct.{dot, dot-chunk}
use Rattle.p3_theory.specs.Lanes.Rows.{Rows}
use Rattle.p3_theory.specs.Lanes.RowRing.{item, row_ops, item_keeps, rows_apart}
use Rattle.p3_packed_prime_fields.specs.Columns.{column}

-- a map that keeps the operations takes a dot product to that of the images
map-dot : {V A : Type 0} {P : Ops V} {O : Ops A} {h : V → A} → Hom P O h → (us vs : List V) → h (dot P us vs) ≡ dot O (map h us) (map h vs)
map-dot H [] vs = H.zero
map-dot H (x ∷ us) [] = H.zero
map-dot {O = O} H (x ∷ us) (y ∷ vs) = H.add _ _ ∙ ap₂ O.add (H.mul x y) (map-dot H us vs)

-- a row whose items are, index by index, the dot products of the items there is the dot product
pub dot_by_items : {V A : Type 0} {n : ℕ} (R : Rows V A n) (O : Ops A) (us vs : List V) (x : V) (xs : List A) → R.items x ≡ xs
    → ((k : ℕ) → k < n → get_or xs k O.zero ≡ dot O (map (item R O k) us) (map (item R O k) vs)) → x ≡ dot (row_ops R O) us vs
dot_by_items R O us vs x xs e h =
    rows_apart R O x (dot (row_ops R O) us vs) (λ k w. ap (λ l. get_or l k O.zero) e ∙ h k w ∙ sym (map-dot (item_keeps R O k w) us vs))

-- the values at an index of rows are the items there
column-items : {V A : Type 0} {n : ℕ} (R : Rows V A n) (O : Ops A) (k : ℕ) (us : List V) → column k O.zero (map R.items us) ≡ map (item R O k) us
column-items R O k [] = refl
column-items R O k (x ∷ us) = ap (λ l. item R O k x ∷ l) (column-items R O k us)

-- and so where the dot products are those of the values there
pub dot_by_columns : {V A : Type 0} {n : ℕ} (R : Rows V A n) (O : Ops A) (us vs : List V) (x : V) (xs : List A) → R.items x ≡ xs
    → ((k : ℕ) → k < n → get_or xs k O.zero ≡ dot O (column k O.zero (map R.items us)) (column k O.zero (map R.items vs))) → x ≡ dot (row_ops R O) us vs
dot_by_columns R O us vs x xs e h = dot_by_items R O us vs x xs e (λ k w. h k w ∙ ap₂ (dot O) (column-items R O k us) (column-items R O k vs))

-- a sum so far and the rest of a dot product, after a block of n positions more
pub dot-block : {A : Type 0} {O : Ops A} → RingLaws O → (xs ys : List A) → length xs ≡ length ys → (i n : ℕ) (s b t r : A)
    → b ≡ dot O (take (i + n - i) (drop i xs)) (take (i + n - i) (drop i ys)) → t ≡ O.add s b
    → O.add s (dot O (drop i xs) (drop i ys)) ≡ r → O.add t (dot O (drop (i + n) xs) (drop (i + n) ys)) ≡ r
dot-block {O = O} l xs ys h i n s b t r e m p =
    let width : i + n - i ≡ n = omega arith in
    ap (λ z. O.add z (dot O (drop (i + n) xs) (drop (i + n) ys))) (m ∙ ap (O.add s) (e ∙ ap (λ j. dot O (take j (drop i xs)) (take j (drop i ys))) width))
    ∙ l.add_assoc s _ _ ∙ ap (O.add s) (sym (dot-chunk l xs ys i n h)) ∙ p
