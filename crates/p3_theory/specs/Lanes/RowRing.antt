-- The ring of lists of a fixed length, index by index.
use Rattle.std.specs.Prelude.{◌≡◌, ◌<◌, ◌≤◌, ℕ, zero, suc, List, ◌∷◌, get_or, replicate, refl}
use Rattle.std.proofs.Common.{ap, ap₂, ◌∙◌, sym, arith}
use Rattle.std.proofs.lemmas.List.{get_or_default}
use Rattle.p3_theory.specs.Rings.Ring.{Ops, RingLaws, Hom, Invertible, subtract}
use Rattle.p3_theory.specs.Rings.Multiples.{of_nat, two}
use Rattle.p3_theory.specs.Rings.Homomorphism.{map-of_nat}
use Rattle.p3_theory.specs.Polynomials.Polynomial.{tabulate}
use Rattle.p3_theory.specs.Polynomials.Coefficients.{length-tabulate}
use Rattle.p3_theory.specs.Lists.ByIndex.{get-tabulate, to-tabulate}
use Rattle.p3_theory.specs.Lanes.Lanes.{KeepsLanes}
use Rattle.p3_theory.specs.Lanes.Rows.{Rows}
use Rattle.p3_theory.specs.Lanes.LaneLaws.{laws_by_lanes}

replicated : {A : Type 0} (m : ℕ) (v : A) → replicate m v ≡ tabulate m (λ _. v)
replicated zero v = refl
replicated (suc m) v = ap (λ l. v ∷ l) (replicated m v)

pub tabulated : {A : Type 0} (m : ℕ) (v : A) → tabulate m (λ _. v) ≡ replicate m v
tabulated m v = sym (replicated m v)

module _ {V A : Type 0} {n : ℕ} (R : Rows V A n) (O : Ops A) where
  -- the item at an index
  abbrev pub item : ℕ → V → A
  item k x = get_or (R.items x) k O.zero

  -- the row whose item k is s k
  abbrev pub row : (ℕ → A) → V
  row s = R.row_of (tabulate n s) (length-tabulate n s)

  -- zero, one, sums, negations and products index by index
  abbrev pub row_ops : Ops V
  row_ops = record {
    zero = row (λ _. O.zero);
    one = row (λ _. O.one);
    add = λ x y. row (λ k. O.add (item k x) (item k y));
    neg = λ x. row (λ k. O.neg (item k x));
    mul = λ x y. row (λ k. O.mul (item k x) (item k y));
  }

  pub item-row : (s : ℕ → A) (k : ℕ) → k < n → item k (row s) ≡ s k
  item-row s k h = ap (λ l. get_or l k O.zero) (R.items_of (tabulate n s) (length-tabulate n s)) ∙ get-tabulate n s k O.zero h

  pub is_row : (x : V) (s : ℕ → A) → ((k : ℕ) → k < n → item k x ≡ s k) → x ≡ row s
  is_row x s h = R.same x (row s) (to-tabulate O.zero n s (R.items x) (R.sized x) h ∙ sym (R.items_of (tabulate n s) (length-tabulate n s)))

  pub rows_apart : (x y : V) → ((k : ℕ) → k < n → item k x ≡ item k y) → x ≡ y
  rows_apart x y h = is_row x (λ k. item k y) h ∙ sym (is_row y (λ k. item k y) (λ k _. refl))

  pub item_keeps : (k : ℕ) → k < n → Hom row_ops O (item k)
  item_keeps k h = record {
    zero = item-row (λ _. O.zero) k h;
    one = item-row (λ _. O.one) k h;
    add = λ x y. item-row (λ k. O.add (item k x) (item k y)) k h;
    neg = λ x. item-row (λ k. O.neg (item k x)) k h;
    mul = λ x y. item-row (λ k. O.mul (item k x) (item k y)) k h;
  }

  pub row_laws : RingLaws O → RingLaws row_ops
  row_laws l = laws_by_lanes row_ops O n item item_keeps rows_apart l

  -- the items as lanes
  pub items_keep : KeepsLanes row_ops O R.items n
  items_keep k h = item_keeps k h

  -- what is written index by index
  pub written_sum : (x y r : V) → ((d : A) (k : ℕ) → k < n → get_or (R.items r) k d ≡ O.add (get_or (R.items x) k d) (get_or (R.items y) k d)) → r ≡ row_ops.add x y
  written_sum x y r h = is_row r _ (h O.zero)

  pub written_product : (x y r : V) → ((d : A) (k : ℕ) → k < n → get_or (R.items r) k d ≡ O.mul (get_or (R.items x) k d) (get_or (R.items y) k d)) → r ≡ row_ops.mul x y
  written_product x y r h = is_row r _ (h O.zero)

  pub written_negation : (x r : V) → ((d : A) (k : ℕ) → k < n → get_or (R.items r) k d ≡ O.neg (get_or (R.items x) k d)) → r ≡ row_ops.neg x
  written_negation x r h = is_row r _ (h O.zero)

  pub written_difference : (x y r : V) → ((d : A) (k : ℕ) → k < n → get_or (R.items r) k d ≡ subtract O (get_or (R.items x) k d) (get_or (R.items y) k d)) → r ≡ subtract row_ops x y
  written_difference x y r h =
      is_row r (λ k. O.add (item k x) (item k (row_ops.neg y)))
      (λ k w. h O.zero k w ∙ ap (O.add (item k x)) (sym (item-row (λ k. O.neg (item k y)) k w)))

  -- one value at every index
  abbrev pub constant : A → V
  constant v = row (λ _. v)

  pub item-constant : (v : A) (k : ℕ) → k < n → item k (constant v) ≡ v
  item-constant v k h = item-row (λ _. v) k h

  pub items-constant : (v : A) → R.items (constant v) ≡ replicate n v
  items-constant v = R.items_of (tabulate n (λ _. v)) (length-tabulate n (λ _. v)) ∙ tabulated n v

  pub constants_keep : Hom O row_ops constant
  constants_keep = record {
    zero = refl;
    one = refl;
    add = λ a b. is_row (constant (O.add a b)) _ (λ k h. item-constant (O.add a b) k h ∙ ap₂ O.add (sym (item-constant a k h)) (sym (item-constant b k h)));
    neg = λ a. is_row (constant (O.neg a)) _ (λ k h. item-constant (O.neg a) k h ∙ ap O.neg (sym (item-constant a k h)));
    mul = λ a b. is_row (constant (O.mul a b)) _ (λ k h. item-constant (O.mul a b) k h ∙ ap₂ O.mul (sym (item-constant a k h)) (sym (item-constant b k h)));
  }

  pub filled : (x : V) (v w : A) → R.items x ≡ replicate n v → v ≡ w → x ≡ constant w
  filled x v w e h =
      R.same x (constant w) (e ∙ replicated n v ∙ ap (λ u. tabulate n (λ _. u)) h ∙ sym (R.items_of (tabulate n (λ _. w)) (length-tabulate n (λ _. w))))

  pub written_constant : (x : V) (v : A) → R.items x ≡ replicate n v → x ≡ constant v
  written_constant x v e = filled x v v e refl

  pub constant-of_nat : (m : ℕ) → constant (of_nat O m) ≡ of_nat row_ops m
  constant-of_nat m = sym (is_row (of_nat row_ops m) (λ _. of_nat O m) (λ k h. map-of_nat (item_keeps k h) m))

  pub row_characteristic : (m : ℕ) → of_nat O m ≡ O.zero → of_nat row_ops m ≡ row_ops.zero
  row_characteristic m e = sym (constant-of_nat m) ∙ ap (λ v. row (λ _. v)) e

  pub written_half : (x r : V) → ((d : A) (k : ℕ) → k < n → O.add (get_or (R.items r) k d) (get_or (R.items r) k d) ≡ get_or (R.items x) k d) → row_ops.add r r ≡ x
  written_half x r h = sym (is_row x (λ k. O.add (item k r) (item k r)) (λ k w. sym (h O.zero k w)))

  -- where two has an inverse, it has one at each index
  pub two_at_item : Invertible row_ops (two row_ops) → (k : ℕ) → k < n → Invertible O (two O)
  two_at_item (y, e) k h =
      let H = item_keeps k h in
      (item k y, ap (λ v. O.mul v (item k y)) (sym (H.add row_ops.one row_ops.one ∙ ap₂ O.add H.one H.one)) ∙ sym (H.mul (two row_ops) y) ∙ ap (item k) e ∙ H.one)

  pub written_halves : (x r : V) (xs v : List A) (i : ℕ) → n ≤ i → R.items r ≡ v → xs ≡ R.items x
      → ((d : A) (k : ℕ) → k < i → O.add (get_or v k d) (get_or v k d) ≡ get_or xs k d) → row_ops.add r r ≡ x
  written_halves x r xs v i h er ex w =
      written_half x r (λ d k b. ap (λ l. O.add (get_or l k d) (get_or l k d)) er ∙ w d k (omega (arith, h, b)) ∙ ap (λ l. get_or l k d) ex)

  -- what is written index by index of a row and one value
  pub written_mixed_sum : (x : V) (f : A) (r : V) → ((d : A) (k : ℕ) → k < n → get_or (R.items r) k d ≡ O.add (get_or (R.items x) k d) f) → r ≡ row_ops.add x (constant f)
  written_mixed_sum x f r h = is_row r _ (λ k w. h O.zero k w ∙ ap (O.add (item k x)) (sym (item-constant f k w)))

  pub written_mixed_difference : (x : V) (f : A) (r : V) → ((d : A) (k : ℕ) → k < n → get_or (R.items r) k d ≡ subtract O (get_or (R.items x) k d) f)
      → r ≡ subtract row_ops x (constant f)
  written_mixed_difference x f r h =
      is_row r (λ k. O.add (item k x) (item k (row_ops.neg (constant f))))
      (λ k w. h O.zero k w ∙ ap (O.add (item k x)) (ap O.neg (sym (item-constant f k w)) ∙ sym (item-row (λ k. O.neg (item k (constant f))) k w)))

  pub written_mixed_product : (x : V) (f : A) (r : V) → ((d : A) (k : ℕ) → k < n → get_or (R.items r) k d ≡ O.mul (get_or (R.items x) k d) f) → r ≡ row_ops.mul x (constant f)
  written_mixed_product x f r h = is_row r _ (λ k w. h O.zero k w ∙ ap (O.mul (item k x)) (sym (item-constant f k w)))

  -- a row that has an inverse has one at each index
  pub unit_at_item : (y : V) → Invertible row_ops y → (d : A) (k : ℕ) → k < n → Invertible O (get_or (R.items y) k d)
  unit_at_item y (z, e) d k h =
      let H = item_keeps k h in
      (item k z, ap (λ v. O.mul v (item k z)) (get_or_default (R.items y) k d O.zero (omega (arith, h, R.sized y))) ∙ sym (H.mul y z) ∙ ap (item k) e ∙ H.one)

  pub written_quotient : (x y r : V) → ((d : A) (k : ℕ) → k < n → O.mul (get_or (R.items r) k d) (get_or (R.items y) k d) ≡ get_or (R.items x) k d) → row_ops.mul r y ≡ x
  written_quotient x y r h = sym (is_row x (λ k. O.mul (item k r) (item k y)) (λ k w. sym (h O.zero k w)))

  pub written_mixed_quotient : (x : V) (f : A) (r : V) → ((d : A) (k : ℕ) → k < n → O.mul (get_or (R.items r) k d) f ≡ get_or (R.items x) k d)
      → row_ops.mul r (constant f) ≡ x
  written_mixed_quotient x f r h = sym (is_row x (λ k. O.mul (item k r) (item k (constant f))) (λ k w. sym (h O.zero k w) ∙ ap (O.mul (item k r)) (sym (item-constant f k w))))
