-- The products of differences that Lagrange's formula divides by.
use Rattle.std.proofs.Common.{◌≡◌, ◌≢◌, ◌<◌, ◌≤◌, ◌+◌, ◌-◌, ℕ, zero, suc, List, [], ◌∷◌, ◌++◌, length, get_or, take, drop, refl, sym, ap, ap₂, subst, ◌∙◌, inl, inr, add-one, arith}
use Rattle.std.proofs.lemmas.Bool.{cases_eq}
use Rattle.std.proofs.lemmas.List.{get_or_append_left, get_or-append_right}
use Rattle.p3_theory.specs.Rings.Ring.{Ops, Ring, Invertible}
use Rattle.p3_theory.specs.Rings.Basics.{one-mul}
use Rattle.p3_theory.specs.Rings.Operators.{product_list}
use Rattle.p3_theory.specs.Rings.ProductLists.{invertible-mul, product-invertible}
use Rattle.example_shares.specs.Secrets.{AreApart}
use Rattle.example_shares.specs.Lagrange.{differences, reduced, AreWeights}

-- the items of a list but for that at index i
abbrev pub others : {A : Type 0} → List A → ℕ → List A
others [] i = []
others (x ∷ xs) zero = xs
others (x ∷ xs) (suc i) = x ∷ others xs i

-- at each index stands the product of the differences of the other points and the point there
pub record AreDenominators {A : Type 0} (O : Ops A) (xs ds : List A) : Type 0 where
  pub sized : length ds ≡ length xs
  pub products : (d : A) (i : ℕ) → i < length xs → get_or ds i d ≡ differences O (get_or xs i d) (others xs i)

module _ {A : Type 0} (R : Ring A) where
  open R use {zero as 𝟎, one as 𝟏, add as ◌⊕◌, mul as ◌⊗◌, neg}

  infixl 60 ◌⊕◌
  infixl 70 ◌⊗◌
  abbrev D : A → List A → A
  D = differences R.ops

  abbrev Unit : A → Type 0
  Unit = Invertible R.ops

  abbrev less : A → A → A
  less x y = x ⊕ neg y

  -- the differences of the points before an index, and those of the points after it
  pub two_parts : (a : A) (xs : List A) (i : ℕ) → i < length xs → D a (take i xs) ⊗ D a (drop (suc i) xs) ≡ D a (others xs i)
  two_parts a [] i h = absurd (omega (arith, h))
  two_parts a (x ∷ xs) zero h = one-mul R _
  two_parts a (x ∷ xs) (suc i) h =
      R.mul_assoc (less x a) _ _ ∙ ap (λ z. less x a ⊗ z) (two_parts a xs i (omega (arith, h)))

  -- the factors of a unit are units
  pub left_factor : (x y : A) → Unit (x ⊗ y) → Unit x
  left_factor x y u = (y ⊗ u.0, sym (R.mul_assoc x y u.0) ∙ u.1)

  pub right_factor : (x y : A) → Unit (x ⊗ y) → Unit y
  right_factor x y u = left_factor y x (subst Unit (R.mul_comm x y) u)

  pub each_factor : (ds : List A) → Unit (product_list R.ops ds) → (d : A) (i : ℕ) → i < length ds → Unit (get_or ds i d)
  each_factor [] u d i h = absurd (omega (arith, h))
  each_factor (x ∷ ds) u d zero h = left_factor x (product_list R.ops ds) u
  each_factor (x ∷ ds) u d (suc i) h = each_factor ds (right_factor x (product_list R.ops ds) u) d i (omega (arith, h))

  -- the same of the differences of points and a
  any_difference : (a d : A) (xs : List A) (j : ℕ) → j < length xs → Unit (D a xs) → Unit (less (get_or xs j d) a)
  any_difference a d [] j h u = absurd (omega (arith, h))
  any_difference a d (x ∷ xs) zero h u = left_factor (less x a) (D a xs) u
  any_difference a d (x ∷ xs) (suc j) h u = any_difference a d xs j (omega (arith, h)) (right_factor (less x a) (D a xs) u)

  all_differences : (a d : A) (xs : List A) → ((j : ℕ) → j < length xs → Unit (less (get_or xs j d) a)) → Unit (D a xs)
  all_differences a d [] each = (𝟏, R.mul_one 𝟏)
  all_differences a d (x ∷ xs) each =
      invertible-mul R.laws (less x a) (D a xs) (each 0 (omega arith)) (all_differences a d xs (λ j h. each (suc j) (omega (arith, h))))

  other_difference : (a d : A) (xs : List A) (i j : ℕ) → i ≢ j → j < length xs → Unit (D a (others xs i)) → Unit (less (get_or xs j d) a)
  other_difference a d [] i j n h u = absurd (omega (arith, h))
  other_difference a d (x ∷ xs) zero zero n h u = absurd (n refl)
  other_difference a d (x ∷ xs) zero (suc j) n h u = any_difference a d xs j (omega (arith, h)) u
  other_difference a d (x ∷ xs) (suc i) zero n h u = left_factor (less x a) (D a (others xs i)) u
  other_difference a d (x ∷ xs) (suc i) (suc j) n h u =
      other_difference a d xs i j (λ e. n (ap suc e)) (omega (arith, h)) (right_factor (less x a) (D a (others xs i)) u)

  other_differences : (a d : A) (xs : List A) (i : ℕ) → ((j : ℕ) → i ≢ j → j < length xs → Unit (less (get_or xs j d) a)) → Unit (D a (others xs i))
  other_differences a d [] i each = (𝟏, R.mul_one 𝟏)
  other_differences a d (x ∷ xs) zero each =
      all_differences a d xs (λ j h. let apart : 0 ≢ suc j = omega arith in each (suc j) apart (omega (arith, h)))
  other_differences a d (x ∷ xs) (suc i) each =
      let first : suc i ≢ 0 = omega arith in
      invertible-mul R.laws (less x a) (D a (others xs i)) (each 0 first (omega arith))
      (other_differences a d xs i (λ j n h. let apart : suc i ≢ suc j = λ e. n (omega (arith, e)) in each (suc j) apart (omega (arith, h))))

  -- the product of all denominators has an inverse exactly where the points are apart
  pub apart : (xs ds : List A) → AreDenominators R.ops xs ds → Unit (product_list R.ops ds) → AreApart R.ops xs
  apart xs ds are u d j i hj hi n =
      let at : i < length ds = omega (arith, hi, are.sized) in
      let other : i ≢ j = λ e. n (sym e) in
      other_difference (get_or xs i d) d xs i j other hj (subst Unit (are.products d i hi) (each_factor ds u d i at))

  pub invertible : (xs ds : List A) → AreDenominators R.ops xs ds → AreApart R.ops xs → Unit (product_list R.ops ds)
  invertible xs ds are known = product-invertible R.laws ds (λ d i h.
      let at : i < length xs = omega (arith, h, are.sized) in
      subst Unit (sym (are.products d i at))
      (other_differences (get_or xs i d) d xs i (λ j n hj. known d j i hj at (λ e. n (sym e)))))

  length-reduced : (a : A) (xs ws : List A) → length ws ≡ length xs → length (reduced R.ops a xs ws) ≡ length xs
  length-reduced a [] ws h = refl
  length-reduced a (x ∷ xs) [] h = absurd (omega (arith, h))
  length-reduced a (x ∷ xs) (w ∷ ws) h = ap suc (length-reduced a xs ws (omega (arith, h)))

  reduced-at : (a d : A) (xs ws : List A) (i : ℕ) → length ws ≡ length xs → i < length xs
      → get_or (reduced R.ops a xs ws) i d ≡ get_or ws i d ⊗ less a (get_or xs i d)
  reduced-at a d [] ws i l h = absurd (omega (arith, h))
  reduced-at a d (x ∷ xs) [] i l h = absurd (omega (arith, l))
  reduced-at a d (x ∷ xs) (w ∷ ws) zero l h = refl
  reduced-at a d (x ∷ xs) (w ∷ ws) (suc i) l h = reduced-at a d xs ws i (omega (arith, l)) (omega (arith, h))

  weights : (xs ws : List A) → length ws ≡ length xs
      → ((d : A) (i : ℕ) → i < length xs → get_or ws i d ⊗ D (get_or xs i d) (others xs i) ≡ 𝟏) → AreWeights R.ops xs ws
  weights [] [] l each = refl
  weights [] (w ∷ ws) l each = absurd (omega (arith, l))
  weights (x ∷ xs) [] l each = absurd (omega (arith, l))
  weights (x ∷ xs) (w ∷ ws) l each =
      let same : length ws ≡ length xs = omega (arith, l) in (
        each x 0 (omega arith),
        weights xs (reduced R.ops x xs ws) (length-reduced x xs ws same) (λ d i h.
            ap (λ z. z ⊗ D (get_or xs i d) (others xs i)) (reduced-at x d xs ws i same h)
            ∙ R.mul_assoc _ _ _ ∙ each d (suc i) (omega (arith, h))),
      )

  -- inverses of the denominators are weights
  pub inverses_are_weights : (xs ds ws : List A) → AreDenominators R.ops xs ds → length ws ≡ length ds
      → ((d : A) (i : ℕ) → i < length ds → get_or ds i d ⊗ get_or ws i d ≡ 𝟏) → AreWeights R.ops xs ws
  inverses_are_weights xs ds ws are l each =
      weights xs ws (l ∙ are.sized) (λ d i h.
      let at : i < length ds = omega (arith, h, are.sized) in
      R.mul_comm _ _ ∙ ap (λ z. z ⊗ get_or ws i d) (sym (are.products d i h)) ∙ each d i at)

  -- one denominator more
  pub denominators_more : (xs old new : List A) (i : ℕ) (x before after z : A) → i < length xs → length old ≡ i
      → (d : A) → x ≡ get_or xs i d → before ≡ D x (take i xs) → after ≡ D x (drop (i + 1) xs) → z ≡ before ⊗ after → new ≡ old ++ (z ∷ [])
      → ((k : ℕ) → k < i → get_or old k d ≡ D (get_or xs k d) (others xs k)) → (k : ℕ) → k < i + 1 → get_or new k d ≡ D (get_or xs k d) (others xs k)
  denominators_more xs old new i x before after z h l d ex eb ea ez en held k b =
      ap (λ m. get_or m k d) en
      ∙ elim (cases_eq k i) [
        | inl same ↦
            let last : length old ≤ k = omega (arith, l, same) in
            let first : k - length old ≡ 0 = omega (arith, l, same) in
            get_or-append_right old (z ∷ []) (length old) k d refl last ∙ ap (λ j. get_or (z ∷ []) j d) first
            ∙ ez ∙ ap₂ (λ p q. p ⊗ q) eb (ea ∙ ap (λ j. D x (drop j xs)) (add-one i)) ∙ two_parts x xs i h
            ∙ ap (λ y. D y (others xs i)) ex ∙ ap (λ j. D (get_or xs j d) (others xs j)) (sym same)
        | inr other ↦
            let early : k < length old = omega (arith, b, other, l) in
            let below : k < i = omega (arith, b, other) in
            get_or_append_left old (z ∷ []) d k early ∙ held k below
      ]
