-- Lists of coefficients, each times a value, added up coefficient by coefficient.
use Rattle.std.specs.Prelude.{◌≡◌, ◌<◌, ◌≤◌, ◌+◌, ℕ, min, nat_lt, if◌then◌else◌, List, [], ◌∷◌, ◌++◌, length, get_or, map, replicate}
use Rattle.std.proofs.Common.{arith, sym, ap, ap₂, ◌∙◌, inl, inr}
use Rattle.std.proofs.Math.ListN.{set}
use Rattle.std.proofs.Math.Nat.{le_refl}
use Rattle.std.proofs.lemmas.Bool.{cases_lt}
use Rattle.std.proofs.lemmas.Bool.Decides.{nat_tests}
use Rattle.std.proofs.lemmas.List.{map-append, length-replicate, get_or-replicate, get_or_past}
use Rattle.p3_theory.specs.Rings.Ring.{Ops, RingLaws, ring_of}
use Rattle.p3_theory.specs.Rings.Operators.{sum_list}
use Rattle.p3_theory.specs.Rings.DotProduct.{sum_list-append}
use Rattle.p3_theory.specs.Rings.Basics.{zero-mul}
use Rattle.p3_theory.specs.Polynomials.Polynomial.{tabulate, at}
use Rattle.p3_theory.specs.Polynomials.Coefficients.{length-tabulate}
use Rattle.p3_theory.specs.Lists.ByIndex.{to-tabulate, get-tabulate, read_at}
use Rattle.p3_theory.specs.Lists.TabulatedEntries.{UpdatedBelow, updated-more, updated-all}

module _ {A : Type 0} (O : Ops A) (d : ℕ) where
  -- coefficient i times the scale below d, and zero from d on
  abbrev pub coefficient_product : List A → A → ℕ → A
  coefficient_product coeffs scale i = (if nat_lt i d then O.mul (at O coeffs i) scale else O.zero)

  -- eight entries, each with its product added
  abbrev pub add_coefficient_products : List A → List A → A → List A
  add_coefficient_products acc coeffs scale = tabulate 8 (λ i. O.add (at O acc i) (coefficient_product coeffs scale i))

  -- entry i of eight is the sum of coefficient i times the scale over the pairs below d, and zero from d on
  abbrev pub coefficient_sums : List (List A × A) → List A
  coefficient_sums pairs = tabulate 8 (λ i. if nat_lt i d then sum_list O (map (λ pair. O.mul (at O pair.0 i) pair.1) pairs) else O.zero)

  product-below : (coeffs : List A) (scale : A) (i : ℕ) → i < d → coefficient_product coeffs scale i ≡ O.mul (at O coeffs i) scale
  product-below coeffs scale i h = grind (arith, nat_tests)

  product-above : (coeffs : List A) (scale : A) (i : ℕ) → d ≤ i → coefficient_product coeffs scale i ≡ O.zero
  product-above coeffs scale i h = grind (arith, nat_tests)

  -- entry i after one list of coefficients with its scale
  abbrev pub entry_after : List A → List A → A → ℕ → A
  entry_after acc coeffs scale i = O.add (at O acc i) (coefficient_product coeffs scale i)

  -- entry i of the sums
  abbrev pub sum_entry : List (List A × A) → ℕ → A
  sum_entry pairs i = (if nat_lt i d then sum_list O (map (λ pair. O.mul (at O pair.0 i) pair.1) pairs) else O.zero)

  sum-below : (pairs : List (List A × A)) (i : ℕ) → i < d → sum_entry pairs i ≡ sum_list O (map (λ pair. O.mul (at O pair.0 i) pair.1) pairs)
  sum-below pairs i h = grind (arith, nat_tests)

  sum-above : (pairs : List (List A × A)) (i : ℕ) → d ≤ i → sum_entry pairs i ≡ O.zero
  sum-above pairs i h = grind (arith, nat_tests)

module _ {A : Type 0} {O : Ops A} (l : RingLaws O) (d : ℕ) where
  -- a list has nothing to add past its end, nor at an index from d on
  product-past : (coeffs : List A) (scale : A) (i : ℕ) → min d (length coeffs) ≤ i → coefficient_product O d coeffs scale i ≡ O.zero
  product-past coeffs scale i h = elim (cases_lt i d) [
    | inl below ↦
        let past : length coeffs ≤ i = omega (arith, h, below) in
        product-below O d coeffs scale i below ∙ ap (λ x. O.mul x scale) (get_or_past coeffs i O.zero past) ∙ zero-mul (ring_of l) scale
    | inr above ↦ product-above O d coeffs scale i above
  ]

  -- a loop that adds the products one by one, from entry 0 on
  pub product-added : (acc now coeffs : List A) (scale : A) (i : ℕ) (x old product new : A) → i < min d (length coeffs) → i < length now
      → UpdatedBelow (entry_after O d acc coeffs scale) O.zero acc now i → x ≡ get_or coeffs i x → old ≡ get_or now i old → product ≡ O.mul x scale → new ≡ O.add old product
      → UpdatedBelow (entry_after O d acc coeffs scale) O.zero acc (set now i new) (i + 1)
  product-added acc now coeffs scale i x old product new h inside updated is_entry is_old is_product is_new =
      let below : i < d = omega (arith, h) in
      let has : i < length coeffs = omega (arith, h) in
      updated-more (entry_after O d acc coeffs scale) O.zero acc now i new inside updated
      (is_new ∙ ap₂ O.add (sym (read_at now i old O.zero inside is_old) ∙ updated.1 i (le_refl i))
      (is_product ∙ ap (λ y. O.mul y scale) (sym (read_at coeffs i x O.zero has is_entry)) ∙ sym (product-below O d coeffs scale i below)))

  pub products-added : (acc now coeffs : List A) (scale : A) (i : ℕ) → min d (length coeffs) ≤ i → length now ≡ 8
      → UpdatedBelow (entry_after O d acc coeffs scale) O.zero acc now i → now ≡ add_coefficient_products O d acc coeffs scale
  products-added acc now coeffs scale i h whole updated =
      updated-all (entry_after O d acc coeffs scale) O.zero acc now 8 i whole updated
      (λ k w. sym (ap (O.add (at O acc k)) (product-past coeffs scale k (omega (arith, h, w))) ∙ l.add_zero _))

  -- no pair
  pub coefficient_sums-none : (acc : List A) (z : A) → z ≡ O.zero → acc ≡ replicate 8 z → acc ≡ coefficient_sums O d []
  coefficient_sums-none acc z e h =
      to-tabulate O.zero 8 (sum_entry O d []) acc (ap length h ∙ length-replicate 8 z)
      (λ k w. ap (λ xs. get_or xs k O.zero) h ∙ get_or-replicate 8 k z O.zero w ∙ e ∙ sym (none k))
    where
      none : (k : ℕ) → sum_entry O d [] k ≡ O.zero
      none k = elim (cases_lt k d) [ inl below ↦ sum-below O d [] k below | inr above ↦ sum-above O d [] k above ]

  -- one pair more
  pub coefficient_sums-more : (before after : List A) (pairs : List (List A × A)) (coeffs : List A) (scale : A) → before ≡ coefficient_sums O d pairs
      → after ≡ add_coefficient_products O d before coeffs scale → after ≡ coefficient_sums O d (pairs ++ ((coeffs, scale) ∷ []))
  coefficient_sums-more before after pairs coeffs scale h k =
      to-tabulate O.zero 8 (sum_entry O d (pairs ++ ((coeffs, scale) ∷ []))) after (ap length k ∙ length-tabulate 8 (entry_after O d before coeffs scale))
      (λ i w. ap (λ xs. at O xs i) k ∙ get-tabulate 8 (entry_after O d before coeffs scale) i O.zero w
      ∙ ap (λ x. O.add x (coefficient_product O d coeffs scale i)) (ap (λ xs. at O xs i) h ∙ get-tabulate 8 (sum_entry O d pairs) i O.zero w) ∙ one i)
    where
      gain : ℕ → List A × A → A
      gain i pair = O.mul (at O pair.0 i) pair.1

      one : (i : ℕ) → O.add (sum_entry O d pairs i) (coefficient_product O d coeffs scale i) ≡ sum_entry O d (pairs ++ ((coeffs, scale) ∷ [])) i
      one i = elim (cases_lt i d) [
        | inl below ↦
            ap₂ O.add (sum-below O d pairs i below) (product-below O d coeffs scale i below)
            ∙ sym (sum-below O d (pairs ++ ((coeffs, scale) ∷ [])) i below ∙ ap (sum_list O) (map-append (gain i) pairs ((coeffs, scale) ∷ []))
            ∙ sum_list-append l (map (gain i) pairs) _ ∙ ap (O.add (sum_list O (map (gain i) pairs))) (l.add_zero (gain i (coeffs, scale))))
        | inr above ↦
            ap₂ O.add (sum-above O d pairs i above) (product-above O d coeffs scale i above) ∙ l.add_zero O.zero
            ∙ sym (sum-above O d (pairs ++ ((coeffs, scale) ∷ [])) i above)
      ]
