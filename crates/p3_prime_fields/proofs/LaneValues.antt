-- The value whose word a lane has, from those of the words that it was computed of.
use Rattle.std.specs.Prelude.{◌≡◌, ◌<◌, ◌+◌, ◌-◌, ◌*◌, ◌%◌, ◌≤◌, ◌^◌, ℕ, List, [], true, length, get_or}
use Rattle.std.proofs.Common.{ap, ap₂, arith, inl, inr, subst, ◌∙◌, sym}
use Rattle.std.proofs.Math.Nat.{mod-eq_of_lt}
use Rattle.std.proofs.lemmas.Bool.{cases_lt}
use Rattle.std.proofs.lemmas.List.{get_or_default}
use Rattle.p3_theory.specs.Rings.DotProduct.{dot}
use Rattle.p3_theory.specs.ResidueRings.SumsOfProducts.{sum_of_products, is_dot}
use Rattle.p3_residues.specs.Montgomery.{sum_of_words, difference_of_words, product_reduced, sum_reduced}
use Rattle.p3_kernels.specs.Words.{RowsAreBelow}
use Rattle.p3_prime_fields.specs.Elements.{canon, is, of, ops}
use Rattle.p3_prime_fields.specs.declared.fp.Fp.{Fp}
use Rattle.p3_prime_fields.specs.declared.form.Form as forms
use Rattle.p3_prime_fields.specs.declared.form.Word as words

-- a product of residues counts once
once : (m : ℕ) → m ≡ m * 1
once m = omega arith

-- once the scale is one, where a word is its own residue
pub own_scale : {W T : Type 0} (form : forms.Ghosts W T) → form.PLAIN ≡ true → (1 * form.scale) % form.ORDER ≡ 1
own_scale form h = ap (λ k. (1 * k) % form.ORDER) (form.plain h) ∙ mod-eq_of_lt form.is_form.above_one

module _ {W T : Type 0} (form : forms.Ghosts W T) {bounds : words.Ghosts T} where
  abbrev pub number : Fp W T form bounds → ℕ
  number x = form.number x.word

  -- the canonical value is so many times the word
  by_number : (x : Fp W T form bounds) → canon form x ≡ (number x * form.scale) % form.ORDER
  by_number x = form.scaled x.word x.below

  pub value_of_sum : (x y r : Fp W T form bounds) → number r ≡ (number x + number y) % form.ORDER → canon form r ≡ (canon form x + canon form y) % form.ORDER
  value_of_sum x y r e =
      by_number r ∙ sum_of_words form.ORDER (2 ^ 32) form.scale (number r) (number x) (number y) e
      ∙ sym (ap₂ (λ a b. (a + b) % form.ORDER) (by_number x) (by_number y))

  pub value_of_difference : (x y r : Fp W T form bounds) → number r ≡ (number x + (form.ORDER - number y)) % form.ORDER
      → canon form r ≡ (canon form x + (form.ORDER - canon form y)) % form.ORDER
  value_of_difference x y r e =
      by_number r ∙ difference_of_words form.ORDER (2 ^ 32) form.scale (number r) (number x) (number y) y.below e
      ∙ sym (ap₂ (λ a b. (a + (form.ORDER - b)) % form.ORDER) (by_number x) (by_number y))

  -- where the scale is undone by s
  module _ (s : ℕ) (undone : (s * form.scale) % form.ORDER ≡ 1) where
    pub value_of_product : (x y r : Fp W T form bounds) → (number r * s) % form.ORDER ≡ (number x * number y) % form.ORDER
        → canon form r ≡ (canon form x * canon form y) % form.ORDER
    value_of_product x y r e =
        by_number r ∙ product_reduced form.ORDER s form.scale undone (number r) (number x) (number y) r.below e
        ∙ sym (ap₂ (λ a b. (a * b) % form.ORDER) (by_number x) (by_number y))

    pub value_of_products : (xs ys : List (Fp W T form bounds)) (r : Fp W T form bounds) → (number r * s) % form.ORDER ≡ sum_of_products number xs ys % form.ORDER
        → r ≡ dot (ops form) xs ys
    value_of_products xs ys r e =
        is_dot (is form) (canon form) 1 (λ x y. ap (λ m. m % form.ORDER) (once (canon form x * canon form y))) xs ys r
        (by_number r ∙ sum_reduced form.ORDER s form.scale undone number (number r) xs ys r.below e
        ∙ (λ ι. sum_of_products (λ x. sym (by_number x) ι) xs ys % form.ORDER) ∙ ap (λ m. m % form.ORDER) (once _))

  -- words of values are below the order, which is p
  pub words_below : (p n : ℕ) → p ≡ form.ORDER → (ws : List ℕ) (xs : List (Fp W T form bounds))
      → ((d : ℕ) (x : Fp W T form bounds) (k : ℕ) → k < n → get_or ws k d ≡ number (get_or xs k x)) → (k : ℕ) → k < n → get_or ws k 0 < p
  words_below p n e ws xs h k l =
      let x = of form {bounds = bounds} 0 in
      subst (λ o. get_or ws k 0 < o) (sym e) (subst (λ v. v < form.ORDER) (sym (h 0 x k l)) (get_or xs k x).below)

  -- and so are those of rows of values, after which there may be rows of zeros
  pub rows_below : (n : ℕ) (ws : List (List ℕ)) (xs : List (List (Fp W T form bounds)))
      → ((x : Fp W T form bounds) (i k : ℕ) → i < length xs → k < n → get_or (get_or ws i []) k 0 ≡ number (get_or (get_or xs i []) k x))
      → ((i k : ℕ) → length xs ≤ i → i < length ws → k < n → get_or (get_or ws i []) k 0 ≡ 0) → RowsAreBelow n form.ORDER ws
  rows_below n ws xs h z i d l k m =
      let x = of form {bounds = bounds} 0 in
      let above = form.is_form.above_one in
      subst (λ row. get_or row k 0 < form.ORDER) (get_or_default ws i [] d l)
      (elim (cases_lt i (length xs)) [
        | inl lt ↦ subst (λ v. v < form.ORDER) (sym (h x i k lt m)) (get_or (get_or xs i []) k x).below
        | inr ge ↦ subst (λ v. v < form.ORDER) (sym (z i k ge l m)) (omega (arith, above))
      ])
