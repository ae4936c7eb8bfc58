-- The text of a polynomial, written term by term.
use Rattle.std.proofs.Common.{◌≡◌, ◌∙◌, ℕ, ◌+◌, ◌<◌, ◌≤◌, List, [], ◌∷◌, ◌++◌, length, drop, get_or, sym, ap, append_assoc, append-nil, Bool, true, false, cond}
use Rattle.std.proofs.lemmas.List.{drop_more, drop_all}
use Rattle.p3_theory.specs.Polynomials.Text.{terms_text, next_text}

module _ {A : Type 0} (is_zero is_one : A → Bool) (own : A → List ℕ) where
  abbrev terms : Bool → ℕ → List A → List ℕ
  terms = terms_text is_zero is_one own

  -- `old` was written before index i, and `all` is the whole text: after a nonzero coefficient, and after zero
  pub term_written : (d : A) (old : List ℕ) (vs : List A) (all : List ℕ) (b : Bool) (i : ℕ) (c : A) → i < length vs → c ≡ get_or vs i d → is_zero c ≡ false
      → old ++ terms b i (drop i vs) ≡ all → (old ++ next_text b i (is_one c) (own c)) ++ terms true (i + 1) (drop (i + 1) vs) ≡ all
  term_written d old vs all b i c h e z inv =
      append_assoc old (next_text b i (is_one c) (own c)) (terms true (i + 1) (drop (i + 1) vs))
      ∙ ap (λ t. old ++ t) (sym (ap (terms b i) (drop_more vs i d h ∙ ap (λ k. k ∷ drop (i + 1) vs) (sym e))
      ∙ ap (λ t. cond t (terms b (i + 1) (drop (i + 1) vs)) (next_text b i (is_one c) (own c) ++ terms true (i + 1) (drop (i + 1) vs))) z))
      ∙ inv

  pub zero_skipped : (d : A) (old : List ℕ) (vs : List A) (all : List ℕ) (b : Bool) (i : ℕ) (c : A) → i < length vs → c ≡ get_or vs i d → is_zero c ≡ true
      → old ++ terms b i (drop i vs) ≡ all → old ++ terms b (i + 1) (drop (i + 1) vs) ≡ all
  zero_skipped d old vs all b i c h e z inv =
      ap (λ t. old ++ t) (sym (ap (terms b i) (drop_more vs i d h ∙ ap (λ k. k ∷ drop (i + 1) vs) (sym e))
      ∙ ap (λ t. cond t (terms b (i + 1) (drop (i + 1) vs)) (next_text b i (is_one c) (own c) ++ terms true (i + 1) (drop (i + 1) vs))) z))
      ∙ inv

  -- past the last coefficient nothing is left, or "0" where no term came
  pub nothing_left : (old : List ℕ) (vs : List A) (all : List ℕ) (i : ℕ) → length vs ≤ i → old ++ terms true i (drop i vs) ≡ all → old ≡ all
  nothing_left old vs all i h inv = sym (append-nil old) ∙ ap (λ t. old ++ terms true i t) (sym (drop_all i vs h)) ∙ inv

  pub zero_left : (old : List ℕ) (vs : List A) (all : List ℕ) (i : ℕ) → length vs ≤ i → old ++ terms false i (drop i vs) ≡ all → old ++ 48 ∷ [] ≡ all
  zero_left old vs all i h inv = ap (λ t. old ++ terms false i t) (sym (drop_all i vs h)) ∙ inv
