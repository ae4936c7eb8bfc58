-- Lists that a loop writes index by index, by what is to hold of each entry and those it comes from.
use Rattle.std.proofs.Common.{◌≡◌, ◌<◌, ◌+◌, ℕ, List, length, get_or, subst, sym, ◌∙◌, arith}
use Rattle.std.proofs.Math.ListN.{set}
use Rattle.std.proofs.lemmas.List.{get_or-set_same, get_or-set_other, get_or_default, length-set}
use borrow.Author.Count.{below_more}

module _ {A : Type 0} where
  -- one more index, where P d k r says what is to hold of entry k, r, with d for what is past an end
  pub written-more : (P : A → ℕ → A → Type 0) (v : List A) (i : ℕ) (r : A) → i < length v → ((d : A) → P d i r)
      → ((d : A) (k : ℕ) → k < i → P d k (get_or v k d)) → (d : A) (k : ℕ) → k < i + 1 → P d k (get_or (set v i r) k d)
  written-more P v i r b here below d =
      below_more (λ k. P d k (get_or (set v i r) k d)) i
      (λ k w. subst (P d k) (sym (get_or-set_other v i k r d (omega arith))) (below d k w))
      (subst (P d i) (sym (get_or-set_same v i r d b)) (here d))

  -- entries that come from those of one list
  pub written-from_one : (P : A → A → Type 0) (D : ℕ) (x v : List A) (i : ℕ) (a r : A) → i < D → length x ≡ D → P (get_or x i a) r
      → (length v ≡ D) × ((d : A) (k : ℕ) → k < i → P (get_or x k d) (get_or v k d))
      → (length (set v i r) ≡ D) × ((d : A) (k : ℕ) → k < i + 1 → P (get_or x k d) (get_or (set v i r) k d))
  written-from_one P D x v i a r h l here below = (
    length-set v i r ∙ below.0,
    written-more (λ d k z. P (get_or x k d) z) v i r (omega (arith, h, below.0))
        (λ d. subst (λ u. P u r) (get_or_default x i a d (omega (arith, h, l))) here) below.1,
  )

  -- entries that come from those of two lists
  pub written-from_two : (P : A → A → A → Type 0) (D : ℕ) (x y v : List A) (i : ℕ) (a b r : A) → i < D → length x ≡ D → length y ≡ D
      → P (get_or x i a) (get_or y i b) r
      → (length v ≡ D) × ((d : A) (k : ℕ) → k < i → P (get_or x k d) (get_or y k d) (get_or v k d))
      → (length (set v i r) ≡ D) × ((d : A) (k : ℕ) → k < i + 1 → P (get_or x k d) (get_or y k d) (get_or (set v i r) k d))
  written-from_two P D x y v i a b r h l m here below = (
    length-set v i r ∙ below.0,
    written-more (λ d k z. P (get_or x k d) (get_or y k d) z) v i r (omega (arith, h, below.0))
        (λ d. subst (λ u. P u (get_or y i d) r) (get_or_default x i a d (omega (arith, h, l)))
        (subst (λ w. P (get_or x i a) w r) (get_or_default y i b d (omega (arith, h, m))) here)) below.1,
  )
