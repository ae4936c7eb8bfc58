-- Lists that a loop writes index by index.
use Rattle.std.proofs.Common.{◌≡◌, ◌<◌, ◌≤◌, ◌+◌, ◌-◌, ◌≢◌, ℕ, List, length, get_or, take, refl, sym, ap, ◌∙◌, inl, inr, arith}
use Rattle.std.proofs.Math.ListN.{set}
use Rattle.std.proofs.lemmas.List.{get_or-set_same, get_or-set_other, get_or-take, get_or_append_left, get_or-append_right, get_or-drop, length-take-le}
use Rattle.std.proofs.lemmas.Bool.{cases_lt}
use Rattle.std.proofs.lemmas.Slice.{drop-put_mid, take-put_mid}
use borrow.Author.Count.{below_more}
use borrow.Rule.Slice.PartMut.{put_mid}
use Rattle.p3_theory.specs.Polynomials.Polynomial.{tabulate}
use Rattle.p3_theory.specs.Lists.ByIndex.{to-tabulate}

module _ {A : Type 0} (s : ℕ → A) (d : A) where
  -- the indices below i hold s 0 to s (i - 1)
  abbrev pub HoldsBelow : List A → ℕ → Type 0
  HoldsBelow xs i = (k : ℕ) → k < i → get_or xs k d ≡ s k

  pub holds-none : (xs : List A) → HoldsBelow xs 0
  holds-none xs k h = absurd (omega arith)

  -- one more index
  pub holds-more : (xs : List A) (i : ℕ) (x : A) → i < length xs → HoldsBelow xs i → x ≡ s i → HoldsBelow (set xs i x) (i + 1)
  holds-more xs i x b h e =
      below_more (λ k. get_or (set xs i x) k d ≡ s k) i
      (λ k w. get_or-set_other xs i k x d (omega arith) ∙ h k w)
      (get_or-set_same xs i x d b ∙ e)

  -- a part more
  pub holds-part : (xs part : List A) (i m n : ℕ) → i ≤ length xs → n ≡ i + length part → HoldsBelow xs i → ((k : ℕ) → k < length part → get_or part k d ≡ s (i + k)) → HoldsBelow (put_mid i m xs part) n
  holds-part xs part i m n inside e before each k b =
      let front : length (take i xs) ≡ i = length-take-le i xs inside in
      sym (get_or-take n (put_mid i m xs part) k d b) ∙ ap (λ z. get_or z k d) (take-put_mid i m xs part n e inside)
      ∙ elim (cases_lt k i) [
        | inl lt ↦
            let below : k < length (take i xs) = omega (arith, front, lt) in
            get_or_append_left (take i xs) part d k below ∙ get_or-take i xs k d lt ∙ before k lt
        | inr ge ↦
            let at : i + (k - i) ≡ k = omega (arith, ge) in
            get_or-append_right (take i xs) part i k d front ge ∙ each (k - i) (omega (arith, b, e, ge)) ∙ ap s at
      ]

  -- all indices
  pub holds-all : (xs : List A) (n : ℕ) → length xs ≡ n → HoldsBelow xs n → xs ≡ tabulate n s
  holds-all xs n l h = to-tabulate d n s xs l h

  -- the same, where the other indices still hold what they held
  abbrev pub UpdatedBelow : List A → List A → ℕ → Type 0
  UpdatedBelow old xs i = HoldsBelow xs i × ((k : ℕ) → i ≤ k → get_or xs k d ≡ get_or old k d)

  pub updated-none : (xs : List A) → UpdatedBelow xs xs 0
  updated-none xs = (holds-none xs, λ k h. refl)

  pub updated-more : (old xs : List A) (i : ℕ) (x : A) → i < length xs → UpdatedBelow old xs i → x ≡ s i → UpdatedBelow old (set xs i x) (i + 1)
  updated-more old xs i x b h e =
      (holds-more xs i x b h.0 e, λ k w. let other : k ≢ i = omega arith in get_or-set_other xs i k x d other ∙ h.1 k (omega arith))

  -- the same, a part more
  pub updated-part : (old xs part : List A) (i m n : ℕ) → i ≤ length xs → n ≡ i + length part → length part ≡ m → UpdatedBelow old xs i
      → ((k : ℕ) → k < length part → get_or part k d ≡ s (i + k)) → UpdatedBelow old (put_mid i m xs part) n
  updated-part old xs part i m n inside e sized before each = (
    holds-part xs part i m n inside e before.0 each,
    λ k h.
        let at : n + (k - n) ≡ k = omega (arith, h) in
        let whole = put_mid i m xs part in
        ap (λ j. get_or whole j d) (sym at) ∙ sym (get_or-drop n whole (k - n) d)
        ∙ ap (λ l. get_or l (k - n) d) (drop-put_mid i m xs part n (omega (arith, e, sized)) inside sized)
        ∙ get_or-drop n xs (k - n) d ∙ ap (λ j. get_or xs j d) at ∙ before.1 k (omega (arith, h, e)),
  )

  -- where the other indices hold the rest of s, all do
  pub updated-all : (old xs : List A) (n i : ℕ) → length xs ≡ n → UpdatedBelow old xs i → ((k : ℕ) → i ≤ k → get_or old k d ≡ s k) → xs ≡ tabulate n s
  updated-all old xs n i l h rest = to-tabulate d n s xs l (λ k w. elim (cases_lt k i) [ inl below ↦ h.0 k below | inr above ↦ h.1 k above ∙ rest k above ])
