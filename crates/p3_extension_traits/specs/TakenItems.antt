-- How many items an iterator gives, by taking n of them and calling it once more.
use Rattle.std.proofs.Common.{◌≡◌, ◌<◌, ◌≤◌, inl, inr, ℕ, List, [], ◌∷◌, ◌++◌, length, drop, Option, Some, None, refl, sym, ap, subst, ◌∙◌, arith}
use Rattle.std.specs.Iterator.{Yields, Drains}
use Rattle.std.proofs.lemmas.List.{length-append}
use Rattle.std.proofs.Math.ListN.{drop_of_length-le}
use mathlib.Core.List.{append-nil}
use Rattle.p3_extension_traits.specs.Streams.{YieldsExactly, TakesUpTo, GivesOtherCount}
use Rattle.p3_extension_traits.specs.StreamLemmas.{YieldsExactly-none, YieldsExactly-some}

module _ {S A : Type 0} (steps : S → Option A → S → Type 0) where
  -- after some of its items, an iterator gives exactly the others
  pub taken-front : (xs all : List A) (s t : S) → Yields steps s xs t → YieldsExactly steps s all → (ws : List A) × (all ≡ xs ++ ws) × YieldsExactly steps t ws
  taken-front [] all s t h y = (all, refl, (let P : S → Type 0 = λ v. YieldsExactly steps v all in subst P h y))
  taken-front (x ∷ xs) all s t h y =
      let n = YieldsExactly-some y h.1 in
      let m = taken-front xs n.0 h.0 t h.2 n.2 in
      (m.0, n.1 ∙ ap (λ ws. x ∷ ws) m.1, m.2)

  -- what `take_up_to` tells: k items xs were written over the front of n indices
  abbrev pub Wrote : ℕ → ℕ → S → List A → List A → S → Type 0
  Wrote n k s old new t = (xs : List A) × (length xs ≡ k) × (new ≡ xs ++ drop k old) × TakesUpTo steps n s xs t

  module _ (n k : ℕ) (s t : S) (old new all : List A) (w : Wrote n k s old new t) (y : YieldsExactly steps s all) where
    -- fewer were written than the slice has entries
    pub too_few : k < n → length all ≡ n → ⊥
    too_few lt l = elim w.3 [
      | inl q ↦ omega (arith, lt, w.1, q.0)
      | inr q ↦
          let m = taken-front w.0 all s q.1.0 q.1.1 y in
          omega (arith, q.0, l, ap length (m.1 ∙ ap (λ ws. w.0 ++ ws) (YieldsExactly-none m.2 q.1.2) ∙ append-nil w.0))
    ]

    module _ (full : n ≤ k) where
      whole : (length w.0 ≡ n) × Yields steps s w.0 t
      whole = elim w.3 [ inl q ↦ q | inr q ↦ absurd (omega (arith, full, w.1, q.0)) ]

      -- as many as it has entries, and then none
      pub just_enough : {u : S} → length old ≡ n → steps t None u → new ≡ all
      just_enough l h =
          let m = taken-front w.0 all s t whole.1 y in
          let past : length old ≤ k = omega (arith, l, full) in
          w.2 ∙ ap (λ ws. w.0 ++ ws) (drop_of_length-le old past) ∙ sym (m.1 ∙ ap (λ ws. w.0 ++ ws) (YieldsExactly-none m.2 h))

      -- as many as it has entries, and then one more
      pub too_many : {x : A} {u : S} → steps t (Some x) u → length all ≡ n → ⊥
      too_many h l =
          let m = taken-front w.0 all s t whole.1 y in
          let r = YieldsExactly-some m.2 h in
          omega (arith, l, whole.0, ap length m.1, length-append w.0 m.0, ap length r.1)

  -- the same told by the items that came, whatever the iterator may give else
  module _ (n k : ℕ) (s t : S) (old new : List A) (w : Wrote n k s old new t) where
    -- fewer were written than the slice has entries
    pub drawn_few : k < n → GivesOtherCount steps n s
    drawn_few lt = elim w.3 [
      | inl q ↦ absurd (omega (arith, lt, w.1, q.0))
      | inr q ↦ (w.0, None, t, q.1, q.0)
    ]

    module _ (full : n ≤ k) where
      all_written : (length w.0 ≡ n) × Yields steps s w.0 t
      all_written = elim w.3 [ inl q ↦ q | inr q ↦ absurd (omega (arith, full, w.1, q.0)) ]

      -- as many as it has entries, and then none
      pub drawn_enough : {u : S} → length old ≡ n → steps t None u → Drains steps s new
      drawn_enough {u} l h =
          let past : length old ≤ k = omega (arith, l, full) in
          let same : new ≡ w.0 = w.2 ∙ ap (λ ws. w.0 ++ ws) (drop_of_length-le old past) ∙ append-nil w.0 in
          let P : List A → Type 0 = Drains steps s in
          subst P (sym same) (u, (t, all_written.1, h))

      -- as many as it has entries, and then one more
      pub drawn_more : {x : A} {u : S} → steps t (Some x) u → GivesOtherCount steps n s
      drawn_more {x} {u} h = (w.0, Some x, u, (t, all_written.1, h), all_written.0)

  -- no item came, where one was asked for
  pub drawn_no_item : {s t : S} → steps s None t → GivesOtherCount steps 1 s
  drawn_no_item {s} {t} h = ([], None, t, (s, refl, h), omega arith)

  -- one item came, and then another
  pub drawn_two_items : {s t u : S} {x z : A} → steps s (Some x) t → steps t (Some z) u → GivesOtherCount steps 1 s
  drawn_two_items {s} {t} {u} {x} {z} h k = (x ∷ [], Some z, u, (t, (t, h, refl), k), refl)
