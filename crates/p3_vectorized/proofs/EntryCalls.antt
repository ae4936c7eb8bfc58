-- A function of indices that calls another at the entries of a list, one entry at an index.
use Rattle.std.proofs.Common.{◌≡◌, ℕ, ◌+◌, ◌<◌, ◌≤◌, inl, inr, List, [], ◌∷◌, length, get_or, drop, ap, subst, sym, arith, zero, suc}
use Rattle.std.proofs.Math.Nat.{eq-or-lt_of_le}
use Rattle.std.proofs.Math.Seq.{drop-cons}
use Rattle.std.proofs.lemmas.List.{get_or_default}
use Rattle.std.specs.Array.{index_steps, list_steps, IsFromFnResultFrom, IsFromFnResult, MapsFrom, IsMapOf}
use Rattle.std.specs.Fn.{Called, Takes}
use Rattle.std.specs.Iterator.{CallableAtEachTurn, Yields}
use Rattle.std.specs.List.{FoldsTo}
use denote.Param.Members.{Mut}

-- I holds of the outer function as its calls leave it; the call at i is a call of what callee reads
-- off it, at the entry i of xs
module _ {S F A B : Type 0} (h : Mut S (ℕ × Unit {0}) B) (g : Mut F (A × Unit {0}) B) (callee : S → F) (I : S → Type 0) (d : A) (xs : List A) (n : ℕ) (sized : length xs ≡ n)
    (gives : (p : S) (i : ℕ) (y : B) (q : S) → I p → Called h p (i, tt) y q → Called g (callee p) (get_or xs i d, tt) y (callee q) × I q) where
  abbrev outer : S → ℕ → S → Type 0
  outer p i q = (y : B) × Called h p (i, tt) y q

  abbrev inner : F → A → F → Type 0
  inner p x q = (y : B) × Called g p (x, tt) y q

  -- turns over indices are turns over the entries
  turns : (is : List ℕ) (k t : ℕ) (p q : S) → I p → Yields (index_steps n) k is t → FoldsTo outer p is q
      → (items : List A) × Yields list_steps (drop k xs) items (drop t xs) × FoldsTo inner (callee p) items (callee q) × I q
  turns [] k t p q kept y f = ([], ap (λ j. drop j xs) y, ap callee f, subst I f kept)
  turns (i ∷ is) k t p q kept y f =
      let at : i ≡ k = y.1.1 in
      let next : y.0 ≡ suc k = omega (arith, y.1.2) in
      let below : k < length xs = omega (arith, y.1.0, sized) in
      let here : Called h p (k, tt) f.1.0 f.0 = subst (λ j. Called h p (j, tt) f.1.0 f.0) at f.1.1 in
      let call = gives p k f.1.0 f.0 kept here in
      let rest = turns is (suc k) t f.0 q call.1 (subst (λ j. Yields (index_steps n) j is t) next y.2) f.2 in
      (get_or xs k d ∷ rest.0, (drop (suc k) xs, drop-cons xs k d below, rest.1), (callee f.0, (f.1.0, call.0), rest.2), rest.3)

  -- it may be called at each index in turn if the other may at each entry
  pub callable-entries : ((p : S) (i : ℕ) → I p → i < n → Takes g (callee p) (get_or xs i d, tt) → Takes h p (i, tt)) → (f : S) → I f
      → CallableAtEachTurn list_steps inner (λ p x. Takes g p (x, tt)) xs (callee f)
      → CallableAtEachTurn (index_steps n) outer (λ p i. Takes h p (i, tt)) 0 f
  callable-entries takes f kept c =
      record {
        at = λ is t q i u y folds s.
            let known = turns is 0 t f q kept y folds in
            let below : t < length xs = omega (arith, s.0, sized) in
            let may = c.at known.0 (drop t xs) (callee q) (get_or xs t d) (drop (suc t) xs) known.1 known.2 (drop-cons xs t d below) in
            subst (λ j. Takes h q (j, tt)) (sym s.1) (takes q t known.3 s.0 may);
      }

  maps : (ys : List B) (m i : ℕ) (p : S) → i + m ≤ n → I p → IsFromFnResultFrom h p ys i m → MapsFrom g (callee p) xs ys i m
  maps ys zero i p le kept r = tt
  maps ys (suc m) i p le kept r =
      let below : i < length xs = omega (arith, le, sized) in
      let call = gives p i r.1 r.0 kept r.3 in
      let x = get_or xs i d in
      (callee r.0, x, r.1, (get_or_default xs i x d below, λ e. get_or_default xs i e d below), r.2, call.0, maps ys m (i + 1) r.0 (omega (arith, le)) call.1 r.4)

  maps-at : (ys : List B) (m i : ℕ) (p : F) → MapsFrom g p xs ys i m → (j : ℕ) (a : A) (b : B) → i ≤ j → j < i + m
      → (s : F) × (t : F) × Called g s (get_or xs j a, tt) (get_or ys j b) t
  maps-at ys zero i p r j a b le lt = absurd (omega arith)
  maps-at ys (suc m) i p r j a b le lt =
      elim (eq-or-lt_of_le le) [
        | inl e ↦
            let X : A → Type 0 = λ x. Called g p (x, tt) r.2 r.0 in
            let Y : B → Type 0 = λ y. Called g p (get_or xs i a, tt) y r.0 in
            let P : ℕ → Type 0 = λ k. (s : F) × (t : F) × Called g s (get_or xs k a, tt) (get_or ys k b) t in
            subst P e (p, r.0, subst Y (sym (r.4.1 b)) (subst X (sym (r.3.1 a)) r.5))
        | inr l ↦ maps-at ys m (i + 1) r.0 r.6 j a b (omega arith) (omega arith)
      ]

  -- what its calls at each index answered is what the other's at each entry did
  pub maps-entries : (ys : List B) (f : S) → I f → IsFromFnResult h f ys n → IsMapOf g (callee f) xs ys n
  maps-entries ys f kept r =
      let each = maps ys n 0 f (omega arith) kept r.each in
      record { long = r.long; each = each; at = λ i a b lt. maps-at ys n 0 (callee f) each i a b (omega arith) (omega arith) }
