-- What a function called at each index in turn answers, as a loop carries it.
use Rattle.std.specs.Prelude.{◌≡◌, ◌≢◌, ◌<◌, ◌≤◌, ◌+◌, ℕ, zero, suc, List, [], ◌∷◌, ◌++◌, length, get_or, slice_set, refl}
use Rattle.std.proofs.Common.{arith, ap, sym, ◌∙◌, subst, inl, inr}
use Rattle.std.proofs.lemmas.Bool.{cases_lt}
use Rattle.std.proofs.lemmas.List.{ext_get_or, get_or-set_same, get_or-set_other, get_or_append_left, get_or_push, length_push}
use Rattle.std.specs.Array.{FillsFrom, IsFromFnResultFrom, IsFromFnResult, index_steps}
use Rattle.std.specs.Fn.{Called, Takes}
use Rattle.std.specs.Iterator.{CallableAtEachTurn}
use Rattle.p3_theory.specs.Bases.Coordinates.{CallableBelow}
use denote.Param.Members.{Mut}

fills-more : {S A : Type 0} (R : S → ℕ → A → S → Type 0) (s : S) (i : ℕ) (xs : List A) (t : S) (x : A) (u : S) (k : ℕ) → k ≡ i + length xs → FillsFrom R s i xs t → R t k x u
    → FillsFrom R s i (xs ++ x ∷ []) u
fills-more R s i [] t x u k e y p =
    let at : k ≡ i = omega (arith, e) in
    (u, subst (λ v. R s v x u) at (subst (λ z. R z k x u) (sym y) p), refl)
fills-more R s i (z ∷ xs) t x u k e y p = (y.0, y.1, fills-more R y.0 (i + 1) xs t x u k (omega (arith, e)) y.2 p)

module _ {F B : Type 0} (g : Mut F (ℕ × Unit {0}) B) (n : ℕ) (d : B) where
  abbrev calls : F → ℕ → B → F → Type 0
  calls p i y q = Called g p (i, tt) y q

  fills-each : (whole ys : List B) (s t : F) (i : ℕ) → ((j : ℕ) (e : B) → j < length ys → get_or whole (i + j) e ≡ get_or ys j e) → FillsFrom calls s i ys t → IsFromFnResultFrom g s whole i (length ys)
  fills-each whole [] s t i h y = tt
  fills-each whole (x ∷ ys) s t i h y =
      let first : (e : B) → get_or whole i e ≡ x = λ e. let some : 0 < length (x ∷ ys) = omega arith in let start : i ≡ i + 0 = omega arith in ap (λ k. get_or whole k e) start ∙ h 0 e some in (
        y.0,
        x,
        (first x, first),
        y.1,
        fills-each whole ys y.0 t (i + 1)
            (λ j e b. let next : i + 1 + j ≡ i + suc j = omega arith in let more : suc j < length (x ∷ ys) = omega (arith, b) in ap (λ k. get_or whole k e) next ∙ h (suc j) e more)
            y.2,
      )

  fills-at : (ys : List B) (s t : F) (i k m : ℕ) (e : B) → FillsFrom calls s i ys t → k < length ys → m ≡ i + k → (p : F) × (q : F) × Called g p (m, tt) (get_or ys k e) q
  fills-at [] s t i k m e y l a = absurd (omega (arith, l))
  fills-at (x ∷ ys) s t i zero m e y l a = let at : i ≡ m = omega (arith, a) in (s, y.0, subst (λ v. Called g s (v, tt) x y.0) at y.1)
  fills-at (x ∷ ys) s t i (suc k) m e y l a = fills-at ys y.0 t (i + 1) k m e y.2 (omega (arith, l)) (omega (arith, a))

  counted : (ys : List B) (s t : F) → length ys ≡ n → FillsFrom calls s 0 ys t → IsFromFnResult g s ys n
  counted ys s t l y = record {
    long = l;
    each = subst (IsFromFnResultFrom g s ys 0) l (fills-each ys ys s t 0 (λ j e b. let same : 0 + j ≡ j = omega arith in ap (λ k. get_or ys k e) same) y);
    at = λ k e b. fills-at ys s t 0 k k e y (omega (arith, b, l)) (omega arith);
  }

  -- q may be called at each index from k on and below n
  abbrev pub CallableFrom : ℕ → F → Type 0
  CallableFrom k q = CallableAtEachTurn (index_steps n) (λ p i r. (y : B) × Called g p (i, tt) y r) (λ p i. Takes g p (i, tt)) k q

  -- calls of f at the indices below k, in turn, left q and answered what the list holds below k
  abbrev pub AnsweredBelow : F → F → List B → ℕ → Type 0
  AnsweredBelow f q xs k = (ys : List B) × FillsFrom calls f 0 ys q × (length ys ≡ k) × CallableFrom k q × ((j : ℕ) → j < k → get_or xs j d ≡ get_or ys j d)

  pub answered-none : (f : F) (xs : List B) → CallableBelow g n f → AnsweredBelow f f xs 0
  answered-none f xs h = ([], refl, refl, h, λ j b. absurd (omega (arith, b)))

  pub answered-callable : (f q : F) (xs : List B) (k : ℕ) → AnsweredBelow f q xs k → k < n → Takes g q (k, tt)
  answered-callable f q xs k h b = h.3.at [] k q k (k + 1) refl refl (b, refl, refl)

  pub answered-more : (f p q : F) (xs zs : List B) (k : ℕ) (y : B) → AnsweredBelow f p xs k → k < n → length xs ≡ n → Called g p (k, tt) y q → zs ≡ slice_set xs k y → AnsweredBelow f q zs (k + 1)
  answered-more f p q xs zs k y h b l call e =
      let more : List B = h.0 ++ y ∷ [] in
      let inside : k < length xs = omega (arith, b, l) in
      let next : k ≡ 0 + length h.0 = omega (arith, h.2) in (
        more,
        fills-more calls f 0 h.0 p y q k next h.1 call,
        length_push h.0 y ∙ ap (λ m. m + 1) h.2,
        record { at = λ later t v x u a c s. h.3.at (k ∷ later) t v x u (k + 1, (b, refl, refl), a) (q, (y, call), c) s },
        λ j w.
            ap (λ l. get_or l j d) e
            ∙ elim (cases_lt j k) [
              | inl lt ↦
                  let other : j ≢ k = λ s. absurd (omega (arith, lt, s)) in
                  let early : j < length h.0 = omega (arith, lt, h.2) in
                  get_or-set_other xs k j y d other ∙ h.4 j lt ∙ sym (get_or_append_left h.0 (y ∷ []) d j early)
              | inr ge ↦
                  let same : k ≡ j = omega (arith, ge, w) in
                  let last : length h.0 ≡ j = omega (arith, ge, w, h.2) in
                  ap (λ i. get_or (slice_set xs k y) i d) (sym same) ∙ get_or-set_same xs k y d inside ∙ sym (get_or_push h.0 y d j last)
            ],
      )

  -- all of them
  pub answered-all : (f q : F) (xs : List B) (k : ℕ) → n ≤ k → k ≤ n → length xs ≡ n → AnsweredBelow f q xs k → IsFromFnResult g f xs n
  answered-all f q xs k le ge l h =
      let all : length h.0 ≡ n = omega (arith, h.2, le, ge) in
      let same : xs ≡ h.0 = ext_get_or d xs h.0 (l ∙ sym all) (λ j b. h.4 j (omega (arith, b, l, le))) in
      subst (λ zs. IsFromFnResult g f zs n) (sym same) (counted h.0 f q all h.1)
