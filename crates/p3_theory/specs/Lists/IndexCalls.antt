-- What a function called at each index in turn makes, index by index.
use Rattle.std.proofs.Common.{◌≡◌, ℕ, ◌+◌, ◌<◌, ◌≤◌, inl, inr, List, [], ◌∷◌, slice_index_or, lit<, refl, subst, sym, arith, zero, suc}
use Rattle.std.proofs.Math.Nat.{eq-or-lt_of_le}
use Rattle.std.specs.Array.{IsFromFnResultFrom, IsFromFnResult}
use Rattle.std.specs.Fn.{Called, Takes}
use Rattle.p3_theory.specs.Bases.Coordinates.{CallableBelow}
use denote.Param.Members.{Mut}
use Rattle.p3_theory.specs.Polynomials.Polynomial.{tabulate}
use Rattle.p3_theory.specs.Lists.ByIndex.{to-tabulate}

-- I holds of the function as the calls leave it, and then the call at i answers s i
module _ {F B : Type 0} (g : Mut F (ℕ × Unit {0}) B) (I : F → Type 0) (s : ℕ → B)
    (step : (p : F) (i : ℕ) (y : B) (q : F) → I p → Called g p (i, tt) y q → (y ≡ s i) × I q) where
  answered_from : (ys : List B) (n i : ℕ) (p : F) → I p → IsFromFnResultFrom g p ys i n → (j : ℕ) (d : B) → i ≤ j → j < i + n → slice_index_or ys j d ≡ s j
  answered_from ys zero i p kept h j d le lt = absurd (omega arith)
  answered_from ys (suc n) i p kept h j d le lt =
      elim (eq-or-lt_of_le le) [
        | inl e ↦
            let first : slice_index_or ys i d ≡ s i = let P : B → Type 0 = λ v. v ≡ s i in subst P (sym (h.2.1 d)) (step p i h.1 h.0 kept h.3).0 in
            let P : ℕ → Type 0 = λ k. slice_index_or ys k d ≡ s k in subst P e first
        | inr l ↦ answered_from ys n (i + 1) h.0 (step p i h.1 h.0 kept h.3).1 h.4 j d (omega arith) (omega arith)
      ]

  -- the answers are s 0 to s (n - 1)
  pub answers-tabulate : (d : B) (f : F) (ys : List B) (n : ℕ) → I f → IsFromFnResult g f ys n → ys ≡ tabulate n s
  answers-tabulate d f ys n kept h = to-tabulate d n s ys h.long (λ j lt. answered_from ys n 0 f kept h.each j d (omega arith) (omega arith))

-- one call, at index 0
pub callable-one : {F B : Type 0} (g : Mut F (ℕ × Unit {0}) B) (f : F) → CallableBelow g 1 f → Takes g f (0, tt)
callable-one g f h = h.at [] 0 f 0 1 refl refl (lit< tt, refl, refl)

module _ {F B : Type 0} (g : Mut F (ℕ × Unit {0}) B) (f q : F) (y : B) (h : Called g f (0, tt) y q) where
  at_zero : (i : ℕ) (e : B) → i < 1 → (p : F) × (r : F) × Called g p (i, tt) (slice_index_or (y ∷ []) i e) r
  at_zero zero e lt = (f, q, h)
  at_zero (suc i) e lt = absurd (omega arith)

  pub answers-one : IsFromFnResult g f (y ∷ []) 1
  answers-one = record { long = refl; each = (q, y, (refl, λ d. refl), h, tt); at = at_zero }
