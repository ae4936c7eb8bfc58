-- What a function called at each index in turn answers.
use Rattle.std.proofs.Common.{◌≡◌, ◌∙◌, ℕ, ◌+◌, ◌<◌, ◌≤◌, inl, inr, List, length, slice_get, Some, slice_index_or, ap, subst, sym, arith, zero, suc}
use Rattle.std.proofs.lemmas.Option.{slice_get-get_or}
use Rattle.std.proofs.Math.Nat.{eq-or-lt_of_le}
use Rattle.std.specs.Array.{IsFromFnResultFrom, IsFromFnResult}
use Rattle.std.specs.Fn.{Called}
use denote.Param.Members.{Mut}

-- I holds of the function as the calls leave it, and Holds i of the answer at i
module _ {F B : Type 0} (g : Mut F (ℕ × Unit {0}) B) (I : F → Type 0) (Holds : ℕ → B → Type 0)
    (step : (p : F) (i : ℕ) (y : B) (q : F) → I p → Called g p (i, tt) y q → Holds i y × I q) where
  held_from : (ys : List B) (n i : ℕ) (p : F) → I p → IsFromFnResultFrom g p ys i n → (j : ℕ) (d : B) → i ≤ j → j < i + n → Holds j (slice_index_or ys j d)
  held_from ys zero i p kept h j d le lt = absurd (omega arith)
  held_from ys (suc n) i p kept h j d le lt =
      elim (eq-or-lt_of_le le) [
        | inl e ↦
            let first : Holds i (slice_index_or ys i d) = let P : B → Type 0 = Holds i in subst P (sym (h.2.1 d)) (step p i h.1 h.0 kept h.3).0 in
            let P : ℕ → Type 0 = λ k. Holds k (slice_index_or ys k d) in subst P e first
        | inr l ↦ held_from ys n (i + 1) h.0 (step p i h.1 h.0 kept h.3).1 h.4 j d (omega arith) (omega arith)
      ]

  -- Holds of each answer
  pub each_answer : (f : F) (ys : List B) (n : ℕ) → I f → IsFromFnResult g f ys n → (j : ℕ) (d : B) → j < n → Holds j (slice_index_or ys j d)
  each_answer f ys n kept h j d lt = held_from ys n 0 f kept h.each j d (omega arith) (omega arith)

-- what calls at the indices below n answered, where each answer is a value of some x that a relation
-- gives at the index
pub lanes_of_answers : {F R X A : Type 0} (g : Mut F (ℕ × Unit {0}) A) (f : F) (ys : List A) (n : ℕ) (Gives : R → ℕ → X → Type 0) (value : ℕ → X → A) (r : R) (c : ℕ)
    (r_of : F → R) (c_of : F → ℕ) → IsFromFnResult g f ys n → (r_of f ≡ r) × (c_of f ≡ c)
    → ((p : F) (i : ℕ) (y : A) (q : F) → Called g p (i, tt) y q → ((x : X) × Gives (r_of p) i x × (y ≡ value (c_of p) x)) × (r_of q ≡ r_of p) × (c_of q ≡ c_of p))
    → A → (l : ℕ) → l < n → (x : X) × Gives r l x × (slice_get ys l ≡ Some (value c x))
lanes_of_answers {F} {R} {X} {A} g f ys n Gives value r c r_of c_of h kept step d l below =
    let Holds : ℕ → A → Type 0 = λ i y. (x : X) × Gives r i x × (y ≡ value c x) in
    let known : Holds l (slice_index_or ys l d) = each_answer g (λ p. (r_of p ≡ r) × (c_of p ≡ c)) Holds
    (λ p i y q k call.
    let s = step p i y q call in
    let P : R → Type 0 = λ z. (x : X) × Gives z i x × (y ≡ value c x) in
    let Q : ℕ → Type 0 = λ z. (x : X) × Gives (r_of p) i x × (y ≡ value z x) in
    (subst P k.0 (subst Q k.1 s.0), (s.1 ∙ k.0, s.2 ∙ k.1)))
    f ys n kept h l d below in
    let inside : l < length ys = omega (arith, h.long, below) in
    (known.0, known.1, slice_get-get_or ys l d inside ∙ ap (λ y. Some y) known.2)
