-- What the calls over a coset answer.
use Rattle.std.specs.Prelude.{◌≡◌, ◌<◌, ◌≤◌, ◌^◌, ℕ, List, Result, MatchResult, length, map, ⊤}
use Rattle.p3_theory.specs.Rings.Ring.{Ops, Invertible}
use Rattle.p3_theory.specs.Roots.Cosets.{coset}
use Rattle.poly_eval.specs.CosetValues.{values_on_coset}
use Rattle.p3_c_words.specs.Words.{Words, Stands, AllStand, values}
use Rattle.p3_c_words.specs.Calls.{Refused}
use Rattle.p3_c_words.specs.declared.refusal.Refusal.{Refusal}

-- the log size k is within the two-adicity s and below 64
abbrev pub Within : ℕ → ℕ → Type 0
Within s k = (k ≤ s) × (k < 64)

-- n is the size of such a coset
abbrev pub HasSize : ℕ → ℕ → ℕ → {U : Type 0} → Result U Refusal → Type 0
HasSize s k n r = MatchResult r (λ _. Within s k × (n ≡ 2 ^ k)) (Refused (Within s k) (n ≡ 2 ^ k) ⊤ ⊤ ⊥)

-- a coset of which P holds, where the shift has an inverse
abbrev pub FindsCoset : {A C : Type 0} → Ops A → A → (C → Type 0) → Result C Refusal → Type 0
FindsCoset O shift P r = MatchResult r (λ c. Invertible O shift × P c) (Refused ⊤ ⊤ ⊤ (Invertible O shift) ⊥)

module _ {T A : Type 0} (O : Ops A) (R : Words T A) (s : ℕ) (g : ℕ → A) where
  -- the points of the coset of the shift with 2^k items, over the whole list
  abbrev pub WritesCoset : T → ℕ → List T → List T → {U : Type 0} → Result U Refusal → Type 0
  WritesCoset shift k old new r =
      MatchResult r (λ _. (Within s k × (length old ≡ 2 ^ k)) × (Stands R shift × Invertible O (R.value shift)) × (new ≡ map R.word (coset O g (R.value shift) k)))
      (λ e. Refused (Within s k) (length old ≡ 2 ^ k) (Stands R shift) (Invertible O (R.value shift)) ⊥ e × (new ≡ old))

  -- the values over it of the polynomial with the coefficients
  abbrev pub WritesValues : List T → T → ℕ → List T → List T → {U : Type 0} → Result U Refusal → Type 0
  WritesValues cs shift k old new r =
      MatchResult r (λ _. (Within s k × (length old ≡ 2 ^ k)) × ((Stands R shift × AllStand R cs) × Invertible O (R.value shift))
      × (new ≡ map R.word (values_on_coset O g (R.value shift) k (values R cs))))
      (λ e. Refused (Within s k) (length old ≡ 2 ^ k) (Stands R shift × AllStand R cs) (Invertible O (R.value shift)) ⊤ e × (new ≡ old))
