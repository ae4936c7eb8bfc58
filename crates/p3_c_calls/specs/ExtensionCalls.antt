-- What the calls over values of an extension answer. A value is the list of its D coefficients, the constant one first,
-- and is stored as their words.
use Rattle.std.specs.Prelude.{◌≡◌, ◌%◌, ℕ, List, Result, All, MatchResult, length, map, ⊤}
use Rattle.p3_theory.specs.Rings.Ring.{Ops, IsInverse}
use Rattle.p3_theory.specs.Rings.DotProduct.{dot}
use Rattle.p3_theory.specs.Bases.Coordinates.{flattened}
use Rattle.p3_theory.specs.Lists.PairedLists.{zip_with}
use Rattle.p3_c_words.specs.Words.{Words, AllStand}
use Rattle.p3_c_words.specs.Calls.{Refused, PairRefused}
use Rattle.p3_c_words.specs.declared.refusal.Refusal.{Refusal}

module _ {T A : Type 0} (D : ℕ) (R : Words T A) where
  -- the words of a value
  abbrev pub words_of : List A → List T
  words_of x = map R.word x

  -- ws are the words of the value x
  abbrev pub AreWords : List A → List T → Type 0
  AreWords x ws = (length x ≡ D) × (ws ≡ words_of x)

  -- ws are the words of the values xs, one value after the other
  abbrev pub AreAllWords : List (List A) → List T → Type 0
  AreAllWords xs ws = All (λ x. length x ≡ D) xs × (ws ≡ flattened words_of xs)

  -- ws are as many as whole values have
  abbrev pub Whole : List T → Type 0
  Whole ws = length ws % D ≡ 0

  -- f of each value, over the list
  abbrev pub WritesEach : (List A → List A) → List T → List T → {U : Type 0} → Result U Refusal → Type 0
  WritesEach f ws new r =
      MatchResult r (λ _. (xs : List (List A)) × AreAllWords xs ws × (new ≡ flattened words_of (map f xs)))
      (λ e. PairRefused (Whole ws) (AllStand R ws) e × (new ≡ ws))

  -- f of the values at each index of two lists of one length, over the first list
  abbrev pub WritesPairs : (List A → List A → List A) → List T → List T → List T → {U : Type 0} → Result U Refusal → Type 0
  WritesPairs f us vs new r =
      MatchResult r (λ _. (length us ≡ length vs) × ((xs : List (List A)) × (ys : List (List A)) × AreAllWords xs us × AreAllWords ys vs × (new ≡ flattened words_of (zip_with f xs ys))))
      (λ e. PairRefused ((length us ≡ length vs) × Whole us) (AllStand R us × AllStand R vs) e × (new ≡ us))

module _ {T A : Type 0} (D : ℕ) (O : Ops (List A)) (R : Words T A) where
  -- the sum of the products at each index of two lists of one length
  abbrev pub WritesDot : List T → List T → List T → List T → {U : Type 0} → Result U Refusal → Type 0
  WritesDot us vs old new r =
      MatchResult r (λ _. ((length us ≡ length vs) × (length old ≡ D))
      × ((xs : List (List A)) × (ys : List (List A)) × AreAllWords D R xs us × AreAllWords D R ys vs × (new ≡ words_of D R (dot O xs ys))))
      (λ e. PairRefused ((length us ≡ length vs) × Whole D R us × (length old ≡ D)) (AllStand R us × AllStand R vs) e × (new ≡ old))

  -- the value x has an inverse
  abbrev pub HasInverse : List A → Type 0
  HasInverse x = (y : List A) × (length y ≡ D) × IsInverse O x y

  -- the value with these words has an inverse
  abbrev pub WordsInvertible : List T → Type 0
  WordsInvertible ws = (x : List A) → AreWords D R x ws → HasInverse x

  -- each value with these words has an inverse
  abbrev pub AllInvertible : List T → Type 0
  AllInvertible ws = (xs : List (List A)) → AreAllWords D R xs ws → All HasInverse xs

  -- an inverse of a value
  abbrev pub WritesInverse : List T → List T → List T → {U : Type 0} → Result U Refusal → Type 0
  WritesInverse ws old new r =
      MatchResult r (λ _. (length old ≡ D) × ((x : List A) × (y : List A) × AreWords D R x ws × AreWords D R y new × IsInverse O x y))
      (λ e. Refused ⊤ ((length ws ≡ D) × (length old ≡ D)) (AllStand R ws) (WordsInvertible ws) ⊥ e × (new ≡ old))

  -- an inverse of each value, over the list
  abbrev pub WritesEachInverse : List T → List T → {U : Type 0} → Result U Refusal → Type 0
  WritesEachInverse ws new r =
      MatchResult r (λ _. (xs : List (List A)) × (ys : List (List A)) × (length ys ≡ length xs) × AreAllWords D R xs ws × AreAllWords D R ys new
      × (zip_with O.mul xs ys ≡ map (λ _. O.one) xs))
      (λ e. Refused ⊤ (Whole D R ws) (AllStand R ws) (AllInvertible ws) ⊤ e × (new ≡ ws))
