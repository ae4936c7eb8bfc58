-- Words that stand for the values of a ring of residues.
use Rattle.std.specs.Prelude.{◌≡◌, ◌<◌, ℕ, List, All, map}

-- how words of type T stand for values of type A: each word that is a number below the order for one value, and each
-- value has one word
pub record Words (T A : Type 0) : Type 0 where
  pub order : ℕ
  -- the number that a word is
  pub number : T → ℕ
  -- the canonical number of a value
  pub canon : A → ℕ
  pub value : T → A
  pub word : A → T
  pub below : (x : A) → number (word x) < order
  pub word_value : (w : T) → number w < order → word (value w) ≡ w
  pub value_word : (x : A) → value (word x) ≡ x

module _ {T A : Type 0} (R : Words T A) where
  -- a word is below the order
  abbrev pub Stands : T → Type 0
  Stands w = R.number w < R.order

  -- each word is
  abbrev pub AllStand : List T → Type 0
  AllStand ws = All Stands ws

  -- the values of the words
  abbrev pub values : List T → List A
  values ws = map R.value ws

  -- what is done with two values, done with their words
  abbrev pub on_words : (A → A → A) → T → T → T
  on_words f v w = R.word (f (R.value v) (R.value w))
