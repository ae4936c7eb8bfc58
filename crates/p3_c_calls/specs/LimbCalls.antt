-- What the calls over limbs answer.
use Rattle.std.specs.Prelude.{◌≡◌, ◌<◌, ◌≤◌, ◌-◌, ◌^◌, ℕ, List, Result, MatchResult, length, map, ⊤}
use Rattle.p3_helpers.specs.Digits.{IsLimit, digits, pack}
use Rattle.p3_c_words.specs.Words.{Words, Stands, AllStand, values}
use Rattle.p3_c_words.specs.declared.refusal.Refusal.{Refusal}
use Rattle.p3_c_words.specs.declared.refusal.Refusal.TheVariants.{Length, Word, NoInverse, NoRoot, LogSize, Memory, Step, Radix}

-- the reason of a call that asks in turn for a radix and for words; it takes memory or does not
abbrev pub LimbsRefused : Type 0 → Type 0 → Type 0 → Refusal → Type 0
LimbsRefused radix words memory Radix = radix → ⊥
LimbsRefused radix words memory Word = radix × (words → ⊥)
LimbsRefused radix words memory Memory = radix × words × memory
LimbsRefused radix words memory Length = ⊥
LimbsRefused radix words memory NoInverse = ⊥
LimbsRefused radix words memory NoRoot = ⊥
LimbsRefused radix words memory LogSize = ⊥
LimbsRefused radix words memory Step = ⊥

-- a radix 2^k that packs limbs has at least one bit, and fewer than 64
abbrev pub IsRadix : ℕ → Type 0
IsRadix k = (0 < k) × (k < 64)

-- one whose digits are values of a field of order n is also not above n
abbrev pub IsDigitRadix : ℕ → ℕ → Type 0
IsDigitRadix n k = (0 < k) × (k < 64) × (2 ^ k ≤ n)

module _ {T A U B : Type 0} where
  -- the word of the value, in a field of order n, of the number whose digits in radix 2^k are the limbs
  abbrev pub AnswersPacked : Words T A → (A → ℕ) → Words U B → (B → ℕ) → ℕ → List T → ℕ → Result U Refusal → Type 0
  AnswersPacked R canon Q number n ws k r =
      MatchResult r (λ w. (IsRadix k × AllStand R ws) × ((y : B) × (number y ≡ pack canon (values R ws) k n) × (w ≡ Q.word y)))
      (LimbsRefused (IsRadix k) (AllStand R ws) ⊤)

  -- the words of the lowest digits of the value in radix 2^k, over the whole list, in a field of order n
  abbrev pub WritesDigits : Words T A → (A → ℕ) → ℕ → Words U B → (B → ℕ) → U → ℕ → List T → List T → {V : Type 0} → Result V Refusal → Type 0
  WritesDigits R canon n Q number w k old new r =
      MatchResult r (λ _. (IsDigitRadix n k × Stands Q w) × ((xs : List A) × (map canon xs ≡ digits (number (Q.value w)) (2 ^ k) (length old)) × (new ≡ map R.word xs)))
      (λ e. LimbsRefused (IsDigitRadix n k) (Stands Q w) ⊤ e × (new ≡ old))

module _ {A : Type 0} (canon : A → ℕ) where
  -- lists of one length, of so many limbs at most, that make one number modulo m in radix 2^k are one list
  abbrev pub StayApart : ℕ → ℕ → ℕ → Type 0
  StayApart m k count = (xs ys : List A) → length xs ≡ length ys → length xs ≤ count → pack canon xs k m ≡ pack canon ys k m → xs ≡ ys

  -- the greatest count of limbs of a field of order n that stay below the order m in radix 2^k: lists of no more stay
  -- apart where the radix isn't below n
  abbrev pub AnswersLimit : ℕ → ℕ → ℕ → Result ℕ Refusal → Type 0
  AnswersLimit n m k r =
      MatchResult r (λ count. IsRadix k × IsLimit (n - 1) (2 ^ k) m count × (n ≤ 2 ^ k → StayApart m k count))
      (LimbsRefused (IsRadix k) ⊤ ⊥)
