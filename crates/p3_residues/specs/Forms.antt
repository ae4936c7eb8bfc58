-- Words that stand for the residues of an order.
use Rattle.std.specs.Prelude.{◌≡◌, ◌<◌, ◌%◌, ◌^◌, ℕ, refl}
use Rattle.std.proofs.Common.{arith}
use Rattle.std.proofs.Math.Nat.{mod-lt}

-- the words whose number is below the order are one to one onto its residues: `canon` takes a word
-- to its residue, and `word` takes a residue back
pub record IsForm {T : Type 0} (order : ℕ) (number canon : T → ℕ) (word : ℕ → T) : Type 0 where
  pub above_one : 1 < order
  pub fits : order < 2 ^ 64
  pub canon_below : (w : T) → number w < order → canon w < order
  pub word_below : (n : ℕ) → n < order → number (word n) < order
  pub canon_word : (n : ℕ) → n < order → canon (word n) ≡ n
  pub word_canon : (w : T) → number w < order → word (canon w) ≡ w

-- a residue is its own word
pub plain : (order : ℕ) → 1 < order → order < 2 ^ 64 → IsForm order (λ w. w) (λ w. w) (λ n. n)
plain order a f = record {
  above_one = a;
  fits = f;
  canon_below = λ _ h. h;
  word_below = λ _ h. h;
  canon_word = λ _ _. refl;
  word_canon = λ _ _. refl;
}

-- a remainder is below the order
pub remainder_below : (order n : ℕ) → 1 < order → n % order < order
remainder_below order n a = mod-lt n (omega arith)

-- an order that fits a word of 32 bits fits one of 64
pub order_below : (order : ℕ) → order < 2 ^ 31 → order < 2 ^ 64
order_below order f = omega (arith, f)
