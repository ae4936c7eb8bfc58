-- Words that are residues.
use Rattle.std.specs.Prelude.{◌≡◌, ◌<◌, ◌%◌, ℕ, List, slice_index}

-- the word is the number at its index, modulo p
abbrev pub IsResidue : ℕ → (ℕ → ℕ) → ℕ → ℕ → Type 0
IsResidue p number k word = word ≡ number k % p

-- the first n words are the numbers modulo the order
abbrev pub AreResidues : ℕ → ℕ → (ℕ → ℕ) → List ℕ → Type 0
AreResidues n order number words = (k : ℕ) → k < n → IsResidue order number k (slice_index words k)
