-- Words of 32 bits as halves of numbers of 64 bits.
use Rattle.std.specs.Prelude.{◌≡◌, ◌<◌, ◌+◌, ◌*◌, ◌%◌, ◌^◌, ℕ, List, slice_index}

-- the first h pairs are the words at the even indices, and 2^32 times those at the odd ones
abbrev pub ArePairs : ℕ → List ℕ → List ℕ → Type 0
ArePairs h words pairs = (k : ℕ) → k < h → slice_index pairs k ≡ slice_index words (2 * k) + 2 ^ 32 * slice_index words (2 * k + 1)

-- the multiple of the order by the low 32 bits of the number, which are multiplied by i modulo 2^32: where i
-- is the order's inverse there, the multiple ends in the number's low 32 bits
abbrev pub multiple : ℕ → ℕ → ℕ → ℕ
multiple order i number = (number % 2 ^ 32 * i) % 2 ^ 32 * order
