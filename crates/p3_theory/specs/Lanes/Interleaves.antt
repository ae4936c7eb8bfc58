-- Two lists interleaved by blocks.
use Rattle.std.specs.Prelude.{◌≡◌, ◌<◌, ◌+◌, ◌-◌, ◌/◌, ◌%◌, ℕ, List, get_or}

-- The lists us and vs are xs and ys of w items, interleaved by blocks of l items: the even blocks of us
-- and vs are an even block of xs and the block after it, the odd ones an odd block's forerunner of ys and
-- the block itself. Blocks as long as the lists leave both as they are.
pub record Interleaves {A : Type 0} (l w : ℕ) (xs ys us vs : List A) : Type 0 where
  pub even : l < w → (d : A) (i : ℕ) → i < w → (i / l) % 2 ≡ 0 → (get_or us i d ≡ get_or xs i d) × (get_or vs i d ≡ get_or xs (i + l) d)
  pub odd : l < w → (d : A) (i : ℕ) → i < w → (i / l) % 2 ≡ 1 → (get_or us i d ≡ get_or ys (i - l) d) × (get_or vs i d ≡ get_or ys i d)
  pub whole : l ≡ w → (us ≡ xs) × (vs ≡ ys)
