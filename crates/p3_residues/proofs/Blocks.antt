-- A loop that loads a block of n lanes at i, computes on each lane with p, and stores the block.
use Rattle.std.proofs.Common.{get_or, ◌≡◌, ℕ, ◌+◌, ◌-◌, ◌^◌, ◌<◌, ◌≤◌, inl, inr, List, length, arith, ◌∙◌, subst}
use Rattle.std.proofs.lemmas.Bool.Decides.{leb_tells}
use Rattle.std.proofs.lemmas.Simd.{get_or-chunk, get_or-put_chunk_below, get_or-put_chunk_at, get_or-replicate}
use lib.Lanes.{chunk, put_chunk}
use lib.ListN.{replicate}

-- each lane of a splat of p
pub held : (p n : ℕ) → p ≤ 2 ^ 31 → (k : ℕ) → k < n → get_or (replicate n p) k 0 ≤ 2 ^ 31
held p n o k l = rw (get_or-replicate n k p 0 l) o

-- the lanes of a load are below p
pub loaded : (p i n m : ℕ) (xs : List ℕ) → i + n ≤ m → ((k : ℕ) → k < m → get_or xs k 0 < p) → (k : ℕ) → k < n → get_or (chunk i n xs) k 0 < get_or (replicate n p) k 0
loaded p i n m xs h e k l = rw (get_or-replicate n k p 0 l) (rw (get_or-chunk i n xs k 0 l) (e (i + k) (omega arith)))

-- one block more is stored
pub stored : (f : ℕ → ℕ → ℕ → ℕ) (p i n : ℕ) (xs ys zs vs : List ℕ) → length vs ≡ n → i + n ≤ length zs
    → ((k : ℕ) → k < n → get_or vs k 0 ≡ f (get_or (chunk i n xs) k 0) (get_or (chunk i n ys) k 0) (get_or (replicate n p) k 0))
    → ((k : ℕ) → k < i → get_or zs k 0 ≡ f (get_or xs k 0) (get_or ys k 0) p)
    → (k : ℕ) → k < i + n → get_or (put_chunk i zs vs) k 0 ≡ f (get_or xs k 0) (get_or ys k 0) p
stored f p i n xs ys zs vs lv hz e old k l =
    elim (leb_tells i k) [
      | inr h ↦ get_or-put_chunk_below i zs vs k 0 h.1 ∙ old k h.1
      | inl h ↦
          (let kj : i + (k - i) ≡ k = omega (arith, h.1) in
          let jn : k - i < n = omega (arith, h.1) in
          let jl : k - i < length vs = omega arith in
          let rz : i + length vs ≤ length zs = omega arith in
          let P : ℕ → Type 0 = λ m. get_or (put_chunk i zs vs) m 0 ≡ f (get_or xs m 0) (get_or ys m 0) p in
          subst P kj
          (get_or-put_chunk_at i zs vs (k - i) 0 jl rz
          ∙ e (k - i) jn
          ∙ (λ ι. f (get_or-chunk i n xs (k - i) 0 jn ι) (get_or-chunk i n ys (k - i) 0 jn ι) (get_or-replicate n (k - i) p 0 jn ι))))
    ]
