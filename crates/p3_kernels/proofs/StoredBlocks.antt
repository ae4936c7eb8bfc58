-- Slices that are written from the front, by blocks and word by word.
use Rattle.std.proofs.Common.{get_or, ◌≡◌, ℕ, ◌+◌, ◌-◌, ◌*◌, ◌%◌, ◌^◌, ◌<◌, ◌≤◌, inl, inr, List, length, arith, ◌∙◌, sym, ap, subst}
use Rattle.std.proofs.Math.ListN.{set}
use Rattle.std.proofs.lemmas.Bool.Decides.{leb_tells}
use Rattle.std.proofs.lemmas.Grind.{get_or-set_at}
use Rattle.std.proofs.lemmas.List.{get_or-set_other}
use Rattle.std.proofs.lemmas.Simd.{get_or-chunk, get_or-put_chunk_above, get_or-put_chunk_at, get_or-put_chunk_below}
use Rattle.p3_kernels.proofs.HalfLanes.{by_blocks}
use Rattle.p3_kernels.specs.Words.{AreBelow, AreReduced, block_at, product_at}
use lib.Lanes.{put_chunk}

-- the words before i have the property of their index
abbrev pub Hold : (ℕ → ℕ → Type 0) → List ℕ → ℕ → Type 0
Hold P words i = (k : ℕ) → k < i → P k (get_or words k 0)

-- those from i on are what they were
abbrev pub Unchanged : List ℕ → List ℕ → ℕ → Type 0
Unchanged old words i = (k : ℕ) → i ≤ k → get_or words k 0 ≡ get_or old k 0

-- the word is below p, and times 2^32 it is the number
abbrev pub IsReduced : ℕ → (ℕ → ℕ) → ℕ → ℕ → Type 0
IsReduced p number k word = (word < p) × ((word * 2 ^ 32) % p ≡ number k % p)

-- a block of n words is stored at i
module _ (P : ℕ → ℕ → Type 0) (i n : ℕ) (words block : List ℕ) (size : length block ≡ n) (room : i + n ≤ length words) (old : Hold P words i) where
  pub block-stored : ((k : ℕ) → k < n → P (i + k) (get_or block k 0)) → Hold P (put_chunk i words block) (i + n)
  block-stored new k l =
      elim (leb_tells i k) [
        | inr h ↦ subst (P k) (sym (get_or-put_chunk_below i words block k 0 h.1)) (old k h.1)
        | inl h ↦
            (let e : i + (k - i) ≡ k = omega (arith, h.1) in
            let inside : k - i < n = omega (arith, h.1) in
            let at : get_or (put_chunk i words block) (i + (k - i)) 0 ≡ get_or block (k - i) 0 = get_or-put_chunk_at i words block (k - i) 0 (omega arith) (omega arith) in
            subst (λ m. P m (get_or (put_chunk i words block) m 0)) e (subst (P (i + (k - i))) (sym at) (new (k - i) inside)))
      ]

-- one word is stored at i
pub word-stored : (P : ℕ → ℕ → Type 0) (i v : ℕ) (words : List ℕ) → i < length words → Hold P words i → P i v → Hold P (set words i v) (i + 1)
word-stored P i v words room old new k l =
    elim (leb_tells i k) [
      | inr h ↦ subst (P k) (sym (get_or-set_other words i k v 0 (λ q. absurd (omega (arith, q, h.1))))) (old k h.1)
      | inl h ↦
          (let e : k ≡ i = omega (arith, h.1) in
          subst (P k) (sym (get_or-set_at words i k v 0 e room)) (subst (λ m. P m v) (sym e) new))
    ]

pub block-unchanged : (i n : ℕ) (old words block : List ℕ) → length block ≡ n → Unchanged old words i → Unchanged old (put_chunk i words block) (i + n)
block-unchanged i n old words block size same k l = get_or-put_chunk_above i words block k 0 (omega arith) ∙ same k (omega arith)

pub word-unchanged : (i v : ℕ) (old words : List ℕ) → Unchanged old words i → Unchanged old (set words i v) (i + 1)
word-unchanged i v old words same k l = get_or-set_other words i k v 0 (λ q. absurd (omega (arith, q, l))) ∙ same k (omega arith)

-- the words of a block are below p if those of the row are
pub block-below : (p i n m : ℕ) (row : List ℕ) → i + n ≤ m → AreBelow m p row → AreBelow n p (block_at i n row)
block-below p i n m row room below k l = rw (get_or-chunk i n row k 0 l) (below (i + k) (omega (arith, room, l)))

-- the products of two blocks are those of the rows so much further on
pub block-products : (i n : ℕ) (left right : List ℕ) (k : ℕ) → k < n → product_at (block_at i n left) (block_at i n right) k ≡ product_at left right (i + k)
block-products i n left right k l = λ ι. get_or-chunk i n left k 0 l ι * get_or-chunk i n right k 0 l ι

-- and so where the words from i on are unchanged
pub loaded-below : (p i n : ℕ) (old words : List ℕ) → i + n ≤ length old → Unchanged old words i → AreBelow (length old) p old → AreBelow n p (block_at i n words)
loaded-below p i n old words room same below k l = rw (get_or-chunk i n words k 0 l) (rw (same (i + k) (omega arith)) (below (i + k) (omega arith)))

pub loaded-products : (i n : ℕ) (old words factors : List ℕ) → Unchanged old words i → (k : ℕ) → k < n
    → product_at (block_at i n words) (block_at i n factors) k ≡ product_at old factors (i + k)
loaded-products i n old words factors same k l = block-products i n words factors k l ∙ ap (λ z. z * get_or factors (i + k) 0) (same (i + k) (omega arith))

-- the residues of a block are those of the numbers from i on
pub reduced-block : (p i n : ℕ) (number other : ℕ → ℕ) (block : List ℕ) → AreBelow n p block → AreReduced n p other block
    → ((k : ℕ) → k < n → other k ≡ number (i + k)) → (k : ℕ) → k < n → IsReduced p number (i + k) (get_or block k 0)
reduced-block p i n number other block below value same k l = (below k l, value k l ∙ ap (λ z. z % p) (same k l))

-- words that are joined from two blocks of h words
module _ (p h : ℕ) (words lows highs : List ℕ) (low : block_at 0 h words ≡ lows) (high : block_at h h words ≡ highs) where
  low_is : (k : ℕ) → k < h → get_or lows k 0 ≡ get_or words k 0
  low_is k l = ap (λ v. get_or v k 0) (sym low) ∙ get_or-chunk 0 h words k 0 l ∙ ap (λ i. get_or words i 0) (let e : 0 + k ≡ k = omega arith in e)

  high_is : (k : ℕ) → k < h → get_or highs k 0 ≡ get_or words (h + k) 0
  high_is k l = ap (λ v. get_or v k 0) (sym high) ∙ get_or-chunk h h words k 0 l

  pub joined-below : AreBelow h p lows → AreBelow h p highs → AreBelow (h + h) p words
  joined-below a b = by_blocks h (λ k. get_or words k 0 < p) (λ k l. subst (λ z. z < p) (low_is k l) (a k l)) (λ k l. subst (λ z. z < p) (high_is k l) (b k l))

  pub joined-reduced : (number first last : ℕ → ℕ) → AreReduced h p first lows → AreReduced h p last highs → ((k : ℕ) → k < h → first k ≡ number (0 + k)) → ((k : ℕ) → k < h → last k ≡ number (h + k))
      → AreReduced (h + h) p number words
  joined-reduced number first last a b e f =
      by_blocks h (λ k. (get_or words k 0 * 2 ^ 32) % p ≡ number k % p)
      (λ k l. ap (λ z. (z * 2 ^ 32) % p) (sym (low_is k l)) ∙ a k l ∙ ap (λ z. z % p) (e k l ∙ ap number (let z : 0 + k ≡ k = omega arith in z)))
      (λ k l. ap (λ z. (z * 2 ^ 32) % p) (sym (high_is k l)) ∙ b k l ∙ ap (λ z. z % p) (f k l))
