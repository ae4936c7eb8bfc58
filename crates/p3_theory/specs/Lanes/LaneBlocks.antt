-- Lists in blocks of w entries, of which each holds one value, and what a block's neighbour holds.
use Rattle.std.specs.Prelude.{◌≡◌, ◌≢◌, ◌<◌, ◌≤◌, ◌+◌, ◌-◌, ◌*◌, ◌/◌, ◌%◌, ◌⊎◌, ℕ, List, length, get_or, slice_get, Some}
use Rattle.std.proofs.Common.{arith, ap, ap₂, sym, subst, ◌∙◌, inl, inr}
use Rattle.std.proofs.Math.Nat.{mul-le-mul_right, div-mul-le_self, lt-div-mul-add}
use Rattle.std.proofs.lemmas.Bool.{cases_lt}
use Rattle.std.proofs.lemmas.List.{get_or_default, get_or_past}
use Rattle.std.proofs.lemmas.Option.{get_or_from_slice_get}
use Rattle.p3_theory.specs.Rings.Ring.{Ops, RingLaws, Invertible}
use Rattle.p3_theory.specs.Rings.ProductLists.{invertible-mul}

-- index k stands in block m of w entries
abbrev pub InBlock : ℕ → ℕ → ℕ → Type 0
InBlock w m k = (m * w ≤ k) × (k < m * w + w)

-- each block holds one value
abbrev pub HoldsBlocks : {A : Type 0} → Ops A → ℕ → List A → Type 0
HoldsBlocks O w xs = (m j k : ℕ) → j < length xs → k < length xs → InBlock w m j → InBlock w m k → get_or xs j O.zero ≡ get_or xs k O.zero

-- blocks 2 * m and 2 * m + 1, of w entries, are a pair: where index k stands in one of them, v is the value with which the other begins, or one where the list ends before
abbrev pub IsNeighbours : {A : Type 0} → Ops A → ℕ → List A → ℕ → ℕ → A → Type 0
IsNeighbours O w xs m k v = (InBlock w (2 * m) k → v ≡ get_or xs ((2 * m + 1) * w) O.one) × (InBlock w (2 * m + 1) k → v ≡ get_or xs (2 * m * w) O.one)

-- at each index below i, ns holds the value with which the other block of its pair begins, or one where the list ends before
abbrev pub HoldsNeighbours : {A : Type 0} → Ops A → ℕ → List A → List A → ℕ → Type 0
HoldsNeighbours O w xs ns i = (m k : ℕ) → k < i → IsNeighbours O w xs m k (get_or ns k O.zero)

-- the n entries have inverses, and stand in blocks of at least size entries, or of just as many where that is less than n, of which each holds one value
abbrev pub Joined : {A : Type 0} → Ops A → ℕ → ℕ → List A → Type 0
Joined O n size xs = (w : ℕ) × (size ≤ w) × (size < n → size ≡ w) × HoldsBlocks O w xs × ((k : ℕ) → k < n → Invertible O (get_or xs k O.zero))

-- an index stands in one block alone
pub one_block : (w m n k : ℕ) → InBlock w m k → InBlock w n k → m ≡ n
one_block w m n k b c =
    elim (cases_lt m n) [
      | inl less ↦ absurd (omega (arith, b.1, c.0, mul-le-mul_right w less))
      | inr more ↦
          elim (cases_lt n m) [
            | inl less ↦ absurd (omega (arith, c.1, b.0, mul-le-mul_right w less))
            | inr least ↦ omega (arith, more, least)
          ]
    ]

-- an index of a block of twice the length stands in one of its two halves
pub halves : (w m k : ℕ) → InBlock (2 * w) m k → InBlock w (2 * m) k ⊎ InBlock w (2 * m + 1) k
halves w m k b =
    elim (cases_lt k (2 * m * w + w)) [
      | inl low ↦ inl (omega (arith, b.0), low)
      | inr high ↦ inr (omega (arith, high), omega (arith, b.1))
    ]

-- the product p of what is read at one index of two lists, where zs holds the products of their entries
pub read-product : {A : Type 0} (O : Ops A) (xs ys zs : List A) (k : ℕ) (a b p : A) → slice_get xs k ≡ Some a → slice_get ys k ≡ Some b → p ≡ O.mul a b
    → get_or zs k O.zero ≡ O.mul (get_or xs k O.zero) (get_or ys k O.zero) → p ≡ get_or zs k O.zero
read-product O xs ys zs k a b p e f product made = product ∙ sym (made ∙ ap₂ O.mul (get_or_from_slice_get xs k a O.zero e) (get_or_from_slice_get ys k b O.zero f))

-- an index stands in the block of its quotient
pub own_block : (w k : ℕ) → 0 < w → InBlock w (k / w) k
own_block w k some = (div-mul-le_self k w, lt-div-mul-add {a = k} {b = w} some)

-- in an odd block, the neighbour is the block before
pub block-before : {A : Type 0} (O : Ops A) (w : ℕ) (xs : List A) (k : ℕ) (v : A) → 0 < w → k / w % 2 ≡ 1 → slice_get xs (k / w * w - w) ≡ Some v → (m : ℕ) → IsNeighbours O w xs m k v
block-before O w xs k v some odd e m = (
  λ b. absurd (omega (arith, odd, one_block w (k / w) (2 * m) k (own_block w k some) b)),
  λ b.
      let start : k / w * w - w ≡ 2 * m * w = omega (arith, ap (λ i. i * w) (one_block w (k / w) (2 * m + 1) k (own_block w k some) b)) in
      sym (get_or_from_slice_get xs _ v O.one e) ∙ ap (λ i. get_or xs i O.one) start,
)

-- and in an even one the block after
after : {A : Type 0} (O : Ops A) (w : ℕ) (xs : List A) (k : ℕ) (v : A) → 0 < w → k / w % 2 ≢ 1 → v ≡ get_or xs (k / w * w + w) O.one → (m : ℕ) → IsNeighbours O w xs m k v
after O w xs k v some even e m = (
  λ b. e ∙ ap (λ i. get_or xs i O.one) (omega (arith, ap (λ i. i * w) (one_block w (k / w) (2 * m) k (own_block w k some) b))),
  λ b. absurd (even (omega (arith, one_block w (k / w) (2 * m + 1) k (own_block w k some) b))),
)

pub block-after : {A : Type 0} (O : Ops A) (w : ℕ) (xs : List A) (k : ℕ) (v : A) → 0 < w → k / w % 2 ≢ 1 → slice_get xs (k / w * w + w) ≡ Some v → (m : ℕ) → IsNeighbours O w xs m k v
block-after O w xs k v some even e = after O w xs k v some even (sym (get_or_from_slice_get xs (k / w * w + w) v O.one e))

-- where the list ends before that, the neighbour is one
pub last-block : {A : Type 0} (O : Ops A) (w : ℕ) (xs : List A) (k : ℕ) (v : A) → 0 < w → k / w % 2 ≢ 1 → length xs ≤ k / w * w + w → v ≡ O.one → (m : ℕ) → IsNeighbours O w xs m k v
last-block O w xs k v some even past e = after O w xs k v some even (e ∙ sym (get_or_past xs (k / w * w + w) O.one past))

module _ {A : Type 0} {O : Ops A} (r : RingLaws O) where
  -- the value with which a block begins is that at each of its indices
  begins : (w : ℕ) (xs : List A) → HoldsBlocks O w xs → (m k : ℕ) → k < length xs → InBlock w m k → get_or xs (m * w) O.one ≡ get_or xs k O.zero
  begins w xs same m k h b =
      let inside : m * w < length xs = omega (arith, h, b.0) in
      let start : m * w < m * w + w = omega (arith, b.0, b.1) in
      let from : m * w ≤ m * w = omega arith in
      get_or_default xs (m * w) O.one O.zero inside ∙ same m (m * w) k inside h (from, start) b

  -- where each entry is multiplied by what the neighbour holds, blocks of twice the length hold one value each
  pub blocks-doubled : (w : ℕ) (xs ns ys : List A) → length ys ≡ length xs → HoldsBlocks O w xs → HoldsNeighbours O w xs ns (length xs)
      → ((k : ℕ) → k < length xs → get_or ys k O.zero ≡ O.mul (get_or xs k O.zero) (get_or ns k O.zero)) → HoldsBlocks O (2 * w) ys
  blocks-doubled w xs ns ys long same near made m j k bj bk hj hk =
      let jn : j < length xs = omega (arith, bj, long) in
      let kn : k < length xs = omega (arith, bk, long) in
      elim (halves w m j hj) [
        | inl lj ↦
            elim (halves w m k hk) [
              | inl lk ↦ made j jn ∙ ap₂ O.mul (same (2 * m) j k jn kn lj lk) ((near m j jn).0 lj ∙ sym ((near m k kn).0 lk)) ∙ sym (made k kn)
              | inr uk ↦ across j k jn kn lj uk
            ]
        | inr uj ↦
            elim (halves w m k hk) [
              | inl lk ↦ sym (across k j kn jn lk uj)
              | inr uk ↦ made j jn ∙ ap₂ O.mul (same (2 * m + 1) j k jn kn uj uk) ((near m j jn).1 uj ∙ sym ((near m k kn).1 uk)) ∙ sym (made k kn)
            ]
      ]
    where
      across : (j k : ℕ) → j < length xs → k < length xs → InBlock w (2 * m) j → InBlock w (2 * m + 1) k → get_or ys j O.zero ≡ get_or ys k O.zero
      across j k jn kn lj uk =
          made j jn ∙ ap (O.mul (get_or xs j O.zero)) ((near m j jn).0 lj ∙ begins w xs same (2 * m + 1) k kn uk) ∙ r.mul_comm _ _
          ∙ sym (made k kn ∙ ap (O.mul (get_or xs k O.zero)) ((near m k kn).1 uk ∙ begins w xs same (2 * m) j jn lj))

  -- neighbours of entries that have inverses have inverses
  pub neighbours-invertible : (w : ℕ) (xs ns : List A) → 0 < w → HoldsNeighbours O w xs ns (length xs) → ((k : ℕ) → k < length xs → Invertible O (get_or xs k O.zero))
      → (k : ℕ) → k < length xs → Invertible O (get_or ns k O.zero)
  neighbours-invertible w xs ns some near each k h =
      let m = k / (2 * w) in
      let wide : 0 < 2 * w = omega (arith, some) in
      let b : InBlock (2 * w) m k = own_block (2 * w) k wide in
      elim (halves w m k b) [
        | inl low ↦ subst (Invertible O) (sym ((near m k h).0 low)) (or-one ((2 * m + 1) * w))
        | inr high ↦ subst (Invertible O) (sym ((near m k h).1 high)) (or-one (2 * m * w))
      ]
    where
      or-one : (i : ℕ) → Invertible O (get_or xs i O.one)
      or-one i =
          elim (cases_lt i (length xs)) [
            | inl inside ↦ subst (Invertible O) (get_or_default xs i O.zero O.one inside) (each i inside)
            | inr outside ↦ subst (Invertible O) (sym (get_or_past xs i O.one outside)) (O.one, r.mul_one O.one)
          ]

  -- a block of one entry holds one value
  pub blocks-single : (xs : List A) → HoldsBlocks O 1 xs
  blocks-single xs m j k jn kn a b = ap (λ i. get_or xs i O.zero) (omega (arith, a, b))

  pub joined-more : (n w next : ℕ) (xs ns ys : List A) → length xs ≡ n → length ys ≡ n → 0 < w → next ≤ 2 * w → (next < n → next ≡ 2 * w) → HoldsBlocks O w xs
      → ((k : ℕ) → k < n → Invertible O (get_or xs k O.zero)) → HoldsNeighbours O w xs ns n → ((k : ℕ) → k < n → get_or ys k O.zero ≡ O.mul (get_or xs k O.zero) (get_or ns k O.zero))
      → Joined O n next ys
  joined-more n w next xs ns ys lx ly some most whole same each near made =
      let near' : HoldsNeighbours O w xs ns (length xs) = subst (HoldsNeighbours O w xs ns) (sym lx) near in
      let each' : (k : ℕ) → k < length xs → Invertible O (get_or xs k O.zero) = λ k b. each k (omega (arith, b, lx)) in (
        2 * w,
        most,
        whole,
        blocks-doubled w xs ns ys (ly ∙ sym lx) same near' (λ k b. made k (omega (arith, b, lx))),
        λ k b.
            let inside : k < length xs = omega (arith, b, lx) in
            subst (Invertible O) (sym (made k b)) (invertible-mul r _ _ (each k b) (neighbours-invertible w xs ns some near' each' k inside)),
      )

  -- in the end all entries are one value
  pub joined-whole : (n size : ℕ) (xs : List A) → length xs ≡ n → n ≤ size → Joined O n size xs → (j k : ℕ) → j < n → k < n → get_or xs j O.zero ≡ get_or xs k O.zero
  joined-whole n size xs long all held j k jn kn =
      let first : (i : ℕ) → i < n → InBlock held.0 0 i = λ i b. (omega arith, omega (arith, b, all, held.1)) in
      held.3 0 j k (omega (arith, jn, long)) (omega (arith, kn, long)) (first j jn) (first k kn)
