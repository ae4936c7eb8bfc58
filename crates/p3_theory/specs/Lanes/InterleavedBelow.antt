-- Lists interleaved up to an index.
use Rattle.std.specs.Prelude.{◌≡◌, ◌≢◌, ◌<◌, ◌≤◌, ◌+◌, ◌-◌, ◌*◌, ◌/◌, ◌%◌, ◌^◌, ℕ, List, get_or, length}
use Rattle.std.proofs.Common.{arith, ap, sym, subst, ◌∙◌, zero, suc, inl, inr}
use Rattle.std.proofs.Math.ListN.{set, length-set}
use Rattle.std.proofs.Math.Nat.{div-add-mod, mod-lt, mod-eq_of_lt, mul-le-mul_right, pow-suc}
use Rattle.std.proofs.lemmas.List.{get_or-set_same, get_or-set_other, get_or_default}
use Rattle.std.proofs.lemmas.Bool.{cases_order, cases_eq}
use Rattle.std.proofs.lemmas.Nat.{pow_pos, div_below}

-- the first i items of us and vs are those of xs and ys, interleaved by blocks of l
pub record InterleavedBelow {A : Type 0} (l i : ℕ) (xs ys us vs : List A) : Type 0 where
  pub even : (d : A) (k : ℕ) → k < i → (k / l) % 2 ≡ 0 → (get_or us k d ≡ get_or xs k d) × (get_or vs k d ≡ get_or xs (k + l) d)
  pub odd : (d : A) (k : ℕ) → k < i → (k / l) % 2 ≡ 1 → (get_or us k d ≡ get_or ys (k - l) d) × (get_or vs k d ≡ get_or ys k d)

-- a block of 2^k items that is less than 2^m items goes an even number of times into them
halves : (m k : ℕ) → 2 ^ k < 2 ^ m → (q : ℕ) × (2 ^ m ≡ 2 * (q * 2 ^ k))
halves zero k h = absurd (omega (arith, h, pow_pos k))
halves (suc m) zero h = (2 ^ m, omega (arith, pow-suc 2 m))
halves (suc m) (suc k) h =
    let r = halves m k (omega (arith, h, pow-suc 2 m, pow-suc 2 k)) in
    let twice : r.0 * 2 ^ suc k ≡ r.0 * (2 * 2 ^ k) = ap (λ x. r.0 * x) (omega (arith, pow-suc 2 k)) in
    (r.0, omega (arith, pow-suc 2 m, r.1, twice))

below_multiple : (n l : ℕ) → 0 < n → n % l ≡ 0 → l ≢ n → l < n
below_multiple n l t e d = elim (cases_order l n) [
  | inl same ↦ absurd (d same)
  | inr other ↦ elim other [
    | inl below ↦ below
    | inr above ↦ absurd (omega (arith, t, e, mod-eq_of_lt above))
  ]
]

-- after an item of an even block the next block has one
pub pair_after : (n l i : ℕ) → (m : ℕ) × (n ≡ 2 ^ m) → (k : ℕ) × (l ≡ 2 ^ k) → n % l ≡ 0 → l ≢ n → i < n → (i / l) % 2 ≡ 0 → i + l < n
pair_after n l i (m, en) (k, el) e d h p =
    let some : 0 < l = omega (arith, el, pow_pos k) in
    let below : l < n = below_multiple n l (omega (arith, h)) e d in
    let r = halves m k (omega (arith, below, en, el)) in
    let turned : r.0 * 2 ^ k ≡ r.0 * l = ap (λ x. r.0 * x) (sym el) in
    let whole : n ≡ 2 * r.0 * l = omega (arith, en, r.1, turned) in
    let block : i / l < 2 * r.0 = div_below i l (2 * r.0) some (omega (arith, h, whole)) in
    let pair : i / l + 2 ≤ 2 * r.0 = omega (arith, block, p, div-add-mod (i / l) 2) in
    let room : (i / l + 2) * l ≤ 2 * r.0 * l = mul-le-mul_right l pair in
    omega (arith, room, whole, div-add-mod i l, mod-lt i some)

-- before an item of an odd block the block before it has one
pub pair_before : (l i : ℕ) → (i / l) % 2 ≡ 1 → l ≤ i
pair_before l i p =
    let one : 1 ≤ i / l = omega (arith, p, div-add-mod (i / l) 2) in
    let room : 1 * l ≤ i / l * l = mul-le-mul_right l one in
    omega (arith, room, div-add-mod i l)

-- one more item of both
module _ {A : Type 0} (l i n : ℕ) (xs ys us vs us' vs' : List A) (a b : A) (within : i < n) (ls : length us ≡ n) (ms : length vs ≡ n)
    (eu : us' ≡ set us i a) (ev : vs' ≡ set vs i b) (before : InterleavedBelow l i xs ys us vs) where
  written : (d : A) → (get_or us' i d ≡ a) × (get_or vs' i d ≡ b)
  written d = (
    ap (λ z. get_or z i d) eu ∙ get_or-set_same us i a d (omega (arith, within, ls)),
    ap (λ z. get_or z i d) ev ∙ get_or-set_same vs i b d (omega (arith, within, ms)),
  )

  kept : (d : A) (k : ℕ) → k ≢ i → (get_or us' k d ≡ get_or us k d) × (get_or vs' k d ≡ get_or vs k d)
  kept d k h = (
    ap (λ z. get_or z k d) eu ∙ get_or-set_other us i k a d h,
    ap (λ z. get_or z k d) ev ∙ get_or-set_other vs i k b d h,
  )

  more : ((i / l) % 2 ≡ 0 → (d : A) → (a ≡ get_or xs i d) × (b ≡ get_or xs (i + l) d))
      → ((i / l) % 2 ≡ 1 → (d : A) → (a ≡ get_or ys (i - l) d) × (b ≡ get_or ys i d))
      → (length us' ≡ n) × (length vs' ≡ n) × InterleavedBelow l (i + 1) xs ys us' vs'
  more even odd = (
    ap length eu ∙ length-set us i a ∙ ls,
    ap length ev ∙ length-set vs i b ∙ ms,
    record {
      even = λ d k h p. elim (cases_eq k i) [
        | inl same ↦
            let w = even (sym (ap (λ j. (j / l) % 2) same) ∙ p) d in
            let at : (get_or us' i d ≡ get_or xs i d) × (get_or vs' i d ≡ get_or xs (i + l) d) = ((written d).0 ∙ w.0, (written d).1 ∙ w.1) in
            subst (λ j. (get_or us' j d ≡ get_or xs j d) × (get_or vs' j d ≡ get_or xs (j + l) d)) (sym same) at
        | inr other ↦ let w = before.even d k (omega (arith, h, other)) p in ((kept d k other).0 ∙ w.0, (kept d k other).1 ∙ w.1)
      ];
      odd = λ d k h p. elim (cases_eq k i) [
        | inl same ↦
            let w = odd (sym (ap (λ j. (j / l) % 2) same) ∙ p) d in
            let at : (get_or us' i d ≡ get_or ys (i - l) d) × (get_or vs' i d ≡ get_or ys i d) = ((written d).0 ∙ w.0, (written d).1 ∙ w.1) in
            subst (λ j. (get_or us' j d ≡ get_or ys (j - l) d) × (get_or vs' j d ≡ get_or ys j d)) (sym same) at
        | inr other ↦ let w = before.odd d k (omega (arith, h, other)) p in ((kept d k other).0 ∙ w.0, (kept d k other).1 ∙ w.1)
      ];
    },
  )

-- of an even block, and of an odd one
module _ {A : Type 0} (l i n : ℕ) (xs ys us vs us' vs' : List A) (a b : A) (within : i < n) (ls : length us ≡ n) (ms : length vs ≡ n) where
  pub even_more : length xs ≡ n → i + l < n → (i / l) % 2 ≡ 0 → us' ≡ set us i (get_or xs i a) → vs' ≡ set vs i (get_or xs (i + l) b)
      → InterleavedBelow l i xs ys us vs → (length us' ≡ n) × (length vs' ≡ n) × InterleavedBelow l (i + 1) xs ys us' vs'
  even_more ks next p eu ev before =
      more l i n xs ys us vs us' vs' (get_or xs i a) (get_or xs (i + l) b) within ls ms eu ev before
      (λ _ d. (get_or_default xs i a d (omega (arith, within, ks)), get_or_default xs (i + l) b d (omega (arith, next, ks)))) (λ q. absurd (omega (arith, p, q)))

  pub odd_more : length ys ≡ n → (i / l) % 2 ≢ 0 → us' ≡ set us i (get_or ys (i - l) a) → vs' ≡ set vs i (get_or ys i b)
      → InterleavedBelow l i xs ys us vs → (length us' ≡ n) × (length vs' ≡ n) × InterleavedBelow l (i + 1) xs ys us' vs'
  odd_more ks p eu ev before =
      more l i n xs ys us vs us' vs' (get_or ys (i - l) a) (get_or ys i b) within ls ms eu ev before (λ q. absurd (p q))
      (λ _ d. (get_or_default ys (i - l) a d (omega (arith, within, ks)), get_or_default ys i b d (omega (arith, within, ks))))
