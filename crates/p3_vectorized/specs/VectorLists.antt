-- The lanes of a vector of packings as one list.
use Rattle.std.specs.Prelude.{◌≡◌, ◌≢◌, ◌<◌, ◌≤◌, ◌+◌, ◌-◌, ◌*◌, ◌/◌, ◌%◌, ◌^◌, ℕ, suc, min, List, length, get_or, take, drop, replicate, slice_get, slice_range, slice_set, Some, refl}
use Rattle.std.proofs.Common.{arith, ap, sym, subst, ◌∙◌, inl, inr}
use Rattle.std.proofs.lemmas.Bool.{cases_lt, cases_eq}
use Rattle.std.proofs.lemmas.List.{get_or-replicate, get_or-set_same, get_or-set_other, get_or-take, get_or-drop, length-replicate, length-set}
use Rattle.std.proofs.lemmas.Nat.{div-mul-add, mod-mul-add, div-add-mod'}
use Rattle.std.proofs.lemmas.Option.{slice_get-get_or, get_or_from_slice_get}
use Rattle.std.proofs.Math.Nat.{mod-lt, mul_comm, suc-mul, mul-le-mul_right, div-mul-le_self, min-le_left, min-eq_left}
use borrow.Author.Count.{below_more}
use Rattle.p3_theory.specs.Polynomials.Polynomial.{at, tabulate}
use Rattle.p3_theory.specs.Polynomials.Coefficients.{length-tabulate}
use Rattle.p3_theory.specs.Lists.ByIndex.{get-tabulate, to-tabulate, read_at}
use Rattle.p3_theory.specs.Lists.TabulatedEntries.{HoldsBelow, holds-more, holds-all}
use Rattle.p3_theory.specs.Rings.Ring.{Ops}
use Rattle.p3_theory.specs.Lanes.Lanes.{at_replicate}
use Rattle.p3_theory.specs.Lanes.Rows.{Row}
use Rattle.p3_theory.specs.Lanes.VectorLanes.{vector_lane, some-width, part-below}

-- the number of lanes of n packings of w lanes, and the greatest usize where there are more
abbrev pub lane_count : ℕ → ℕ → ℕ
lane_count w n = min (w * n) (2 ^ 64 - 1)

-- it is the number of all lanes where a usize holds that
pub all-counted : (w n : ℕ) → w * n < 2 ^ 64 → lane_count w n ≡ w * n
all-counted w n h = min-eq_left {n = w * n} {m = 2 ^ 64 - 1} (omega (arith, h))

pub counted-lane : (w n i : ℕ) → i < lane_count w n → i < w * n
counted-lane w n i h = omega (arith, h, min-le_left (w * n) (2 ^ 64 - 1))

-- the lanes of a vector of packings of w lanes: those of its packings, one packing after the other
abbrev pub vector_lanes : {P B : Type 0} {n : ℕ} → Ops P → Ops B → (P → List B) → ℕ → Row P n → List B
vector_lanes {n = n} O Q lanes w v = tabulate (lane_count w n) (λ i. vector_lane O Q lanes w i v)

pub length-lanes : {P B : Type 0} {n : ℕ} (O : Ops P) (Q : Ops B) (lanes : P → List B) (w : ℕ) (v : Row P n) → length (vector_lanes O Q lanes w v) ≡ lane_count w n
length-lanes {n = n} O Q lanes w v = length-tabulate (lane_count w n) (λ i. vector_lane O Q lanes w i v)

-- item j of w items from a on
range-item : {B : Type 0} (s : List B) (a w j : ℕ) (d : B) → j < w → get_or (slice_range s a (a + w)) j d ≡ get_or s (a + j) d
range-item s a w j d h =
    let within : j < a + w - a = omega (arith, h) in
    get_or-take (a + w - a) (drop a s) j d within ∙ get_or-drop a s j d

-- a group that lies whole among t items
pub group-whole : (w t i : ℕ) → i < t / w → i * w + w ≤ t
group-whole w t i h =
    let next : suc i ≤ t / w = omega (arith, h) in
    omega (arith, mul-le-mul_right w next, suc-mul i w, div-mul-le_self t w)

-- it is one of n where there are no more items than n groups have
pub group-below : (w n i : ℕ) → 0 < w → i * w + w ≤ w * n → i < n
group-below w n i some h = elim (cases_lt i n) [ inl lt ↦ lt | inr ge ↦ absurd (omega (arith, h, some, mul-le-mul_right w ge, mul_comm w n)) ]

-- a group of those that lie whole among the lanes that are counted
pub group-counted : (w n t u i : ℕ) → u ≡ w → 0 < w → t ≡ lane_count w n → i < t / u → (i < n) × (i * w + w ≤ t)
group-counted w n t u i e some l h =
    let whole : i * w + w ≤ t = subst (λ x. i * x + x ≤ t) e (group-whole u t i h) in
    (group-below w n i some (omega (arith, whole, l, min-le_left (w * n) (2 ^ 64 - 1))), whole)

module _ {B : Type 0} (Q : Ops B) (s : List B) where
  -- one value more of a list is written
  pub value-loaded : (old new : List B) (i : ℕ) (x : B) → i < length s → length old ≡ length s → x ≡ at Q s i → new ≡ slice_set old i x → HoldsBelow (at Q s) Q.zero old i
      → HoldsBelow (at Q s) Q.zero new (i + 1)
  value-loaded old new i x b l g e h = subst (λ r. HoldsBelow (at Q s) Q.zero r (i + 1)) (sym e) (holds-more (at Q s) Q.zero old i x (omega (arith, b, l)) h g)

  -- all of them
  pub values-loaded : (r : List B) (i : ℕ) → length r ≡ length s → length s ≤ i → HoldsBelow (at Q s) Q.zero r i → r ≡ s
  values-loaded r i l le h = holds-all (at Q s) Q.zero r (length s) l (λ k b. h k (omega (arith, b, le))) ∙ sym (to-tabulate Q.zero (length s) (at Q s) s refl (λ k b. refl))

module _ {P B : Type 0} (O : Ops P) (Q : Ops B) (lanes : P → List B) (w : ℕ) where
  -- lane i of a list of packings
  abbrev pub lane_at : List P → ℕ → B
  lane_at xs i = get_or (lanes (get_or xs (i / w) O.zero)) (i % w) Q.zero

  module _ {n : ℕ} where
    -- a list with these lanes is the list of them
    pub lanes_by : (v : Row P n) (xs : List P) (r : List B) → v.items ≡ xs → length r ≡ lane_count w n → HoldsBelow (lane_at xs) Q.zero r (lane_count w n) → vector_lanes O Q lanes w v ≡ r
    lanes_by v xs r e l h = sym (to-tabulate Q.zero (lane_count w n) (λ i. vector_lane O Q lanes w i v) r l (λ i b. h i b ∙ ap (λ k. lane_at k i) (sym e)))

    -- one value in all lanes of each packing
    pub lanes-replicate : (v : Row P n) (p : P) (x : B) → v.items ≡ replicate n p → lanes p ≡ replicate w x → vector_lanes O Q lanes w v ≡ replicate (lane_count w n) x
    lanes-replicate v p x e k =
        lanes_by v (replicate n p) (replicate (lane_count w n) x) e (length-replicate (lane_count w n) x)
        (λ i h.
        let b : i < w * n = counted-lane w n i h in
        get_or-replicate (lane_count w n) i x Q.zero h
        ∙ sym
        (ap (λ q. get_or (lanes q) (i % w) Q.zero) (get_or-replicate n (i / w) p O.zero (part-below w n i b))
        ∙ at_replicate w (i % w) x Q.zero (lanes p) (mod-lt i (some-width w n i b)) k))

    -- packings of the first m groups of a list
    pub lanes-groups : (v : Row P n) (xs : List P) (s : List B) (m : ℕ) → v.items ≡ xs → m * w ≤ lane_count w n
        → ((d : P) (k : ℕ) → k < m → lanes (get_or xs k d) ≡ slice_range s (k * w) (k * w + w)) → HoldsBelow (at Q s) Q.zero (vector_lanes O Q lanes w v) (m * w)
    lanes-groups v xs s m e l known i h =
        let turned : m * w ≡ w * m = mul_comm m w in
        let b : i < w * m = omega (arith, h, turned) in
        let counted : i < lane_count w n = omega (arith, h, l) in
        get-tabulate (lane_count w n) (λ k. vector_lane O Q lanes w k v) i Q.zero counted ∙ ap (λ k. lane_at k i) e
        ∙ ap (λ r. get_or r (i % w) Q.zero) (known O.zero (i / w) (part-below w m i b))
        ∙ range-item s (i / w * w) w (i % w) Q.zero (mod-lt i (some-width w m i b))
        ∙ ap (λ k. get_or s k Q.zero) (div-add-mod' i w)

    -- the lane that is read of a packing
    pub lane-read : (v : Row P n) (i : ℕ) (r : B) → i < lane_count w n → r ≡ vector_lane O Q lanes w i v → slice_get (vector_lanes O Q lanes w v) i ≡ Some r
    lane-read v i r h e =
        let within : i < length (vector_lanes O Q lanes w v) = omega (arith, h, length-lanes O Q lanes w v) in
        slice_get-get_or (vector_lanes O Q lanes w v) i Q.zero within ∙ ap (λ y. Some y) (get-tabulate (lane_count w n) (λ i. vector_lane O Q lanes w i v) i Q.zero h ∙ sym e)

    -- what is read of all lanes, one more and all of them
    pub lane-stored : (v : Row P n) (old : List B) (i : ℕ) (x : B) → i < length old → length old ≡ lane_count w n → slice_get (vector_lanes O Q lanes w v) i ≡ Some x
        → HoldsBelow (lane_at v.items) Q.zero old i → HoldsBelow (lane_at v.items) Q.zero (slice_set old i x) (i + 1)
    lane-stored v old i x b l e h =
        let lane_is : x ≡ lane_at v.items i =
        sym (get_or_from_slice_get (vector_lanes O Q lanes w v) i x Q.zero e) ∙ get-tabulate (lane_count w n) (λ k. vector_lane O Q lanes w k v) i Q.zero (omega (arith, b, l)) in
        holds-more (lane_at v.items) Q.zero old i x b h lane_is

    pub lanes-stored : (v : Row P n) (s : List B) (i : ℕ) → length s ≡ lane_count w n → length s ≤ i → HoldsBelow (lane_at v.items) Q.zero s i → s ≡ vector_lanes O Q lanes w v
    lanes-stored v s i l le h = holds-all (lane_at v.items) Q.zero s (lane_count w n) l (λ k b. h k (omega (arith, b, l, le)))

  -- a packing of one group more
  pub group-loaded : (s : List B) (xs : List P) (i : ℕ) (x : P) → i < length xs → lanes x ≡ slice_range s (i * w) (i * w + w)
      → ((d : P) (k : ℕ) → k < i → lanes (get_or xs k d) ≡ slice_range s (k * w) (k * w + w))
      → (d : P) (k : ℕ) → k < i + 1 → lanes (get_or (slice_set xs i x) k d) ≡ slice_range s (k * w) (k * w + w)
  group-loaded s xs i x b known h d =
      below_more (λ k. lanes (get_or (slice_set xs i x) k d) ≡ slice_range s (k * w) (k * w + w)) i
      (λ k c. ap lanes (get_or-set_other xs i k x d (omega (arith, c))) ∙ h d k c)
      (ap lanes (get_or-set_same xs i x d b) ∙ known)

  -- one group more is written
  pub group-written : (xs : List P) (old new : List B) (i : ℕ) (x : P) → i < length xs → x ≡ get_or xs i x → slice_range new (i * w) (i * w + w) ≡ lanes x → take (i * w) new ≡ take (i * w) old
      → HoldsBelow (lane_at xs) Q.zero old (i * w) → HoldsBelow (lane_at xs) Q.zero new ((i + 1) * w)
  group-written xs old new i x inside e block before h j b =
      elim (cases_lt j (i * w)) [
        | inl lt ↦ sym (get_or-take (i * w) new j Q.zero lt) ∙ ap (λ l. get_or l j Q.zero) before ∙ get_or-take (i * w) old j Q.zero lt ∙ h j lt
        | inr ge ↦
            let next : i + 1 ≡ suc i = omega arith in
            let more : (i + 1) * w ≡ i * w + w = ap (λ k. k * w) next ∙ suc-mul i w in
            let r : ℕ = j - i * w in
            let below : r < w = omega (arith, more, b, ge) in
            let at : i * w + r ≡ j = omega (arith, ge) in
            let group : j / w ≡ i = ap (λ k. k / w) (sym at) ∙ div-mul-add i w r below in
            let lane : j % w ≡ r = ap (λ k. k % w) (sym at) ∙ mod-mul-add i w r below in
            ap (λ k. get_or new k Q.zero) (sym at) ∙ sym (range-item new (i * w) w r Q.zero below) ∙ ap (λ l. get_or l r Q.zero) block
            ∙ ap (λ p. get_or (lanes p) r Q.zero) (sym (read_at xs i x O.zero inside e) ∙ ap (λ k. get_or xs k O.zero) (sym group)) ∙ ap (λ k. get_or (lanes (get_or xs (j / w) O.zero)) k Q.zero) (sym lane)
      ]

  module _ (xs : List P) (l : ℕ) (q : P) (x : B) (n : ℕ) (sized : length xs ≡ n) (long : length (lanes (get_or xs (l / w) O.zero)) ≡ w) (h : l < w * n)
      (e : lanes q ≡ slice_set (lanes (get_or xs (l / w) O.zero)) (l % w) x) where
    part : l / w < length xs
    part = omega (arith, sized, part-below w n l h)

    inside : l % w < length (lanes (get_or xs (l / w) O.zero))
    inside = omega (arith, long, mod-lt l (some-width w n l h))

    -- the lane that is written
    pub lane-set : lane_at (slice_set xs (l / w) q) l ≡ x
    lane-set = ap (λ p. get_or (lanes p) (l % w) Q.zero) (get_or-set_same xs (l / w) q O.zero part) ∙ ap (λ k. get_or k (l % w) Q.zero) e ∙ get_or-set_same (lanes (get_or xs (l / w) O.zero)) (l % w) x Q.zero inside

    same_lane : (i : ℕ) → i / w ≡ l / w → i % w ≡ l % w → i ≡ l
    same_lane i a b = sym (div-add-mod' i w) ∙ ap (λ k. k * w + i % w) a ∙ ap (λ k. l / w * w + k) b ∙ div-add-mod' l w

    -- the others
    pub lane-kept : (i : ℕ) → i ≢ l → lane_at (slice_set xs (l / w) q) i ≡ lane_at xs i
    lane-kept i other =
        elim (cases_eq (i / w) (l / w)) [
          | inl a ↦
              ap (λ k. get_or (lanes (get_or (slice_set xs (l / w) q) k O.zero)) (i % w) Q.zero) a
              ∙ ap (λ p. get_or (lanes p) (i % w) Q.zero) (get_or-set_same xs (l / w) q O.zero part)
              ∙ ap (λ k. get_or k (i % w) Q.zero) e
              ∙ get_or-set_other (lanes (get_or xs (l / w) O.zero)) (l % w) (i % w) x Q.zero (λ b. other (same_lane i a b))
              ∙ ap (λ k. get_or (lanes (get_or xs k O.zero)) (i % w) Q.zero) (sym a)
          | inr a ↦ ap (λ p. get_or (lanes p) (i % w) Q.zero) (get_or-set_other xs (l / w) (i / w) q O.zero a)
        ]

  -- one lane of a vector is written
  pub lanes-set : {n : ℕ} (v u : Row P n) (l : ℕ) (q : P) (x : B) → ((p : P) → length (lanes p) ≡ w) → l < lane_count w n
      → lanes q ≡ slice_set (lanes (get_or v.items (l / w) O.zero)) (l % w) x → u.items ≡ slice_set v.items (l / w) q
      → vector_lanes O Q lanes w u ≡ slice_set (vector_lanes O Q lanes w v) l x
  lanes-set {n} v u l q x lengths h e made =
      let whole : List B = vector_lanes O Q lanes w v in
      let long : length whole ≡ lane_count w n = length-lanes O Q lanes w v in
      let within : l < length whole = omega (arith, h, long) in
      let among : l < w * n = counted-lane w n l h in
      let of_part : length (lanes (get_or v.items (l / w) O.zero)) ≡ w = lengths (get_or v.items (l / w) O.zero) in
      lanes_by u (slice_set v.items (l / w) q) (slice_set whole l x) made (length-set whole l x ∙ long)
      (λ i b.
      elim (cases_eq i l) [
        | inl same ↦
            ap (λ k. get_or (slice_set whole l x) k Q.zero) same ∙ get_or-set_same whole l x Q.zero within
            ∙ sym (ap (lane_at (slice_set v.items (l / w) q)) same ∙ lane-set v.items l q x n v.sized of_part among e)
        | inr other ↦
            get_or-set_other whole l i x Q.zero other ∙ get-tabulate (lane_count w n) (λ k. vector_lane O Q lanes w k v) i Q.zero b
            ∙ sym (lane-kept v.items l q x n v.sized of_part among e i other)
      ])

  -- the same, of a packing that is read, changed and written back
  pub lane-written : {n : ℕ} (v u : Row P n) (t l : ℕ) (part q : P) (x : B) → t ≡ w → ((p : P) → length (lanes p) ≡ w) → l < lane_count w n → part ≡ get_or v.items (l / t) part
      → lanes q ≡ slice_set (lanes part) (l % t) x → u.items ≡ slice_set v.items (l / t) q → vector_lanes O Q lanes w u ≡ slice_set (vector_lanes O Q lanes w v) l x
  lane-written {n} v u t l part q x a lengths h read e made =
      let inside : l / w < length v.items = omega (arith, v.sized, part-below w n l (counted-lane w n l h)) in
      let at : part ≡ get_or v.items (l / w) O.zero = sym (read_at v.items (l / w) part O.zero inside (read ∙ ap (λ s. get_or v.items (l / s) part) a)) in
      lanes-set v u l q x lengths h (e ∙ ap (λ s. slice_set (lanes part) (l % s) x) a ∙ ap (λ p. slice_set (lanes p) (l % w) x) at) (made ∙ ap (λ s. slice_set v.items (l / s) q) a)
