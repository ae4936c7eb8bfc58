-- Iterators that gather the items of another in groups give the groups of its list.
use Rattle.std.proofs.Common.{◌≡◌, ◌≢◌, ◌<◌, ◌≤◌, ◌+◌, ◌-◌, ◌*◌, ◌/◌, ◌%◌, ◌^◌, ℕ, zero, suc, List, [], ◌∷◌, ◌++◌, length, take, drop, map, replicate, Option, Some, None, Bool, true, false, refl, ap, ap₂, sym, subst, ◌∙◌, pow-suc, mul-zero, mul_assoc, mul_comm, arith, nat_lt, inl, inr, length-drop, length-append}
use Rattle.std.proofs.Math.Seq.{drop-nil}
use Rattle.std.proofs.Math.ListN.{set}
use Rattle.std.specs.Prelude.{slice_index, get_or}
use Rattle.std.specs.Int.{sum_through, byte_worth}
use Rattle.std.specs.Iterator.{Yields, AlwaysYields}
use Rattle.std.proofs.lemmas.List.{drop_all, take_all, length-replicate, append_assoc, nil_from_length, get_or_append_left, get_or-append-add}
use Rattle.std.specs.List.{flat_map}
use Rattle.std.proofs.lemmas.Nat.{mul-le, div-mul-add, div-add-mod'}
use Rattle.std.proofs.Math.Nat.{mod-lt, div-lt_iff_lt-mul}
use Rattle.std.proofs.Math.Nat.{mul-add}
use Rattle.std.proofs.Math.Decide.{dec_le}
use mathlib.Core.Logic.{dite}
use mathlib.Core.Path.{fun_ext}
use Rattle.p3_theory.specs.Polynomials.Polynomial.{tabulate}
use Rattle.p3_extension_traits.specs.Streams.{YieldsExactly, padded, group_count, group, groups, group_of, TakesUpTo, GathersGroup, byte_stream, ReadsGroup, little_endian}
use Rattle.std.proofs.lemmas.Bool.Decides.{nat_tests}

drop-drop : {A : Type 0} (xs : List A) (m k : ℕ) → drop k (drop m xs) ≡ drop (m + k) xs
drop-drop xs zero k = ap (λ j. drop j xs) (omega arith)
drop-drop [] (suc m) k = drop-nil k ∙ sym (drop-nil (suc m + k))
drop-drop (x ∷ xs) (suc m) k = drop-drop xs m k ∙ ap (λ j. drop j (x ∷ xs)) next
  where
    next : suc (m + k) ≡ suc m + k
    next = omega arith

group_count-nil : (n : ℕ) → 0 < n → group_count n 0 ≡ 0
group_count-nil n z = ap (λ k. k / n) at_zero ∙ div-mul-add 0 n (n - 1) (omega arith)
  where
    at_zero : 0 + (n - 1) ≡ 0 * n + (n - 1)
    at_zero = omega arith

group_count-more : (n m : ℕ) → 0 < n → 0 < m → group_count n m ≡ suc (group_count n (m - n))
group_count-more n m z h = dite (dec_le n m) whole last
  where
    whole : n ≤ m → group_count n m ≡ suc (group_count n (m - n))
    whole w =
        let rest = m - n + (n - 1) in
        let q = rest / n in
        let r = rest % n in
        let split : q * n + r ≡ rest = div-add-mod' rest n in
        let more : suc q * n ≡ n + q * n = omega arith in
        let all : m + (n - 1) ≡ suc q * n + r = omega (arith, more, split, w, z) in
        ap (λ k. k / n) all ∙ div-mul-add (suc q) n r (mod-lt rest z)

    last : (n ≤ m → ⊥) → group_count n m ≡ suc (group_count n (m - n))
    last w =
        let none : m - n ≡ 0 = omega arith in
        let one : m + (n - 1) ≡ 1 * n + (m - 1) = omega arith in
        ap (λ k. k / n) one ∙ div-mul-add 1 n (m - 1) (omega arith) ∙ ap suc (sym (ap (group_count n) none ∙ group_count-nil n z))

module _ {A : Type 0} (n : ℕ) (p : A) where
  group-next : (xs : List A) (i : ℕ) → group n p xs (suc i) ≡ group n p (drop n xs) i
  group-next xs i = ap (λ ys. padded n p (take n ys)) (ap (λ k. drop k xs) next ∙ sym (drop-drop xs n (n * i)))
    where
      next : n * suc i ≡ n + n * i
      next = omega arith

  group-first : (xs : List A) → group n p xs 0 ≡ padded n p (take n xs)
  group-first xs = let e : n * 0 ≡ 0 = omega arith in ap (λ k. padded n p (take n (drop k xs))) e

  pub groups-nil : 0 < n → groups n p [] ≡ []
  groups-nil z = ap (λ k. tabulate k (group n p [])) (group_count-nil n z)

  -- the first group, and the groups of the rest
  pub groups-cons : (x : A) (xs : List A) → 0 < n → groups n p (x ∷ xs) ≡ padded n p (take n (x ∷ xs)) ∷ groups n p (drop n (x ∷ xs))
  groups-cons x xs z =
      ap (λ k. tabulate k (group n p (x ∷ xs))) (group_count-more n (length (x ∷ xs)) z (omega arith) ∙ ap (λ k. suc (group_count n k)) (sym (length-drop n (x ∷ xs))))
      ∙ ap₂ (λ y ys. y ∷ ys) (group-first (x ∷ xs)) (ap (tabulate (group_count n (length (drop n (x ∷ xs))))) (fun_ext (group-next (x ∷ xs))))

-- ---- runs of a source

module _ {S A : Type 0} (steps : S → Option A → S → Type 0) where
  abbrev Gives : S → List A → Type 0
  Gives s xs = AlwaysYields steps (λ x. x) s xs

  -- what came is the front of the list, and the rest is still to come
  pub split : (xs all : List A) (s t : S) → Yields steps s xs t → Gives s all → (xs ≡ take (length xs) all) × Gives t (drop (length xs) all) × (length xs ≤ length all)
  split [] all s t h a = (refl, (let P : S → Type 0 = λ u. Gives u all in subst P h a), omega arith)
  split (x ∷ xs) [] s t h a = absurd (a x h.0 h.1)
  split (x ∷ xs) (y ∷ ys) s t h a =
      let next = a.1 x h.0 h.1 in
      let more = split xs ys h.0 t h.2 next.1 in
      (ap (λ z. z ∷ xs) next.0 ∙ ap (λ zs. y ∷ zs) more.0, more.1, omega (arith, more.2))

  ends : (all : List A) (t u : S) → Gives t all → steps t None u → all ≡ []
  ends [] t u a h = refl
  ends (y ∷ ys) t u a h = absurd (a.0 u h)

module _ {S T A : Type 0} (steps : S → Option A → S → Type 0) (turn : T → Option (List A) → T → Type 0) (n : ℕ) (p : A) (over : T → Bool) (source : T → S)
    (gathers : (s t : T) (r : Option (List A)) → turn s r t → GathersGroup steps n p (over s) (source s) r (over t) (source t)) where
  abbrev GivesGroups : T → List (List A) → Type 0
  GivesGroups s ys = AlwaysYields turn (λ y. y) s ys

  full : (m : ℕ) → m ≡ n → nat_lt m n ≡ false
  full m e = grind (arith, nat_tests)

  short_of : (m : ℕ) → m < n → nat_lt m n ≡ true
  short_of m h = grind (arith, nat_tests)

  -- how the items xs of one call were gathered
  abbrev Gathered : List A → T → T → Type 0
  Gathered xs s t = (over t ≡ nat_lt (length xs) n) × TakesUpTo steps n (source s) xs (source t)

  nothing_more : (s : T) → over s ≡ true → GivesGroups s []
  nothing_more s e y t h = let turned = rw e at (gathers s t (Some y) h) in absurd (cc turned.0)

  is_front : (xs all : List A) (s t : T) → Gives steps (source s) all → Gathered xs s t → xs ≡ take n all
  is_front xs all s t a (o, inl q) = (split steps xs all (source s) (source t) q.1 a).0 ∙ ap (λ m. take m all) q.0
  is_front xs all s t a (o, inr q) =
      let run = q.1 in
      let cut = split steps xs all (source s) run.0 run.1 a in
      let none : drop (length xs) all ≡ [] = ends steps _ run.0 (source t) cut.1 run.2 in
      let short : length all ≤ length xs = omega (arith, length-drop (length xs) all, ap length none) in
      cut.0 ∙ take_all (length xs) all short ∙ sym (take_all n all (omega (arith, short, q.0)))

  not_none : (m : ℕ) (xs : List A) (x : A) (all : List A) → 0 < m → xs ≡ take m (x ∷ all) → None ≡ group_of n p xs → ⊥
  not_none zero xs x all z e h = absurd (omega arith)
  not_none (suc m) xs x all z e h = let k = rw e at h in absurd (cc k)

  is_group : (m : ℕ) (xs : List A) (x : A) (all ys : List A) → 0 < m → xs ≡ take m (x ∷ all) → Some ys ≡ group_of n p xs → ys ≡ padded n p (take m (x ∷ all))
  is_group zero xs x all ys z e h = absurd (omega arith)
  is_group (suc m) xs x all ys z e h = let k = rw e at h in cc k

  not_some : (m : ℕ) (xs ys : List A) → xs ≡ take m [] → Some ys ≡ group_of n p xs → ⊥
  not_some m [] ys e h = absurd (cc h)
  not_some zero (x ∷ xs) ys e h = absurd (cc e)
  not_some (suc m) (x ∷ xs) ys e h = absurd (cc e)

  rest : (all xs : List A) (s t : T) → (over t ≡ false → Gives steps (source t) (drop n all) → GivesGroups t (groups n p (drop n all))) → 0 < n
      → Gives steps (source s) all → Gathered xs s t → GivesGroups t (groups n p (drop n all))
  rest all xs s t f z a (o, inl q) =
      let cut = split steps xs all (source s) (source t) q.1 a in
      f (o ∙ full (length xs) q.0) (let P : ℕ → Type 0 = λ m. Gives steps (source t) (drop m all) in subst P q.0 cut.1)
  rest all xs s t f z a (o, inr q) =
      let run = q.1 in
      let cut = split steps xs all (source s) run.0 run.1 a in
      let none : drop (length xs) all ≡ [] = ends steps _ run.0 (source t) cut.1 run.2 in
      let short : length all ≤ n = omega (arith, length-drop (length xs) all, ap length none, q.0) in
      let P : List (List A) → Type 0 = GivesGroups t in
      subst P (sym (ap (groups n p) (drop_all n all short) ∙ groups-nil n p z)) (nothing_more t (o ∙ short_of (length xs) q.0))

  groups_given : (bound : ℕ) (all : List A) (s : T) → 0 < n → length all ≤ bound → over s ≡ false → Gives steps (source s) all → GivesGroups s (groups n p all)
  groups_given bound [] s z l e a =
      let P : List (List A) → Type 0 = GivesGroups s in
      subst P (sym (groups-nil n p z)) (λ y t h.
      let turned = rw e at (gathers s t (Some y) h) in
      not_some n turned.0 y (is_front turned.0 [] s t a (turned.2, turned.3)) turned.1)
  groups_given zero (x ∷ xs) s z l e a = absurd (omega arith)
  groups_given (suc bound) (x ∷ xs) s z l e a =
      let P : List (List A) → Type 0 = GivesGroups s in
      subst P (sym (groups-cons n p x xs z)) (
        λ t h.
            let turned = rw e at (gathers s t None h) in
            not_none n turned.0 x xs z (is_front turned.0 (x ∷ xs) s t a (turned.2, turned.3)) turned.1,
        λ y t h.
            let turned = rw e at (gathers s t (Some y) h) in (
              is_group n turned.0 x xs y z (is_front turned.0 (x ∷ xs) s t a (turned.2, turned.3)) turned.1,
              rest (x ∷ xs) turned.0 s t (λ d g. groups_given bound (drop n (x ∷ xs)) t z (omega (arith, length-drop n (x ∷ xs))) d g) z a (turned.2, turned.3),
            ),
      )

  -- where the source gives exactly these items, the calls give exactly their groups
  pub YieldsExactly-groups : (all : List A) (s : T) → 0 < n → over s ≡ false → YieldsExactly steps (source s) all → YieldsExactly turn s (groups n p all)
  YieldsExactly-groups all s z e a = record { runs = groups_given (length all) all s z (omega arith) e a.runs }

-- ---- items written over the front of a list

module _ {S A : Type 0} (steps : S → Option A → S → Type 0) where
  pub Yields-push : (xs : List A) (s t u : S) (x : A) → Yields steps s xs t → steps t (Some x) u → Yields steps s (xs ++ (x ∷ [])) u
  Yields-push [] s t u x h k = (u, (let P : S → Type 0 = λ w. steps w (Some x) u in subst P (sym h) k), refl)
  Yields-push (y ∷ xs) s t u x h k = (h.0, h.1, Yields-push xs h.0 t u x h.2 k)

  set-seam : (xs ys : List A) (x : A) → length xs < length ys → set (xs ++ drop (length xs) ys) (length xs) x ≡ (xs ++ (x ∷ [])) ++ drop (suc (length xs)) ys
  set-seam [] [] x h = absurd (omega arith)
  set-seam [] (y ∷ ys) x h = refl
  set-seam (z ∷ zs) [] x h = absurd (omega arith)
  set-seam (z ∷ zs) (y ∷ ys) x h = ap (λ l. z ∷ l) (set-seam zs ys x (omega arith))

  -- one more item came, and was written to its index
  pub wrote_next : (s t u : S) (ys zs : List A) (i : ℕ) (x : A) → i < length ys → steps t (Some x) u
      → (xs : List A) × (length xs ≡ i) × (zs ≡ xs ++ drop i ys) × Yields steps s xs t
      → (xs : List A) × (length xs ≡ i + 1) × (set zs i x ≡ xs ++ drop (i + 1) ys) × Yields steps s xs u
  wrote_next s t u ys zs i x h k (xs, l, e, y) = (
    xs ++ (x ∷ []),
    length-append xs (x ∷ []) ∙ ap (λ n. n + 1) l,
    ap (λ l. set l i x) e ∙ moved,
    Yields-push xs s t u x y k,
  )
    where
      moved : set (xs ++ drop i ys) i x ≡ (xs ++ (x ∷ [])) ++ drop (i + 1) ys
      moved =
          let P : ℕ → Type 0 = λ n. n < length ys → set (xs ++ drop n ys) n x ≡ (xs ++ (x ∷ [])) ++ drop (suc n) ys in
          let next : suc i ≡ i + 1 = omega arith in
          subst P l (set-seam xs ys x) h ∙ ap (λ n. (xs ++ (x ∷ [])) ++ drop n ys) next

  drop-replicate : (k n : ℕ) (p : A) → drop k (replicate n p) ≡ replicate (n - k) p
  drop-replicate zero n p = let e : n ≡ n - 0 = omega arith in ap (λ m. replicate m p) e
  drop-replicate (suc k) zero p = let e : 0 ≡ 0 - suc k = omega arith in drop-nil (suc k) ∙ ap (λ m. replicate m p) e
  drop-replicate (suc k) (suc n) p = let e : n - k ≡ suc n - suc k = omega arith in drop-replicate k n p ∙ ap (λ m. replicate m p) e

  is_padded : (n k : ℕ) (p : A) (xs written : List A) → k ≢ 0 → length xs ≡ k → written ≡ xs ++ drop k (replicate n p) → Some written ≡ group_of n p xs
  is_padded n k p [] written z l e = absurd (z (sym l))
  is_padded n k p (x ∷ xs) written z l e = ap Some (e ∙ ap (λ ys. (x ∷ xs) ++ ys) (drop-replicate k n p ∙ ap (λ m. replicate (n - m) p) (sym l)))

  -- k items that were written over a list of padding are a group
  pub wrote_group : (n k : ℕ) (p : A) (s t : S) (written : List A) → k ≢ 0
      → (xs : List A) × (length xs ≡ k) × (written ≡ xs ++ drop k (replicate n p)) × TakesUpTo steps (length (replicate n p)) s xs t
      → GathersGroup steps n p false s (Some written) (nat_lt k n) t
  wrote_group n k p s t written z (xs, l, e, q) = (
    xs,
    is_padded n k p xs written z l e,
    ap (λ m. nat_lt m n) (sym l),
    let P : ℕ → Type 0 = λ m. TakesUpTo steps m s xs t in subst P (length-replicate n p) q,
  )

-- ---- streams of bytes

-- calls that take the first of what is left, and answer `None` where nothing is left
pub YieldsExactly-by_state : {T A : Type 0} (turn : T → Option A → T → Type 0) (Left : T → List A → Type 0)
    → ((s t : T) (zs : List A) → Left s zs → turn s None t → zs ≡ [])
    → ((s t : T) (y : A) (zs : List A) → Left s zs → turn s (Some y) t → (ws : List A) × (zs ≡ y ∷ ws) × Left t ws)
    → (s : T) (zs : List A) → Left s zs → YieldsExactly turn s zs
YieldsExactly-by_state {T} {A} turn Left none some s zs left = record { runs = along zs s left }
  where
    along : (zs : List A) (s : T) → Left s zs → AlwaysYields turn (λ x. x) s zs
    along [] s l = λ y t h. let a = some s t y [] l h in let e = a.1 in absurd (cc e)
    along (z ∷ zs) s l = (
      λ t h. let e = none s t (z ∷ zs) l h in absurd (cc e),
      λ y t h.
          let a = some s t y (z ∷ zs) l h in
          let e = a.1 in
          (cc e, along zs t (let P : List A → Type 0 = Left t in subst P (cc e) a.2)),
    )

-- one call at a state that gives exactly some items
pub YieldsExactly-none : {S A : Type 0} {steps : S → Option A → S → Type 0} {s t : S} {xs : List A} → YieldsExactly steps s xs → steps s None t → xs ≡ []
YieldsExactly-none {xs = []} y h = refl
YieldsExactly-none {t = t} {xs = x ∷ xs} y h = absurd (y.runs.0 t h)

pub YieldsExactly-some : {S A : Type 0} {steps : S → Option A → S → Type 0} {s t : S} {x : A} {xs : List A} → YieldsExactly steps s xs → steps s (Some x) t
    → (ws : List A) × (xs ≡ x ∷ ws) × YieldsExactly steps t ws
YieldsExactly-some {t = t} {x = x} {xs = []} y h = absurd (y.runs x t h)
YieldsExactly-some {t = t} {x = x} {xs = z ∷ zs} y h = let n = y.runs.1 x t h in (zs, ap (λ a. a ∷ zs) (sym n.0), record { runs = n.1 })

-- whether exactly one item comes, by the first two calls
module _ {S A : Type 0} {steps : S → Option A → S → Type 0} {s t : S} {xs : List A} (y : YieldsExactly steps s xs) where
  pub no_item : steps s None t → length xs ≡ 1 → ⊥
  no_item h l = omega (arith, l, ap length (YieldsExactly-none y h))

  pub one_item : {x : A} {u : S} → steps s (Some x) t → steps t None u → x ∷ [] ≡ xs
  one_item {x} h k = let n = YieldsExactly-some y h in sym (n.1 ∙ ap (λ ws. x ∷ ws) (YieldsExactly-none n.2 k))

  pub two_items : {x z : A} {u : S} → steps s (Some x) t → steps t (Some z) u → length xs ≡ 1 → ⊥
  two_items h k l = let n = YieldsExactly-some y h in let m = YieldsExactly-some n.2 k in omega (arith, l, ap length n.1, ap length m.1)

-- of fewer blocks of n items, there is room for one more
pub one_more_block : (n a b : ℕ) → a < b → n + n * a ≤ n * b
one_more_block n a b h =
    let k : n * suc a ≤ n * b = mul-le n (suc a) n b (omega arith) (omega arith) in
    let e : n * suc a ≡ n + n * a = omega arith in
    omega (arith, k, e)

-- where the groups come exactly, so does what f makes of them
pub YieldsExactly-read : {T U A B : Type 0} (f : List A → B) (turn : T → Option (List A) → T → Type 0) (word : U → Option B → U → Type 0) (chunks : U → T)
    → ((s t : U) (r : Option B) → word s r t → ReadsGroup f turn (chunks s) r (chunks t))
    → (ys : List (List A)) (s : U) → YieldsExactly turn (chunks s) ys → YieldsExactly word s (map f ys)
YieldsExactly-read {A = A} f turn word chunks reads ys s y = YieldsExactly-by_state word (λ s zs. (ys : List (List A)) × (zs ≡ map f ys) × YieldsExactly turn (chunks s) ys)
    (λ s t zs l h. l.1 ∙ ap (map f) (YieldsExactly-none l.2 (reads s t None h)))
    (λ s t w zs l h.
    let a = reads s t (Some w) h in
    let n = YieldsExactly-some l.2 a.1 in
    (map f n.0, l.1 ∙ ap (map f) n.1 ∙ ap (λ v. v ∷ map f n.0) (sym a.2), (n.0, refl, n.2)))
    s (map f ys) (ys, refl, y)

-- ---- the number of some bytes

next_byte : (k : ℕ) (bs : List ℕ) → little_endian (drop k bs) ≡ slice_index bs k + 256 * little_endian (drop (suc k) bs)
next_byte zero [] = refl
next_byte zero (b ∷ bs) = refl
next_byte (suc k) [] = refl
next_byte (suc k) (b ∷ bs) = next_byte k bs

-- the bytes up to index k, each by its worth, and the number of the bytes that are left
bytes_through : (k : ℕ) (bs : List ℕ) → sum_through (λ i. byte_worth i (slice_index bs i)) k + 256 ^ suc k * little_endian (drop (suc k) bs) ≡ little_endian bs
bytes_through zero bs = sym (next_byte 0 bs)
bytes_through (suc k) bs =
    let P = 256 ^ suc k in
    let b = slice_index bs (suc k) in
    let rest = little_endian (drop (suc (suc k)) bs) in
    let more : 256 ^ suc (suc k) * rest ≡ P * (256 * rest) = ap (λ n. n * rest) (pow-suc 256 (suc k)) ∙ mul_assoc P 256 rest in
    let opened : P * (b + 256 * rest) ≡ P * b + P * (256 * rest) = mul-add P b (256 * rest) in
    let last : P * little_endian (drop (suc k) bs) ≡ P * (b + 256 * rest) = ap (λ n. P * n) (next_byte (suc k) bs) in
    omega (arith, more, opened, last, mul_comm b P, bytes_through k bs)

pub from_bytes : (k : ℕ) (bs : List ℕ) → length bs ≡ suc k → sum_through (λ i. byte_worth i (slice_index bs i)) k ≡ little_endian bs
from_bytes k bs l =
    let none : drop (suc k) bs ≡ [] = drop_all (suc k) bs (omega (arith, l)) in
    let gone : 256 ^ suc k * little_endian (drop (suc k) bs) ≡ 0 = ap (λ cs. 256 ^ suc k * little_endian cs) none ∙ mul-zero (256 ^ suc k) in
    omega (arith, gone, bytes_through k bs)

-- ---- bytes of elements

-- elements of m bytes each
pub length-byte_stream : {A : Type 0} (bytes : A → List ℕ) (m : ℕ) → ((x : A) → length (bytes x) ≡ m) → (xs : List A) → length (byte_stream bytes xs) ≡ m * length xs
length-byte_stream bytes m h [] = let e : 0 ≡ m * 0 = omega arith in e
length-byte_stream bytes m h (x ∷ xs) =
    let more : m + m * length xs ≡ m * suc (length xs) = omega arith in
    length-append (bytes x) (byte_stream bytes xs) ∙ ap₂ (λ a b. a + b) (h x) (length-byte_stream bytes m h xs) ∙ more

byte_in : {A : Type 0} (bytes : A → List ℕ) (m : ℕ) → ((x : A) → length (bytes x) ≡ m) → (xs : List A) (a : A) (q r : ℕ) → q < length xs → r < m
    → slice_index (bytes (get_or xs q a)) r ≡ slice_index (byte_stream bytes xs) (q * m + r)
byte_in bytes m h [] a q r l k = absurd (omega arith)
byte_in bytes m h (x ∷ xs) a zero r l k =
    let here : r ≡ 0 * m + r = omega arith in
    let there : r < length (bytes x) = omega (arith, h x, k) in
    sym (get_or_append_left (bytes x) (byte_stream bytes xs) 0 r there) ∙ ap (slice_index (bytes x ++ byte_stream bytes xs)) here
byte_in bytes m h (x ∷ xs) a (suc q) r l k =
    let more : suc q * m ≡ m + q * m = omega arith in
    let place : length (bytes x) + (q * m + r) ≡ suc q * m + r = omega (arith, more, h x) in
    byte_in bytes m h xs a q r (omega arith) k
    ∙ sym (get_or-append-add (bytes x) (byte_stream bytes xs) (q * m + r) 0)
    ∙ ap (slice_index (bytes x ++ byte_stream bytes xs)) place

-- byte i of elements of m bytes each is byte i % m of element i / m
pub byte_stream-at : {A : Type 0} (bytes : A → List ℕ) (m : ℕ) → ((x : A) → length (bytes x) ≡ m) → (xs : List A) (a : A) (i : ℕ) → i < m * length xs
    → slice_index (bytes (get_or xs (i / m) a)) (i % m) ≡ slice_index (byte_stream bytes xs) i
byte_stream-at bytes m h xs a i l =
    let some : 0 < m = positive m l in
    let split : i / m * m + i % m ≡ i = div-add-mod' i m in
    let place : i / m < length xs = quotient_below some l in
    byte_in bytes m h xs a (i / m) (i % m) place (mod-lt i some) ∙ ap (slice_index (byte_stream bytes xs)) split
  where
    positive : (m : ℕ) → i < m * length xs → 0 < m
    positive zero l = absurd (omega (arith, l))
    positive (suc m) l = omega arith

    quotient_below : 0 < m → i < m * length xs → i / m < length xs
    quotient_below z l = (div-lt_iff_lt-mul z).1 (omega (arith, l, mul_comm m (length xs)))

byte_stream-append : {A : Type 0} (bytes : A → List ℕ) (xs ys : List A) → byte_stream bytes (xs ++ ys) ≡ byte_stream bytes xs ++ byte_stream bytes ys
byte_stream-append bytes [] ys = refl
byte_stream-append bytes (x ∷ xs) ys = ap (λ l. bytes x ++ l) (byte_stream-append bytes xs ys) ∙ sym (append_assoc (bytes x) (byte_stream bytes xs) (byte_stream bytes ys))

-- elements that are made of parts: the bytes of all parts, one element after the other
pub byte_stream-parts : {A B : Type 0} (bytes : B → List ℕ) (parts : A → List B) (xs : List A) → byte_stream (λ x. byte_stream bytes (parts x)) xs ≡ byte_stream bytes (flat_map parts xs)
byte_stream-parts bytes parts [] = refl
byte_stream-parts bytes parts (x ∷ xs) = ap (λ l. byte_stream bytes (parts x) ++ l) (byte_stream-parts bytes parts xs) ∙ sym (byte_stream-append bytes (parts x) (flat_map parts xs))

-- calls that take the first of a list that the state has, and answer `None` where it is empty
pub YieldsExactly-from_list : {T A : Type 0} (turn : T → Option A → T → Type 0) (left : T → List A)
    → ((s t : T) → turn s None t → length (left s) ≡ 0) → ((s t : T) (y : A) → turn s (Some y) t → left s ≡ y ∷ left t)
    → (s : T) (zs : List A) → left s ≡ zs → YieldsExactly turn s zs
YieldsExactly-from_list turn left none some s zs e = YieldsExactly-by_state turn (λ t ys. left t ≡ ys)
    (λ s t ys l h. sym l ∙ nil_from_length (left s) (none s t h))
    (λ s t y ys l h. (left t, sym l ∙ some s t y h, refl))
    s zs e
