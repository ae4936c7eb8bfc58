-- What calls give that draw items from a source: the lists of the items drawn, one after the other.
use Rattle.std.proofs.Common.{◌≡◌, ◌<◌, ℕ, List, [], ◌∷◌, ◌++◌, length, take, drop, map, Option, Some, None, Bool, true, false, inl, inr, nat_lt, refl, sym, ap, ap₂, subst, ◌∙◌, arith, append-nil}
use Rattle.std.specs.List.{flat_map}
use Rattle.std.specs.Iterator.{Yields, Drains}
use Rattle.std.proofs.lemmas.List.{append_assoc, take_all, drop_all}
use Rattle.std.proofs.Math.Seq.{take-append_seam, drop-append_seam}
use Rattle.std.proofs.lemmas.Grind.{flat_map-append}
use Rattle.p3_extension_traits.specs.Streams.{YieldsExactly, DrawnFrom, Draws, TakesFirst, HoldsBytes, InHand, GathersGroup, ReadsGroup, groups, group_of, padded}
use Rattle.p3_extension_traits.specs.StreamLemmas.{YieldsExactly-by_state, YieldsExactly-none, YieldsExactly-some, Yields-push, groups-nil, groups-cons}
use Rattle.p3_extension_traits.specs.TakenItems.{taken-front}
use Rattle.std.proofs.lemmas.Bool.Decides.{nat_tests}

module _ {S A : Type 0} (steps : S → Option A → S → Type 0) where
  Yields-append : (xs ys : List A) (s t u : S) → Yields steps s xs t → Yields steps t ys u → Yields steps s (xs ++ ys) u
  Yields-append [] ys s t u h k = let P : S → Type 0 = λ v. Yields steps v ys u in subst P (sym h) k
  Yields-append (x ∷ xs) ys s t u h k = (h.0, h.1, Yields-append xs ys h.0 t u h.2 k)

  Drains-append : (xs ys : List A) (s t : S) → Yields steps s xs t → Drains steps t ys → Drains steps s (xs ++ ys)
  Drains-append xs ys s t h d = (d.0, (d.1.0, Yields-append xs ys s t d.1.0 h d.1.1, d.1.2))

-- ---- one call

module _ {S F B : Type 0} (steps : S → Option F → S → Type 0) (parts : F → List B) where
  -- with the source at s and a list held, calls drew items and left the source at t, and `Held` holds of what is held then
  abbrev pub HasDrawn : S → List B → S → (List B → Type 0) → Type 0
  HasDrawn s held t Held = (xs : List F) × Yields steps s xs t × Held (held ++ flat_map parts xs)

  pub drawn_none : (s : S) (held : List B) (Held : List B → Type 0) → Held held → HasDrawn s held s Held
  drawn_none s held Held h = ([], refl, subst Held (sym (append-nil held)) h)

  -- nothing is held, and one more item is drawn
  pub drawn_next : (s u t : S) (held : List B) (x : F) (Held Held' : List B → Type 0) → HasDrawn s held u Held → ((all : List B) → Held all → all ≡ []) → steps u (Some x) t
      → Held' (parts x) → HasDrawn s held t Held'
  drawn_next s u t held x Held Held' k none h l = (
    k.0 ++ (x ∷ []),
    Yields-push steps k.0 s u t x k.1 h,
    subst Held' (sym (ap (λ l. held ++ l) (flat_map-append parts k.0 (x ∷ []) ∙ ap (λ l. flat_map parts k.0 ++ l) (append-nil (parts x)))
        ∙ sym (append_assoc held (flat_map parts k.0) (parts x)) ∙ ap (λ l. l ++ parts x) (none _ k.2))) l,
  )

  -- the first of what is held is given
  pub draws_some : (s t : S) (held : List B) (b : B) (Held Held' : List B → Type 0) → HasDrawn s held t Held → ((all : List B) → Held all → (rest : List B) × (all ≡ b ∷ rest) × Held' rest)
      → Draws steps parts s held (Some b) t Held'
  draws_some s t held b Held Held' k first = let n = first _ k.2 in (k.0, n.0, k.1, n.1, n.2)

  -- nothing is held, and the source has ended
  pub draws_none : (s u t : S) (held : List B) (Held Held' : List B → Type 0) → HasDrawn s held u Held → ((all : List B) → Held all → all ≡ []) → steps u None t → Held' []
      → Draws steps parts s held None t Held'
  draws_none s u t held Held Held' k none h l = (k.0, (u, k.1, h), none _ k.2, l)

  -- where the list held is one of its state, and the call is told of that list
  pub draws_held : (s t : S) (held held' : List B) (r : Option B) → TakesFirst steps parts s held r t held' → (all : List B) → held ≡ all
      → Draws steps parts s all r t (λ rest. held' ≡ rest)
  draws_held s t held held' r h all e = let P : List B → Type 0 = λ l. Draws steps parts s l r t (λ rest. held' ≡ rest) in subst P e h

module _ {J : Type 0} (inner : J → Option ℕ → J → Type 0) where
  -- a reader in hand that answers `None`, or none in hand, had no byte left
  pub in_hand-none : (reader reader' : Option J) → InHand inner reader None reader' → (all : List ℕ) → HoldsBytes inner reader all → all ≡ []
  in_hand-none None reader' h all l = l
  in_hand-none (Some j) reader' h all l = YieldsExactly-none l h.1

  pub in_hand-some : (b : ℕ) (reader reader' : Option J) → InHand inner reader (Some b) reader' → (all : List ℕ) → HoldsBytes inner reader all
      → (rest : List ℕ) × (all ≡ b ∷ rest) × HoldsBytes inner reader' rest
  in_hand-some b None reader' h all l = absurd (cc h)
  in_hand-some b (Some j) reader' h all l =
      let n = YieldsExactly-some l h.1 in
      (n.0, n.1, let P : Option J → Type 0 = λ o. HoldsBytes inner o n.0 in subst P (sym h.2) n.2)

  pub holds_nothing : (reader : Option J) → reader ≡ None → HoldsBytes inner reader []
  holds_nothing reader e = let P : Option J → Type 0 = λ o. HoldsBytes inner o [] in subst P (sym e) refl

-- ---- all calls until the end

module _ {S F B T : Type 0} (steps : S → Option F → S → Type 0) (parts : F → List B) (turn : T → Option B → T → Type 0) (source : T → S) (Holds : T → List B → Type 0)
    (draws : (s t : T) (r : Option B) → turn s r t → (held : List B) → Holds s held → Draws steps parts (source s) held r (source t) (Holds t)) where
  joined : (held rest : List B) (xs ys : List F) (b : B) → held ++ flat_map parts xs ≡ b ∷ rest → held ++ flat_map parts (xs ++ ys) ≡ b ∷ (rest ++ flat_map parts ys)
  joined held rest xs ys b e =
      ap (λ l. held ++ l) (flat_map-append parts xs ys) ∙ sym (append_assoc held (flat_map parts xs) (flat_map parts ys)) ∙ ap (λ l. l ++ flat_map parts ys) e

  abbrev Left : T → List B → Type 0
  Left s zs = (held : List B) × (xs : List F) × (zs ≡ held ++ flat_map parts xs) × Holds s held × YieldsExactly steps (source s) xs

  left_none : (s t : T) (zs : List B) → Left s zs → turn s None t → zs ≡ []
  left_none s t zs l h =
      let d = draws s t None h l.0 l.3 in
      let m = taken-front steps d.0 l.1 (source s) d.1.0 d.1.1 l.4 in
      let all : l.1 ≡ d.0 = m.1 ∙ ap (λ ws. d.0 ++ ws) (YieldsExactly-none m.2 d.1.2) ∙ append-nil d.0 in
      l.2 ∙ ap (λ xs. l.0 ++ flat_map parts xs) all ∙ d.2

  left_some : (s t : T) (b : B) (zs : List B) → Left s zs → turn s (Some b) t → (ws : List B) × (zs ≡ b ∷ ws) × Left t ws
  left_some s t b zs l h =
      let d = draws s t (Some b) h l.0 l.3 in
      let m = taken-front steps d.0 l.1 (source s) (source t) d.2 l.4 in
      (d.1 ++ flat_map parts m.0, l.2 ∙ ap (λ xs. l.0 ++ flat_map parts xs) m.1 ∙ joined l.0 d.1 d.0 m.0 b d.3, (d.1, m.0, refl, d.4, m.2))

  -- where the source gives exactly some items, exactly what is held and their lists come
  pub YieldsExactly-drawn : (xs : List F) (s : T) (held : List B) → Holds s held → YieldsExactly steps (source s) xs → YieldsExactly turn s (held ++ flat_map parts xs)
  YieldsExactly-drawn xs s held l y = YieldsExactly-by_state turn Left left_none left_some s (held ++ flat_map parts xs) (held, xs, refl, l, y)

  -- what comes until the end is what is held and the lists of the items that the source gives until its end
  pub Drains-drawn : (bs : List B) (s : T) (held : List B) → Holds s held → Drains turn s bs → (xs : List F) × Drains steps (source s) xs × (bs ≡ held ++ flat_map parts xs)
  Drains-drawn [] s held l h =
      let last : turn s None h.0 = let P : T → Type 0 = λ v. turn v None h.0 in subst P (sym h.1.1) h.1.2 in
      let d = draws s h.0 None last held l in
      (d.0, (source h.0, d.1), sym d.2)
  Drains-drawn (b ∷ bs) s held l h =
      let first = h.1.1 in
      let d = draws s first.0 (Some b) first.1 held l in
      let m = Drains-drawn bs first.0 d.1 d.4 (h.0, (h.1.0, first.2, h.1.2)) in
      (d.0 ++ m.0, Drains-append steps d.0 m.0 (source s) (source first.0) d.2 m.1, ap (λ l. b ∷ l) m.2 ∙ sym (joined held d.1 d.0 m.0 b d.3))

-- ---- groups until the end

module _ {S T A : Type 0} (steps : S → Option A → S → Type 0) (turn : T → Option (List A) → T → Type 0) (n : ℕ) (p : A) (over : T → Bool) (source : T → S)
    (gathers : (s t : T) (r : Option (List A)) → turn s r t → GathersGroup steps n p (over s) (source s) r (over t) (source t)) where
  full : (m : ℕ) → m ≡ n → nat_lt m n ≡ false
  full m e = grind (arith, nat_tests)

  short_of : (m : ℕ) → m < n → nat_lt m n ≡ true
  short_of m h = grind (arith, nat_tests)

  no_group : (xs : List A) → None ≡ group_of n p xs → xs ≡ []
  no_group [] e = refl
  no_group (x ∷ xs) e = absurd (cc e)

  -- one whole group, and the groups of the rest
  groups-whole : (xs rest ys : List A) → 0 < n → length xs ≡ n → Some ys ≡ group_of n p xs → groups n p (xs ++ rest) ≡ ys ∷ groups n p rest
  groups-whole [] rest ys z l e = absurd (cc e)
  groups-whole (x ∷ xs) rest ys z l e =
      let front : take n ((x ∷ xs) ++ rest) ≡ x ∷ xs = ap (λ m. take m ((x ∷ xs) ++ rest)) (sym l) ∙ take-append_seam (x ∷ xs) rest in
      let back : drop n ((x ∷ xs) ++ rest) ≡ rest = ap (λ m. drop m ((x ∷ xs) ++ rest)) (sym l) ∙ drop-append_seam (x ∷ xs) rest in
      let whole : padded n p (x ∷ xs) ≡ ys = cc e in
      groups-cons n p x (xs ++ rest) z ∙ ap₂ (λ y ws. y ∷ groups n p ws) (ap (padded n p) front ∙ whole) back

  -- the last group, which is short
  groups-short : (xs ys : List A) → 0 < n → length xs < n → Some ys ≡ group_of n p xs → groups n p xs ≡ ys ∷ []
  groups-short [] ys z l e = absurd (cc e)
  groups-short (x ∷ xs) ys z l e =
      let whole : padded n p (x ∷ xs) ≡ ys = cc e in
      let front : take n (x ∷ xs) ≡ x ∷ xs = take_all n (x ∷ xs) (omega (arith, l)) in
      let back : groups n p (drop n (x ∷ xs)) ≡ [] = ap (groups n p) (drop_all n (x ∷ xs) (omega (arith, l))) ∙ groups-nil n p z in
      groups-cons n p x xs z ∙ ap₂ (λ y ws. y ∷ ws) (ap (padded n p) front ∙ whole) back

  nothing_more : (ys : List (List A)) (s : T) → over s ≡ true → Drains turn s ys → ys ≡ []
  nothing_more [] s e h = refl
  nothing_more (y ∷ ys) s e h = let turned = rw e at (gathers s h.1.1.0 (Some y) h.1.1.1) in absurd (cc turned.0)

  -- what comes until the end are the groups of the items that the source gives until its end
  pub Drains-groups : (ys : List (List A)) (s : T) → 0 < n → over s ≡ false → Drains turn s ys → (xs : List A) × Drains steps (source s) xs × (ys ≡ groups n p xs)
  Drains-groups [] s z e h =
      let last : turn s None h.0 = let P : T → Type 0 = λ v. turn v None h.0 in subst P (sym h.1.1) h.1.2 in
      let turned = rw e at (gathers s h.0 None last) in
      elim turned.3 [
        | inl q ↦ absurd (omega (arith, z, q.0, ap length (no_group turned.0 turned.1)))
        | inr q ↦ (turned.0, (source h.0, q.1), sym (ap (groups n p) (no_group turned.0 turned.1) ∙ groups-nil n p z))
      ]
  Drains-groups (y ∷ ys) s z e h =
      let first = h.1.1 in
      let turned = rw e at (gathers s first.0 (Some y) first.1) in
      let later : Drains turn first.0 ys = (h.0, (h.1.0, first.2, h.1.2)) in
      elim turned.3 [
        | inl q ↦
            let m = Drains-groups ys first.0 z (turned.2 ∙ full (length turned.0) q.0) later in
            (turned.0 ++ m.0, Drains-append steps turned.0 m.0 (source s) (source first.0) q.1 m.1, ap (λ l. y ∷ l) m.2 ∙ sym (groups-whole turned.0 m.0 y z q.0 turned.1))
        | inr q ↦ (
          turned.0,
          (source first.0, q.1),
          ap (λ l. y ∷ l) (nothing_more ys first.0 (turned.2 ∙ short_of (length turned.0) q.0) later) ∙ sym (groups-short turned.0 y z q.0 turned.1),
        )
      ]

-- calls that give what f makes of groups: what comes until the end is what f makes of the groups that come until the end
pub Drains-read : {T U A B : Type 0} (f : List A → B) (turn : T → Option (List A) → T → Type 0) (word : U → Option B → U → Type 0) (chunks : U → T)
    → ((s t : U) (r : Option B) → word s r t → ReadsGroup f turn (chunks s) r (chunks t))
    → (ws : List B) (s : U) → Drains word s ws → (ys : List (List A)) × Drains turn (chunks s) ys × (ws ≡ map f ys)
Drains-read {T} {U} f turn word chunks reads [] s h =
    let last : word s None h.0 = let P : U → Type 0 = λ v. word v None h.0 in subst P (sym h.1.1) h.1.2 in
    ([], (chunks h.0, (chunks s, refl, reads s h.0 None last)), refl)
Drains-read {T} {U} f turn word chunks reads (w ∷ ws) s h =
    let first = h.1.1 in
    let a = reads s first.0 (Some w) first.1 in
    let m = Drains-read f turn word chunks reads ws first.0 (h.0, (h.1.0, first.2, h.1.2)) in
    (a.0 ∷ m.0, (m.1.0, (m.1.1.0, (chunks first.0, a.1, m.1.1.1), m.1.1.2)), ap₂ (λ v vs. v ∷ vs) a.2 m.2)

-- calls that give what f makes of groups of a source's items: where P holds of what that source gives until its end, and of what it draws, Q holds of theirs
pub DrawnFrom-groups : {T S R A B F : Type 0} {word : T → Option B → T → Type 0} {steps : S → Option A → S → Type 0} {origin : R → Option F → R → Type 0} {s : T} {i : R}
    {P : List A → List F → Type 0} {Q : List B → List F → Type 0} (f : List A → B) (n : ℕ) (p : A) (over : T → Bool) (source : T → S)
    → ((s t : T) (r : Option B) → word s r t → ReadsGroup f (λ s r t. GathersGroup steps n p (over s) (source s) r (over t) (source t)) s r t)
    → 0 < n → over s ≡ false → ((bs : List A) (xs : List F) → P bs xs → Q (map f (groups n p bs)) xs) → DrawnFrom steps origin (source s) i P → DrawnFrom word origin s i Q
DrawnFrom-groups {T} {S} {R} {A} {B} {F} {word = word} {steps = steps} {origin = origin} {s = s} {i = i} {Q = Q} f n p over source reads z e keeps drawn = record { runs = found }
  where
    found : (ws : List B) → Drains word s ws → (xs : List F) × Drains origin i xs × Q ws xs
    found ws d =
        let turn : T → Option (List A) → T → Type 0 = λ s r t. GathersGroup steps n p (over s) (source s) r (over t) (source t) in
        let words = Drains-read f turn word (λ s. s) reads ws s d in
        let chunks = Drains-groups steps turn n p over source (λ s t r h. h) words.0 s z e words.1 in
        let items = drawn.runs chunks.0 chunks.1 in
        (items.0, items.1, subst (λ l. Q l items.0) (sym (words.2 ∙ ap (map f) chunks.2)) (keeps chunks.0 items.0 items.2))
