-- Calls that draw the items of a source until it has ended, and then give `None` for good.
use Rattle.std.proofs.Common.{◌≡◌, ◌<◌, ◌+◌, ◌*◌, ℕ, zero, suc, List, [], ◌∷◌, ◌++◌, Option, Some, None, Bool, true, false, refl, ap, sym, subst, ◌∙◌, arith, append-nil}
use Rattle.std.specs.Prelude.{All}
use Rattle.std.specs.List.{flat_map}
use Rattle.std.specs.Iterator.{Count, IsFinite, size, count_map, count_unless, AlwaysYields, Drains}
use Rattle.std.specs.Iterator.SizeHint.{IsWithinCount}
use Rattle.p3_extension_traits.specs.Streams.{YieldsExactly, Draws}
use Rattle.p3_extension_traits.specs.StreamLemmas.{one_more_block}
use Rattle.p3_extension_traits.specs.DrawnItems.{draws_held, YieldsExactly-drawn, Drains-drawn}
use Rattle.p3_packing_traits.specs.LaneItems.{TakesFirstUntilEnd, Answers, EndsForGood}

-- ---- one call

module _ {S F B : Type 0} (steps : S → Option F → S → Type 0) (parts : F → List B) where
  -- an item leaves the source as one that has not ended
  goes_on : (s t : S) (held held' : List B) (b : B) (over' : Bool) → TakesFirstUntilEnd steps parts false s held (Some b) over' t held' → over' ≡ false
  goes_on s t held held' b over' h = h.1

  is_over : (over : Bool) (s t : S) (held held' : List B) (over' : Bool) → TakesFirstUntilEnd steps parts over s held None over' t held' → over' ≡ true
  is_over true s t held held' over' h = h.1
  is_over false s t held held' over' h = h.1

  -- nothing is held, and the source gives an item whose list begins with b
  pub draws_item : (s t : S) (held : List B) (x : F) (b : B) (rest : List B) (over : Bool) → over ≡ false → held ≡ [] → steps s (Some x) t → parts x ≡ b ∷ rest
      → TakesFirstUntilEnd steps parts over s held (Some b) over t rest
  draws_item s t held x b rest over e none h first =
      let P : Bool → Type 0 = λ o. TakesFirstUntilEnd steps parts o s held (Some b) o t rest in
      let all : held ++ flat_map parts (x ∷ []) ≡ b ∷ rest = ap (λ l. l ++ flat_map parts (x ∷ [])) none ∙ append-nil (parts x) ∙ first in
      subst P (sym e) ((x ∷ [], rest, (t, h, refl), all, refl), refl)

-- before the end the source's count is the count
pub within_on : (over : Bool) (n : ℕ) (c : Count) → over ≡ false → IsWithinCount n c → IsWithinCount n (count_unless over c)
within_on true n c e h = absurd (cc e)
within_on false n c e h = h

-- one item more was drawn, and the first of its w entries was given: fewer are left
pub fewer_left : (over : Bool) (w held rest : ℕ) (before after : Count) → over ≡ false → rest + 1 ≡ w → (IsFinite before → IsFinite after × (size after < size before))
    → IsFinite (count_unless over (count_map (λ n. held + w * n) before))
    → IsFinite (count_unless over (count_map (λ n. rest + w * n) after))
    × (size (count_unless over (count_map (λ n. rest + w * n) after)) < size (count_unless over (count_map (λ n. held + w * n) before)))
fewer_left true w held rest before after e l k f = absurd (cc e)
fewer_left false w held rest before after e l k f =
    let later = k f in
    (later.0, omega (arith, l, one_more_block w (size after) (size before) later.1))

-- ---- calls in turn

module _ {S F B T : Type 0} (steps : S → Option F → S → Type 0) (parts : F → List B) (can_source : S → Type 0) (over : T → Bool) (source : T → S) (held : T → List B) where
  abbrev pub takes : T → Option B → T → Type 0
  takes s r t = TakesFirstUntilEnd steps parts (over s) (source s) (held s) r (over t) (source t) (held t)

  abbrev pub can : T → Type 0
  can s = over s ≡ false → can_source (source s)

  -- a call before the end
  abbrev takes_on : T → Option B → T → Type 0
  takes_on s r t = (over s ≡ false) × takes s r t

  goes : (s t : T) (b : B) → over s ≡ false → takes s (Some b) t → over t ≡ false
  goes s t b e h = goes_on steps parts (source s) (source t) (held s) (held t) b (over t) (rw e at h)

  draws : (s t : T) (r : Option B) → takes_on s r t → (all : List B) → held s ≡ all → Draws steps parts (source s) all r (source t) (λ rest. held t ≡ rest)
  draws s t r h all e = let taken = rw h.0 at h.1 in draws_held steps parts (source s) (source t) (held s) (held t) r taken.0 all e

  yields_on : (bs : List B) (s : T) → over s ≡ false → AlwaysYields takes_on (λ b. b) s bs → AlwaysYields takes (λ b. b) s bs
  yields_on [] s e y = λ b t h. y b t (e, h)
  yields_on (x ∷ bs) s e y = ((λ t h. y.0 t (e, h)), λ b t h. let m = y.1 b t (e, h) in (m.0, yields_on bs t (goes s t b e h) m.1))

  drains_on : (bs : List B) (s : T) → over s ≡ false → Drains takes s bs → Drains takes_on s bs
  drains_on [] s e d =
      let P : T → Type 0 = λ v. over v ≡ false in
      (d.0, (d.1.0, d.1.1, (subst P d.1.1 e, d.1.2)))
  drains_on (b ∷ bs) s e d =
      let first = d.1.1 in
      let m = drains_on bs first.0 (goes s first.0 b e first.1) (d.0, (d.1.0, first.2, d.1.2)) in
      (m.0, (m.1.0, (first.0, (e, first.1), m.1.1), m.1.2))

  -- where the source gives exactly some items, exactly what is held and their lists come
  pub all_values : (xs : List F) (s : T) → over s ≡ false → YieldsExactly steps (source s) xs → YieldsExactly takes s (held s ++ flat_map parts xs)
  all_values xs s e y =
      let on = YieldsExactly-drawn steps parts takes_on source (λ t all. held t ≡ all) draws xs s (held s) refl y in
      record { runs = yields_on (held s ++ flat_map parts xs) s e on.runs }

  -- what comes until the end is what is held and the lists of the items that the source gives until its end
  pub drawn_values : (bs : List B) (s : T) → over s ≡ false → Drains takes s bs → (xs : List F) × Drains steps (source s) xs × (bs ≡ held s ++ flat_map parts xs)
  drawn_values bs s e d = Drains-drawn steps parts takes_on source (λ t all. held t ≡ all) draws bs s (held s) refl (drains_on bs s e d)

  -- ---- calls after the end

  none_left : (s t : T) (r : Option B) → over s ≡ true → takes s r t → (r ≡ None) × (over t ≡ true)
  none_left s t r e h = let taken = rw e at h in (taken.0, taken.1)

  stays_over : (rs : List (Option B)) (s t : T) → over s ≡ true → Answers takes s rs t → over t ≡ true
  stays_over [] s t e h = let P : T → Type 0 = λ v. over v ≡ true in subst P h e
  stays_over (r ∷ rs) s t e h = stays_over rs h.0 t (none_left s h.0 r e h.1).1 h.2

  gives_none : (rs : List (Option B)) (s t : T) → over s ≡ true → Answers takes s rs t → All (λ r. r ≡ None) rs
  gives_none [] s t e h k d b = absurd (omega (arith, b))
  gives_none (r ∷ rs) s t e h zero d b = (none_left s h.0 r e h.1).0
  gives_none (r ∷ rs) s t e h (suc k) d b = gives_none rs h.0 t (none_left s h.0 r e h.1).1 h.2 k d (omega (arith, b))

  callable_over : (s : T) → over s ≡ true → can s
  callable_over s e = λ f. absurd (cc (e, f))

  pub ends_for_good : (s : T) → EndsForGood can takes s
  ends_for_good s = record {
    callable = λ before after t u v h n a. callable_over v (stays_over after u v (is_over steps parts (over t) (source t) (source u) (held t) (held u) (over u) n) a);
    nothing_more = λ before after t u v h n a. gives_none after u v (is_over steps parts (over t) (source t) (source u) (held t) (held u) (over u) n) a;
  }
