-- Lists that a loop writes item by item from another list.
use Rattle.std.proofs.Common.{◌≡◌, ◌+◌, ◌<◌, ℕ, List, [], ◌∷◌, ◌++◌, length, map, take, drop, get_or, sym, ap, ap₂, subst, ◌∙◌, arith, append_assoc}
use Rattle.std.specs.Prelude.{◌↔◌, All}
use Rattle.std.proofs.Math.ListN.{set}
use Rattle.std.proofs.lemmas.Grind.{take-set_at}
use Rattle.std.proofs.lemmas.List.{length-map, length-take, get_or-take, get_or-drop, drop_more, drop-drop, map_more, map-append, set_at}
use lib.Seq.{drop-set-lt}
use Rattle.std.proofs.lemmas.List.Elements.{All-more}

-- a loop that writes f x for each item x of ws over the items of another list
pub written-more : {T A : Type 0} (f : T → A) (ws : List T) (old xs : List A) (i : ℕ) (w : T) (y : A) → i < length ws → length old ≡ length ws
    → xs ≡ map f (take i ws) ++ drop i old → w ≡ get_or ws i w → y ≡ f w → set xs i y ≡ map f (take (i + 1) ws) ++ drop (i + 1) old
written-more f ws old xs i w y inside same h is e =
    let front = map f (take i ws) in
    let long : length front ≡ i = length-map (take i ws) f ∙ omega (arith, length-take i ws, inside) in
    let room : i < length old = omega (arith, inside, same) in
    ap (λ l. set l i y) (h ∙ ap (λ l. front ++ l) (drop_more old i y room)) ∙ set_at front _ _ y i long ∙ sym (append_assoc front (y ∷ []) _)
    ∙ ap (λ l. l ++ drop (i + 1) old) (ap (λ z. front ++ z ∷ []) (e ∙ ap f is) ∙ sym (map_more f ws i w inside))

-- what tells of the first items that each has a property, and of the next one that it has, tells it of one item more
pub holds-more : {T : Type 0} (P : T → Type 0) (ws : List T) (i : ℕ) (w : T) {A B : Type 0} → i < length ws → w ≡ get_or ws i w → (A ↔ All P (take i ws)) → (B ↔ (P w × A))
    → B ↔ All P (take (i + 1) ws)
holds-more P ws i w inside is before next =
    let long : length (take (i + 1) ws) ≡ i + 1 = omega (arith, length-take (i + 1) ws, inside) in (
      λ h.
          let both = next.0 h in
          All-more P ws i w inside (before.0 both.1) (subst P is both.0),
      λ h.
          let last : P w = subst P (get_or-take (i + 1) ws i w (omega arith) ∙ sym is) (h i w (omega (arith, long))) in
          let front : All P (take i ws) = λ k d lt.
          let below : k < i = omega (arith, lt, length-take i ws) in
          subst P (get_or-take (i + 1) ws k d (omega (arith, below)) ∙ sym (get_or-take i ws k d below)) (h k d (omega (arith, long, below))) in
          next.1 (last, before.1 front),
    )

-- a loop that writes v over each item n, where f v is g n
pub related-more : {T X : Type 0} (f g : T → X) (ws ys : List T) (i : ℕ) (n v : T) → i < length ws → length ys ≡ length ws → map f (take i ys) ≡ map g (take i ws) → drop i ys ≡ drop i ws
    → n ≡ get_or ys i n → f v ≡ g n → (map f (take (i + 1) (set ys i v)) ≡ map g (take (i + 1) ws)) × (drop (i + 1) (set ys i v) ≡ drop (i + 1) ws)
related-more f g ws ys i n v inside same done rest is e =
    let here : i + 0 ≡ i = omega arith in
    let room : i < length ys = omega (arith, inside, same) in
    let read : get_or ys i n ≡ get_or ws i n = ap (λ j. get_or ys j n) (sym here) ∙ sym (get_or-drop i ys 0 n) ∙ ap (λ l. get_or l 0 n) rest ∙ get_or-drop i ws 0 n ∙ ap (λ j. get_or ws j n) here in (
      ap (map f) (take-set_at ys i (i + 1) v (omega arith) room) ∙ map-append f (take i ys) (v ∷ []) ∙ ap₂ (λ a b. a ++ b ∷ []) done (e ∙ ap g (is ∙ read))
          ∙ sym (map_more g ws i n inside),
      drop-set-lt (i + 1) ys i v (omega arith) ∙ sym (drop-drop 1 i ys) ∙ ap (drop 1) rest ∙ drop-drop 1 i ws,
    )

-- a word that no round has written yet is one of the first list
pub stand-left : {T : Type 0} (P : T → Type 0) (ws ys : List T) (i : ℕ) (n : T) → i < length ws → drop i ys ≡ drop i ws → n ≡ get_or ys i n → All P ws → P n
stand-left P ws ys i n inside rest is h =
    let here : i + 0 ≡ i = omega arith in
    let read : get_or ys i n ≡ get_or ws i n = ap (λ j. get_or ys j n) (sym here) ∙ sym (get_or-drop i ys 0 n) ∙ ap (λ l. get_or l 0 n) rest ∙ get_or-drop i ws 0 n ∙ ap (λ j. get_or ws j n) here in
    subst P (sym (is ∙ read)) (h i n inside)
