-- A list from its items, read one by one.
use Rattle.std.specs.Prelude.{◌≡◌, ◌<◌, ◌+◌, ◌∷◌, ℕ, List, [], length, get_or, map, zero, suc, refl}
use Rattle.std.proofs.Common.{arith, ap, ap₂, sym, subst, ◌∙◌}
use Rattle.std.proofs.Math.ListN.{set}
use Rattle.std.proofs.lemmas.List.{map-set, length-map}
use Rattle.p3_theory.specs.Lists.ByIndex.{to-tabulate}
use Rattle.p3_theory.specs.Lists.TabulatedEntries.{HoldsBelow, holds-more, holds-all}

module _ {A : Type 0} where
  -- the items of ys stand in xs from index i on
  abbrev pub StandFrom : List A → ℕ → List A → Type 0
  StandFrom xs i [] = Unit {0}
  StandFrom xs i (y ∷ ys) = (y ≡ get_or xs i y) × StandFrom xs (suc i) ys

  after_first : (x : A) (xs ys : List A) (i : ℕ) → StandFrom (x ∷ xs) (suc i) ys → StandFrom xs i ys
  after_first x xs [] i h = tt
  after_first x xs (y ∷ ys) i h = (h.0, after_first x xs ys (suc i) h.1)

  -- a list is what was read of it, where that is as long
  pub items_are : (xs ys : List A) → length xs ≡ length ys → StandFrom xs 0 ys → xs ≡ ys
  items_are [] [] l h = λ i. []
  items_are [] (y ∷ ys) l h = absurd (omega arith)
  items_are (x ∷ xs) [] l h = absurd (omega arith)
  items_are (x ∷ xs) (y ∷ ys) l h =
      let rest : length xs ≡ length ys = omega arith in ap₂ (λ z zs. z ∷ zs) (sym h.0) (items_are xs ys rest (after_first x xs ys 0 h.1))

-- an item of a list, and its image in the mapped list
pub mapped_at : {A B : Type 0} (h : A → B) (xs : List A) (i : ℕ) (x : A) (d : B) → i < length xs → x ≡ get_or xs i x → get_or (map h xs) i d ≡ h x
mapped_at h [] i x d l e = absurd (omega arith)
mapped_at h (y ∷ ys) zero x d l e = ap h (sym e)
mapped_at h (y ∷ ys) (suc i) x d l e = mapped_at h ys i x d (omega arith) e

-- a list whose images are written one by one
module _ {A B : Type 0} (h : A → B) (d : B) (ys : List B) where
  -- the images of the first i items are those of ys
  abbrev pub ImagesBelow : List A → ℕ → Type 0
  ImagesBelow xs i = HoldsBelow (λ k. get_or ys k d) d (map h xs) i

  pub images-more : (xs : List A) (i : ℕ) (x : A) → i < length xs → ImagesBelow xs i → h x ≡ get_or ys i d → ImagesBelow (set xs i x) (i + 1)
  images-more xs i x l w e =
      let inside : i < length (map h xs) = omega (arith, l, length-map xs h) in
      subst (λ zs. HoldsBelow (λ k. get_or ys k d) d zs (i + 1)) (sym (map-set h xs i x))
      (holds-more (λ k. get_or ys k d) d (map h xs) i (h x) inside w e)

  pub images-all : (n : ℕ) (xs : List A) → length xs ≡ n → length ys ≡ n → ImagesBelow xs n → map h xs ≡ ys
  images-all n xs l k w =
      holds-all (λ k. get_or ys k d) d (map h xs) n (length-map xs h ∙ l) w ∙ sym (to-tabulate d n (λ k. get_or ys k d) ys k (λ j lt. refl))
