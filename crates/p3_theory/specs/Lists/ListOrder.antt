-- Lists in the order of the first entries that differ.
use Rattle.std.specs.Prelude.{◌≡◌, ◌↔◌, ℕ, zero, suc, Bool, true, List, [], ◌∷◌, length, take, slice_get, Some, Decides}
use Rattle.std.proofs.Common.{refl, sym, ap, ap₂, ◌∙◌}
use Rattle.std.specs.Ordering.{eq_by_cmp, is_eq, ordering_then}
use Rattle.std.specs.Cmp.Lexicographic.{slice_cmp}
use Rattle.std.specs.declared.cmp.Ordering.{Ordering}
use Rattle.std.specs.declared.cmp.Ordering.TheVariants.{Less, Equal, Greater}

-- the lists are the same up to an index, where the entry of the first is less
abbrev pub IsLessAtFirst : {A : Type 0} → (A → A → Ordering) → List A → List A → Type 0
IsLessAtFirst {A} R xs ys = (i : ℕ) × (take i xs ≡ take i ys) × (a : A) × (b : A) × (slice_get xs i ≡ Some a) × (slice_get ys i ≡ Some b) × (R a b ≡ Less)

-- what ties is equal, where a test that decides equality holds of what ties
pub tied_equal : {A : Type 0} {E : A → A → Bool} (R : A → A → Ordering) → ((x y : A) → E x y ≡ eq_by_cmp R x y) → ((x y : A) → Decides (E x y) (x ≡ y))
    → (x y : A) → (R x y ≡ Equal) ↔ (x ≡ y)
tied_equal R t d x y = (λ e. (d x y).0 (t x y ∙ ap is_eq e), λ e. is_tie (R x y) (sym (t x y) ∙ (d x y).1 e))
  where
    is_tie : (r : Ordering) → is_eq r ≡ true → r ≡ Equal
    is_tie Less e = absurd (cc e)
    is_tie Equal e = refl
    is_tie Greater e = absurd (cc e)

then_tied : (r s : Ordering) → ordering_then r s ≡ Equal → (r ≡ Equal) × (s ≡ Equal)
then_tied Less s e = absurd (cc e)
then_tied Equal s e = (refl, e)
then_tied Greater s e = absurd (cc e)

module _ {A : Type 0} {R : A → A → Ordering} (ties : (x y : A) → (R x y ≡ Equal) ↔ (x ≡ y)) where
  itself : (xs : List A) → slice_cmp R xs xs ≡ Equal
  itself [] = refl
  itself (x ∷ xs) = ap₂ ordering_then ((ties x x).1 refl) (itself xs)

  same : (xs ys : List A) → slice_cmp R xs ys ≡ Equal → xs ≡ ys
  same [] [] e = refl
  same [] (y ∷ ys) e = absurd (cc e)
  same (x ∷ xs) [] e = absurd (cc e)
  same (x ∷ xs) (y ∷ ys) e = let t = then_tied (R x y) (slice_cmp R xs ys) e in ap₂ (λ z zs. z ∷ zs) ((ties x y).0 t.0) (same xs ys t.1)

  -- lists tie where they are equal
  pub lists_tie : (xs ys : List A) → (slice_cmp R xs ys ≡ Equal) ↔ (xs ≡ ys)
  lists_tie xs ys = (same xs ys, λ e. ap (slice_cmp R xs) (sym e) ∙ itself xs)

  step : (x y : A) (xs ys : List A) (r : Ordering) → R x y ≡ r → ordering_then r (slice_cmp R xs ys) ≡ Less → (slice_cmp R xs ys ≡ Less → IsLessAtFirst R xs ys) → IsLessAtFirst R (x ∷ xs) (y ∷ ys)
  step x y xs ys Less h e next = (0, refl, x, y, refl, refl, h)
  step x y xs ys Equal h e next = let n = next e in (suc n.0, ap₂ (λ z zs. z ∷ zs) ((ties x y).0 h) n.1, n.2, n.3, n.4, n.5, n.6)
  step x y xs ys Greater h e next = absurd (cc e)

  first_less : (xs ys : List A) → length xs ≡ length ys → slice_cmp R xs ys ≡ Less → IsLessAtFirst R xs ys
  first_less [] [] l e = absurd (cc e)
  first_less [] (y ∷ ys) l e = absurd (cc l)
  first_less (x ∷ xs) [] l e = absurd (cc e)
  first_less (x ∷ xs) (y ∷ ys) l e = step x y xs ys (R x y) refl e (first_less xs ys (cc l))

  less_by_first : (i : ℕ) (xs ys : List A) (a b : A) → take i xs ≡ take i ys → slice_get xs i ≡ Some a → slice_get ys i ≡ Some b → R a b ≡ Less → slice_cmp R xs ys ≡ Less
  less_by_first i [] ys a b t f g h = absurd (cc f)
  less_by_first i (x ∷ xs) [] a b t f g h = absurd (cc g)
  less_by_first zero (x ∷ xs) (y ∷ ys) a b t f g h = ap (λ r. ordering_then r (slice_cmp R xs ys)) (ap₂ R (cc f) (cc g) ∙ h)
  less_by_first (suc i) (x ∷ xs) (y ∷ ys) a b t f g h =
      let head : x ≡ y = cc t in
      let tail : take i xs ≡ take i ys = cc t in
      ap₂ ordering_then ((ties x y).1 head) (less_by_first i xs ys a b tail f g h)

  -- of lists of one length the less one is that whose first entry that differs is less
  pub less_at_first : (xs ys : List A) → length xs ≡ length ys → (slice_cmp R xs ys ≡ Less) ↔ IsLessAtFirst R xs ys
  less_at_first xs ys l = (first_less xs ys l, λ (i, t, a, b, f, g, h). less_by_first i xs ys a b t f g h)
