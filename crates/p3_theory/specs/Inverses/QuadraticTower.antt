-- Pairs p + q * X with X * X = y over any ring: their norm, and which of them have an inverse.
use Rattle.std.proofs.Common.{◌≡◌, [], ◌∷◌, ap₂, ◌∙◌}
use Rattle.p3_theory.specs.Rings.Ring.{Ops, Ring, subtract}
use Rattle.p3_theory.specs.RingSolver.Reify.{by_laws, reads, yes}

module _ {A : Type 0} (O : Ops A) (y : A) where
  -- the two indices of the product of p + q * X and r + s * X
  abbrev pub pair_low : A → A → A → A → A
  pair_low p q r s = O.add (O.mul p r) (O.mul y (O.mul q s))

  -- the coefficient at X of the product of p + q X and r + s X
  abbrev pub pair_high : A → A → A → A → A
  pair_high p q r s = O.add (O.mul p s) (O.mul q r)

  -- p * p less y * q * q
  abbrev pub pair_norm : A → A → A
  pair_norm p q = subtract O (O.mul p p) (O.mul y (O.mul q q))

module _ {A : Type 0} (R : Ring A) (y : A) where
  low_is_norm : (p q m : A) → pair_low R.ops y p q (R.mul p m) (R.neg (R.mul q m)) ≡ R.mul (pair_norm R.ops y p q) m
  low_is_norm p q m = by_laws R.ops R.laws (p ∷ q ∷ m ∷ y ∷ []) (search reads depth 99 fits 99999) (search reads depth 99 fits 99999) yes

  -- the conjugate divided by the norm is an inverse
  pub pair_found : (p q m : A) → R.mul (pair_norm R.ops y p q) m ≡ R.one → pair_low R.ops y p q (R.mul p m) (R.neg (R.mul q m)) ≡ R.one
  pair_found p q m e = low_is_norm p q m ∙ e

  pub high_is_zero : (p q m : A) → pair_high R.ops y p q (R.mul p m) (R.neg (R.mul q m)) ≡ R.zero
  high_is_zero p q m = by_laws R.ops R.laws (p ∷ q ∷ m ∷ []) (search reads depth 99 fits 99999) (search reads depth 99 fits 99999) yes

  norms_of : (p q r s : A) → R.mul (pair_norm R.ops y p q) (pair_norm R.ops y r s) ≡ pair_norm R.ops y (pair_low R.ops y p q r s) (pair_high R.ops y p q r s)
  norms_of p q r s = by_laws R.ops R.laws (p ∷ q ∷ r ∷ s ∷ y ∷ []) (search reads depth 99 fits 99999) (search reads depth 99 fits 99999) yes

  norm_of_one : pair_norm R.ops y R.one R.zero ≡ R.one
  norm_of_one = by_laws R.ops R.laws (y ∷ []) (search reads depth 99 fits 99999) (search reads depth 99 fits 99999) yes

  -- the norm of what has an inverse has one
  pub pair_exact : (p q r s : A) → pair_low R.ops y p q r s ≡ R.one → pair_high R.ops y p q r s ≡ R.zero
      → R.mul (pair_norm R.ops y p q) (pair_norm R.ops y r s) ≡ R.one
  pair_exact p q r s e f = norms_of p q r s ∙ ap₂ (pair_norm R.ops y) e f ∙ norm_of_one
