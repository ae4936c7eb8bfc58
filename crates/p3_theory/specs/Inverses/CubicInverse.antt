-- Inverses modulo X^3 = w, from the items of the lists.
use Rattle.std.proofs.Common.{◌≡◌, ◌≢◌, List, [], ◌∷◌, refl, sym, ap, ◌∙◌}
use Rattle.p3_theory.specs.Rings.Ring.{Ring}
use Rattle.p3_theory.specs.Polynomials.Polynomial.{at, quotient_mul, binomial, embed}
use Rattle.p3_theory.specs.Lists.ByIndex.{to-tabulate}
use Rattle.p3_theory.specs.Inverses.CubicNorm.{cubic_norm, cubic_rest, cubic_found, cubic_exact}
use Rattle.p3_theory.specs.Inverses.ListInverses.{HasNoInverse}

module _ {A : Type 0} (R : Ring A) (w : A) where
  -- the product of the conjugates divided by the norm is an inverse
  pub cubic_inverse : (a r : List A) (a0 a1 a2 n m : A) → a ≡ a0 ∷ a1 ∷ a2 ∷ [] → n ≡ cubic_norm R.ops w a0 a1 a2 → R.mul n m ≡ R.one
      → r ≡ cubic_rest R.ops w m a0 a1 a2 → quotient_mul R.ops 3 (binomial R.ops 3 w) a r ≡ embed R.ops 3 R.one
  cubic_inverse a r a0 a1 a2 n m ea en e er =
      (λ i. quotient_mul R.ops 3 (binomial R.ops 3 w) (ea i) (er i)) ∙ cubic_found R w m a0 a1 a2 (ap (λ z. R.mul z m) (sym en) ∙ e)

  -- a value whose norm has no inverse has none
  pub cubic_absent : (a : List A) (a0 a1 a2 n : A) → a ≡ a0 ∷ a1 ∷ a2 ∷ [] → n ≡ cubic_norm R.ops w a0 a1 a2 → ((m : A) → R.mul n m ≢ R.one)
      → HasNoInverse R.ops 3 (binomial R.ops 3 w) a
  cubic_absent a a0 a1 a2 n ea en none y ly e =
      let b = at R.ops y in
      let eb : y ≡ b 0 ∷ b 1 ∷ b 2 ∷ [] = to-tabulate R.zero 3 b y ly (λ k lt. refl) in
      none (cubic_norm R.ops w (b 0) (b 1) (b 2))
      (ap (λ z. R.mul z (cubic_norm R.ops w (b 0) (b 1) (b 2))) en
      ∙ cubic_exact R w a0 a1 a2 (b 0) (b 1) (b 2) (sym (λ i. quotient_mul R.ops 3 (binomial R.ops 3 w) (ea i) (eb i)) ∙ e))
