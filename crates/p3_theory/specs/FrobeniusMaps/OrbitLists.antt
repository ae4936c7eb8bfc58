-- The list of a value and its images under a map.
use Rattle.std.proofs.Common.{◌≡◌, ◌<◌, ◌+◌, ◌-◌, ℕ, zero, suc, List, [], ◌∷◌, ◌++◌, refl, sym, ap, ap₂, ◌∙◌, append_assoc, append-nil, arith}
use Rattle.p3_theory.specs.Rings.Ring.{Ops}
use Rattle.p3_theory.specs.Rings.Operators.{product_list}
use Rattle.p3_theory.specs.FrobeniusMaps.FrobeniusTable.{orbit_list}
use Rattle.p3_theory.specs.FrobeniusMaps.Iteration.{orbit}

module _ {B : Type 0} (s : B → B) where
  -- a list that takes one image more at each step
  pub orbit_list-step : (n i : ℕ) → i < n → (items more all : List B) (y next : B) → more ≡ items ++ y ∷ [] → next ≡ s y
      → items ++ orbit_list s (n - i) y ≡ all → more ++ orbit_list s (n - (i + 1)) next ≡ all
  orbit_list-step n i h items more all y next em en e =
      let left : n - i ≡ suc (n - (i + 1)) = omega arith in
      ap₂ (λ xs z. xs ++ orbit_list s (n - (i + 1)) z) em en
      ∙ append_assoc items (y ∷ []) (orbit_list s (n - (i + 1)) (s y))
      ∙ ap (λ k. items ++ orbit_list s k y) (sym left) ∙ e

  -- nothing is left
  pub orbit_list-end : (k : ℕ) → k ≡ 0 → (items all : List B) (y : B) → items ++ orbit_list s k y ≡ all → items ≡ all
  orbit_list-end k h items all y e = sym (append-nil items) ∙ ap (λ j. items ++ orbit_list s j y) (sym h) ∙ e

  -- the product of the list
  pub product-orbit_list : (O : Ops B) (n : ℕ) (b : B) → product_list O (orbit_list s n b) ≡ orbit O s n b
  product-orbit_list O zero b = refl
  product-orbit_list O (suc n) b = ap (O.mul b) (product-orbit_list O n (s b))
