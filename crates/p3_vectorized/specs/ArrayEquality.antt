-- Equality of arrays.
use Rattle.std.specs.Prelude.{ℕ, Bool}
use Rattle.std.proofs.lemmas.Cmp.{lists_equiv}
use Rattle.std.specs.Cmp.{IsPartialEquivalence, IsEquivalence, on_per, on_equiv}
use Rattle.std.specs.Cmp.Lexicographic.{pointwise, lists_per}
use Rattle.p3_theory.specs.Lanes.Rows.{Row}

module _ {F : Type 0} {N : ℕ} where
  -- equality is that of the lists
  pub rows_per : {E : F → F → Bool} → IsPartialEquivalence E → IsPartialEquivalence {K = Row F N} (λ x y. pointwise E x.items y.items)
  rows_per p = on_per (λ (x : Row F N). x.items) (lists_per p)

  pub rows_equiv : {E : F → F → Bool} → IsEquivalence E → IsEquivalence {K = Row F N} (λ x y. pointwise E x.items y.items)
  rows_equiv p = on_equiv (λ (x : Row F N). x.items) (lists_equiv p)
