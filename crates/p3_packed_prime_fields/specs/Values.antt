-- Values side by side: lists of N values, one by one.
use Rattle.std.specs.Prelude.{◌≡◌, ℕ, List, length, refl, Bool}
use Rattle.std.proofs.Common.{ap, subst}
use Rattle.std.proofs.Math.Nat.{ℕ_set}
use Rattle.std.proofs.lemmas.Cmp.{lists_equiv}
use Rattle.std.specs.Cmp.{IsPartialEquivalence, IsEquivalence, on_per, on_equiv}
use Rattle.std.specs.Cmp.Lexicographic.{pointwise, lists_per}
use Rattle.p3_theory.specs.Lanes.Rows.{Rows}
use Rattle.p3_packed_prime_fields.specs.declared.packed.Packed.{Packed}

module _ {F : Type 0} {N : ℕ} where
  -- the packing with these N values
  abbrev pub value_of : (v : List F) → length v ≡ N → Packed F N
  value_of v h = record { value = v; sized = h }

  pub same_value : (x y : Packed F N) → x.value ≡ y.value → x ≡ y
  same_value x y e =
      (subst (λ (v : List F). (k : length v ≡ N) → value_of x.value x.sized ≡ value_of v k) e (λ k. ap (value_of x.value) (ℕ_set _ _ x.sized k))) y.sized

  -- the values of a packing are lists of N values
  abbrev pub packed_rows : Rows (Packed F N) F N
  packed_rows = record { items = λ x. x.value; sized = λ x. x.sized; row_of = value_of; items_of = λ xs h. refl; same = same_value }

  -- equality is that of the lists
  pub values_per : {E : F → F → Bool} → IsPartialEquivalence E → IsPartialEquivalence {K = Packed F N} (λ x y. pointwise E x.value y.value)
  values_per p = on_per (λ (x : Packed F N). x.value) (lists_per p)

  pub values_equiv : {E : F → F → Bool} → IsEquivalence E → IsEquivalence {K = Packed F N} (λ x y. pointwise E x.value y.value)
  values_equiv p = on_equiv (λ (x : Packed F N). x.value) (lists_equiv p)
