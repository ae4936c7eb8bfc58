-- Values in the order of their coefficient lists, and the value whose coefficients are all zero.
use Rattle.std.specs.Prelude.{◌≡◌, ℕ, Bool, Option, List, replicate}
use Rattle.std.specs.Cmp.{IsPartialOrder, IsTotalOrder, on_po, on_total}
use Rattle.std.specs.Cmp.Lexicographic.{pointwise, slice_cmp, slice_partial_cmp, lists_po, lists_total}
use Rattle.std.specs.declared.cmp.Ordering.{Ordering}
use Rattle.p3_theory.specs.Rings.Ring.{Ops}
use Rattle.p3_theory.specs.Lists.ByIndex.{zero-list}
use Rattle.std.proofs.Common.{refl, ◌∙◌}
use Rattle.p3_extension.specs.declared.extension.ext_field.ExtField.{ExtField}
use Rattle.p3_extension.specs.Values.{ext_ops, same_value}

module _ {F : Type 0} {D : ℕ} {S A : Type 0} where
  -- the order is that of the lists
  pub values_po : {E : A → A → Bool} {C : A → A → Option Ordering} → IsPartialOrder E C
      → IsPartialOrder {K = ExtField F D S A} (λ x y. pointwise E x.value y.value) (λ x y. slice_partial_cmp C x.value y.value)
  values_po p = on_po (λ (x : ExtField F D S A). x.value) (lists_po p)

  pub values_total : {R : A → A → Ordering} → IsTotalOrder R → IsTotalOrder {K = ExtField F D S A} (λ x y. slice_cmp R x.value y.value)
  values_total p = on_total (λ (x : ExtField F D S A). x.value) (lists_total p)

  -- the value whose coefficients are all zero is the zero of the extension
  pub zero_value : (o : Ops A) (f : List A) (x : ExtField F D S A) → x.value ≡ replicate D o.zero → x ≡ (ext_ops o f).zero
  zero_value o f x e = same_value x (ext_ops o f).zero (e ∙ zero-list o D o.zero refl)
