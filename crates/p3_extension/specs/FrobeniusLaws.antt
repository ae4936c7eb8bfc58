-- The Frobenius map of values keeps what its table keeps.
use Rattle.std.specs.Prelude.{◌≡◌, ℕ, List}
use Rattle.std.proofs.Common.{ap, ◌∙◌, sym}
use Rattle.p3_theory.specs.Rings.Ring.{Ops}
use Rattle.p3_theory.specs.FrobeniusMaps.Frobenius.{iterate, IsFrobenius}
use Rattle.p3_theory.specs.FrobeniusMaps.FrobeniusTable.{frobenius_list, IsFrobeniusTable}
use Rattle.p3_extension.specs.Values.{constant, ext_ops, same_value}
use Rattle.p3_extension.specs.Conjugates.{frobenius_map, whole_turn, iterate-value}
use Rattle.p3_extension.specs.declared.extension.ext_field.ExtField.{ExtField}

module _ {F S A : Type 0} {D : ℕ} (o : Ops A) (f phi : List A) (L : IsFrobeniusTable o D f phi) where
  pub map_keeps_sums : (x y : ExtField F D S A)
      → frobenius_map o f phi ((ext_ops o f).add x y) ≡ (ext_ops o f).add (frobenius_map o f phi x) (frobenius_map o f phi y)
  map_keeps_sums x y = same_value _ _ (L.add x.value y.value x.sized y.sized)

  pub map_is_frobenius : IsFrobenius o (ext_ops {F = F} {D = D} {S = S} o f) (constant o) D (frobenius_map o f phi)
  map_is_frobenius = record {
    mul = λ x y. same_value _ _ (L.mul x.value y.value x.sized y.sized);
    embedded = λ x. same_value _ _ (L.embedded x);
    order = whole_turn o f phi L;
    fixed = λ x e. let r = L.fixed x.value x.sized (ap (λ (z : ExtField F D S A). z.value) e) in (r.0, same_value x (constant o r.0) r.1);
  }

  -- the map taken n times, on coefficient lists, is that of the count modulo D
  pub repeated_value : (n m : ℕ) → ((x : ExtField F D S A) → iterate (frobenius_map o f phi) m x ≡ iterate (frobenius_map o f phi) n x) → (x r : ExtField F D S A)
      → r.value ≡ iterate (frobenius_list o D f phi) m x.value → r ≡ iterate (frobenius_map o f phi) n x
  repeated_value n m same x r e =
      same_value r (iterate (frobenius_map o f phi) m x) (e ∙ sym (iterate-value o f phi m x)) ∙ same x
