-- Inverses and equality among residues.
use Rattle.std.specs.Prelude.{◌≡◌, ◌≢◌, ℕ, ◌*◌, ◌%◌, ◌==◌, Decides}
use Rattle.std.specs.Ordering.{on}
use Rattle.std.proofs.Common.{ap, sym, arith, ◌∙◌}
use Rattle.std.proofs.Math.Nat.{mod-eq_of_lt}
use Rattle.std.proofs.lemmas.Bool.Decides.{Decides-eqb}
use Rattle.p3_theory.specs.Rings.Ring.{IsInverse, ring_of}
use Rattle.p3_theory.specs.Rings.Basics.{quotient_exact}
use Rattle.p3_theory.specs.ResidueRings.Residues.{IsResidues, residue_ops, is_of, same_canon, residue_laws}

-- y is an inverse of x modulo n
abbrev pub IsInverseModulo : ℕ → ℕ → ℕ → Type 0
IsInverseModulo n x y = (x * y) % n ≡ 1

module _ {A : Type 0} {n : ℕ} {canon : A → ℕ} {of : ℕ → A} (is : IsResidues n canon of) where
  -- values are inverses where their canonical values are
  pub inverse_of_modulo : (x y : A) → IsInverseModulo n (canon x) (canon y) → IsInverse (residue_ops n canon of) x y
  inverse_of_modulo x y h = is_of is (of (canon x * canon y)) 1 (is.canon_of _ ∙ h ∙ sym (mod-eq_of_lt is.above_one))

  pub modulo_of_inverse : (x y : A) → IsInverse (residue_ops n canon of) x y → IsInverseModulo n (canon x) (canon y)
  modulo_of_inverse x y h = sym (is.canon_of _) ∙ ap canon h ∙ is.canon_of 1 ∙ mod-eq_of_lt is.above_one

  -- a product with an inverse of the divisor, times the divisor, is what was divided
  pub divided : (x y z r : A) → IsInverse (residue_ops n canon of) y z → canon r ≡ (canon x * canon z) % n
      → (residue_ops n canon of).mul r y ≡ x
  divided x y z r h e = quotient_exact (ring_of (residue_laws is)) x y z r h (is_of is r (canon x * canon z) e)

  -- the order is above one
  pub zero_is_not_one : of 0 ≢ of 1
  zero_is_not_one h =
      let zero_is : 0 ≡ canon (of 0) = sym (is.canon_of 0 ∙ mod-eq_of_lt (omega (arith, is.above_one))) in
      let one_is : canon (of 1) ≡ 1 = is.canon_of 1 ∙ mod-eq_of_lt is.above_one in
      let same : canon (of 0) ≡ canon (of 1) = ap canon h in
      omega (arith, zero_is, same, one_is)

  -- values are equal where their canonical values are
  pub same_where_equal : (x y : A) → Decides (on canon ◌==◌ x y) (x ≡ y)
  same_where_equal x y = (λ h. same_canon is x y ((Decides-eqb (canon x) (canon y)).0 h), λ h. (Decides-eqb (canon x) (canon y)).1 (ap canon h))
