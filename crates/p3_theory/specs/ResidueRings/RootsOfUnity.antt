-- Roots of unity among the residues, told by computation on numbers.
use Rattle.std.specs.Prelude.{◌≡◌, ◌≤◌, ◌<◌, ◌==◌, ◌&&◌, Bool, true, ℕ, suc, List, [], ◌∷◌}
use Rattle.std.proofs.Common.{ap, ap₂, arith, ◌∙◌, sym, eq-or-lt_of_le, inl, inr}
use Rattle.std.proofs.lemmas.Bool.{eqb-true}
use Rattle.p3_theory.specs.Rings.Ring.{Ops, Hom, Invertible, subtract}
use Rattle.p3_theory.specs.Rings.Powers.{power}
use Rattle.p3_theory.specs.Rings.Homomorphism.{map-power}
use Rattle.p3_theory.specs.RingSolver.SolverSound.{and_true}
use Rattle.p3_theory.specs.ResidueRings.Residues.{residues, IsResidues, residue_ops, of_keeps}

-- the listed numbers are the inverses of r^k - 1, r^(k + 1) - 1, and so on, up to r^D - 1, which has none
abbrev pub apart_from : ℕ → ℕ → ℕ → ℕ → List ℕ → Bool
apart_from n r k D [] = k == D
apart_from n r k D (i ∷ inverses) =
    (residues n).mul (subtract (residues n) (power (residues n) r k) 1) i == 1 && apart_from n r (suc k) D inverses

-- r has order D modulo n, and its powers between are apart from one by the inverses given
abbrev pub is_root_of_unity : ℕ → ℕ → ℕ → List ℕ → Bool
is_root_of_unity n D r inverses = power (residues n) r D == 1 && apart_from n r 1 D inverses

module _ {A : Type 0} {n : ℕ} {canon : A → ℕ} {of : ℕ → A} (is : IsResidues n canon of) (D r : ℕ) (inverses : List ℕ) where
  abbrev O : Ops A
  O = residue_ops n canon of

  abbrev h : Hom (residues n) O of
  h = of_keeps is

  pub root_power : is_root_of_unity n D r inverses ≡ true → power O (of r) D ≡ O.one
  root_power t = sym (map-power h r D) ∙ ap of (eqb-true _ 1 (and_true _ _ t).0)

  apart : (k : ℕ) (is_ : List ℕ) → apart_from n r k D is_ ≡ true → (j : ℕ) → k ≤ j → j < D → Invertible O (subtract O (power O (of r) j) O.one)
  apart k [] t j a b = let e : k ≡ D = eqb-true k D t in absurd (omega (arith, e))
  apart k (i ∷ is_) t j a b = elim (eq-or-lt_of_le a) [
    | inl e ↦ (
      of i,
      ap (λ j. O.mul (subtract O (power O (of r) j) O.one) (of i)) (sym e)
          ∙ ap (λ x. O.mul x (of i)) (ap₂ O.add (sym (map-power h r k)) (sym (h.neg 1)) ∙ sym (h.add _ _)) ∙ sym (h.mul _ i)
          ∙ ap of (eqb-true _ 1 (and_true _ _ t).0),
    )
    | inr l ↦ apart (suc k) is_ (and_true _ _ t).1 j l b
  ]

  pub root_apart : is_root_of_unity n D r inverses ≡ true → (k : ℕ) → 1 ≤ k → k < D → Invertible O (subtract O (power O (of r) k) O.one)
  root_apart t = apart 1 inverses (and_true _ _ t).1
