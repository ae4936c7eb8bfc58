-- Which values are embedded scalars.
use Rattle.std.specs.Prelude.{◌↔◌, ◌≢◌, Option, Some, None, IsSome, IfSome, MatchOption}
use Rattle.std.proofs.Common.{◌≡◌, ◌<◌, ◌≤◌, ℕ, zero, suc, List, [], ◌∷◌, length, sym, ap, subst, arith, ◌∙◌}
use Rattle.std.proofs.Math.Bool.{false≢true}
use Rattle.std.proofs.Math.Decide.{dec_le}
use Rattle.std.proofs.lemmas.List.{get_or_past}
use mathlib.Core.Logic.{dite}
use Rattle.p3_theory.specs.Rings.Ring.{Ops}
use Rattle.p3_theory.specs.Polynomials.Polynomial.{at, embed}
use Rattle.p3_theory.specs.Polynomials.Coefficients.{length-tabulate}
use Rattle.p3_theory.specs.Lists.ByIndex.{get-tabulate}
use Rattle.p3_theory.specs.Bases.BasisSums.{IsScalar}

-- e takes some element to x
abbrev pub IsEmbedded : {A B : Type 0} → (A → B) → B → Type 0
IsEmbedded {A = A} e x = (s : A) × (e s ≡ x)

-- x, 0, .., 0 is a scalar
pub embedded-scalar : {A : Type 0} (O : Ops A) (D : ℕ) (x : A) → IsScalar O (embed O D x)
embedded-scalar O D x zero h = absurd (omega (arith, h))
embedded-scalar O D x (suc k) h = dite (dec_le D (suc k)) (λ past. get_or_past (embed O D x) (suc k) O.zero (short past)) (λ n. get-tabulate D (at O (x ∷ [])) (suc k) O.zero (below n))
  where
    short : D ≤ suc k → length (embed O D x) ≤ suc k
    short past = omega (arith, past, length-tabulate D (at O (x ∷ [])))

    below : (D ≤ suc k → ⊥) → suc k < D
    below n = omega (arith, n)

-- what is told by the coefficients is told of the embedding
pub embedded_exactly : {A B : Type 0} (O : Ops A) (D : ℕ) (coefficients : B → List A) (e : A → B) → ((x : A) → coefficients (e x) ≡ embed O D x)
    → (v : B) (r : Option A) → (IsSome r ↔ IsScalar O (coefficients v)) → IfSome r (λ s. e s ≡ v) → MatchOption r ((s : A) → e s ≢ v) (λ s. e s ≡ v)
embedded_exactly O D coefficients e scalars v (Some x) exact here = here
embedded_exactly O D coefficients e scalars v None exact here = λ s h. false≢true (exact.1 (subst (IsScalar O) (sym (scalars s) ∙ ap coefficients h) (embedded-scalar O D s)))
