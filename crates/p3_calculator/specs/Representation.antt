-- What a type owes to be a field of the calculator.
use Rattle.std.specs.Prelude.{◌≡◌, ◌≢◌, ◌<◌, ℕ, List, Option, Some, MatchOption, decimal}
use Rattle.p3_theory.specs.Rings.Ring.{Ops, Hom, IsInverse}
use Rattle.p3_theory.specs.Rings.Powers.{power}
use Rattle.p3_theory.specs.ResidueRings.Residues.{AreResidues}
use Rattle.p3_theory.specs.Roots.SquareRoots.{IsSquareRoot, FiniteFieldPremise}
use Rattle.p3_calculator.specs.Fields.{FieldSpec, ops, order, IsValue}

-- `coefficients` is one to one onto the coefficient lists of s, and takes O's operations to those of s
pub record Represents {A : Type 0} (s : FieldSpec) (O : Ops A) (coefficients : A → List ℕ) : Type 0 where
  pub above_one : 1 < order s
  pub valid : (x : A) → IsValue s (coefficients x)
  pub every : (cs : List ℕ) → IsValue s cs → (x : A) × (coefficients x ≡ cs)
  pub same : (x y : A) → coefficients x ≡ coefficients y → x ≡ y
  pub keeps : Hom O (ops s) coefficients

-- the canonical values are one to one onto the numbers below n, with the operations of residues; there
-- are n values, and each is written as its canonical value
pub record IsBase {A : Type 0} (n : ℕ) (canon : A → ℕ) (O : Ops A) (size : Option ℕ) (text : A → List ℕ) : Type 0 where
  pub residues : AreResidues n O canon
  pub size_is : size ≡ Some n
  pub texts : (x : A) → text x ≡ decimal (canon x)

-- `Some` of an inverse of x, and `None` where there is none
abbrev pub InverseOrNone : {A : Type 0} → Ops A → A → Option A → Type 0
InverseOrNone {A = A} O x o = MatchOption o ((y : A) → O.mul x y ≢ O.one) (λ y. IsInverse O x y)

-- `Some` of a square root of x, and `None` only where x isn't zero and, under the premise of a finite
-- field of n values with the generator g, has no root
abbrev pub RootOrNone : {A : Type 0} → Ops A → ℕ → A → A → Option A → Type 0
RootOrNone {A = A} O n g x o =
    MatchOption o ((x ≢ O.zero) × ((s q : ℕ) → FiniteFieldPremise O n s q (power O g q) → (r : A) → IsSquareRoot O x r → ⊥)) (λ r. IsSquareRoot O x r)
