-- The calculator's fields by numbers: residues, and polynomials modulo a polynomial, as coefficient lists.
use Rattle.std.specs.Prelude.{◌≡◌, ◌<◌, ◌^◌, ◌%◌, ℕ, List, [], ◌∷◌, length}
use Rattle.p3_theory.specs.Rings.Ring.{Ops}
use Rattle.p3_theory.specs.Polynomials.Polynomial.{at, quotient_ops}
use Rattle.p3_theory.specs.ResidueRings.Residues.{residues}

-- the residues modulo n, or the polynomials over them modulo one of degree D, given by its coefficients;
-- last comes an element, by which square roots are looked for
pub data FieldSpec : Type 0 where
  ResiduesModulo : ℕ → ℕ → FieldSpec
  PolynomialsModulo : ℕ → ℕ → List ℕ → List ℕ → FieldSpec

-- the order of the base
abbrev pub order : FieldSpec → ℕ
order (ResiduesModulo n g) = n
order (PolynomialsModulo n D f g) = n

-- how many coefficients a value has
abbrev pub dimension : FieldSpec → ℕ
dimension (ResiduesModulo n g) = 1
dimension (PolynomialsModulo n D f g) = D

-- how many values the field has
abbrev pub value_count : FieldSpec → ℕ
value_count s = order s ^ dimension s

-- the element by which square roots are looked for
abbrev pub generator_of : FieldSpec → List ℕ
generator_of (ResiduesModulo n g) = g % n ∷ []
generator_of (PolynomialsModulo n D f g) = g

-- operations on lists of one entry
abbrev pub on_one_entry : {A : Type 0} → Ops A → Ops (List A)
on_one_entry O = record {
  zero = O.zero ∷ [];
  one = O.one ∷ [];
  add = λ a b. O.add (at O a 0) (at O b 0) ∷ [];
  neg = λ a. O.neg (at O a 0) ∷ [];
  mul = λ a b. O.mul (at O a 0) (at O b 0) ∷ [];
}

-- a field's operations on coefficient lists
abbrev pub ops : FieldSpec → Ops (List ℕ)
ops (ResiduesModulo n g) = on_one_entry (residues n)
ops (PolynomialsModulo n D f g) = quotient_ops (residues n) D f

-- every entry is below n
abbrev pub AllBelow : ℕ → List ℕ → Type 0
AllBelow n [] = Unit {0}
AllBelow n (c ∷ cs) = (c < n) × AllBelow n cs

-- the coefficient lists of the field's values
abbrev pub IsValue : FieldSpec → List ℕ → Type 0
IsValue s cs = (length cs ≡ dimension s) × AllBelow (order s) cs
