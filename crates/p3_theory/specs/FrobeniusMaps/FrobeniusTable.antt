-- The Frobenius map on coefficient lists as the sum of a i * phi^i, its laws, and the few equations that prove them of a concrete table.
use Rattle.std.specs.Prelude.{◌≡◌, ℕ, zero, suc, pred, List, [], ◌∷◌, length, get_or}
use Rattle.p3_theory.specs.Rings.Ring.{Ops}
use Rattle.p3_theory.specs.Polynomials.Polynomial.{at, tabulate, remainder, quotient_add, quotient_mul, quotient_ops, embed, monomial}
use Rattle.p3_theory.specs.Rings.Powers.{power, sum_of}
use Rattle.p3_theory.specs.FrobeniusMaps.Frobenius.{iterate}

-- v, step v, .., n of them
abbrev pub orbit_list : {B : Type 0} → (B → B) → ℕ → B → List B
orbit_list step zero v = []
orbit_list step (suc n) v = v ∷ orbit_list step n (step v)

-- row i of a table; no coefficients past its end
abbrev pub row : {A : Type 0} → List (List A) → ℕ → List A
row table i = get_or table i []

module _ {A : Type 0} (o : Ops A) where
  -- index k holds the sum of a i times index k of row i
  abbrev pub row_sum : ℕ → (ℕ → List A) → List A → List A
  row_sum D row a = tabulate D (λ k. sum_of o D (λ i. o.mul (at o a i) (at o (row i) k)))

  -- the Frobenius map: X becomes phi, so the rows are the powers of phi
  abbrev pub frobenius_list : ℕ → List A → List A → List A → List A
  frobenius_list D f phi a = row_sum D (power (quotient_ops o D f) phi) a

  -- the laws, on lists of length D: sums, products and the base are kept, D times is the identity, and only base values stay
  pub record IsFrobeniusTable (D : ℕ) (f phi : List A) : Type 0 where
    pub width : length phi ≡ D
    pub add : (a b : List A) → length a ≡ D → length b ≡ D → frobenius_list D f phi (quotient_add o D a b) ≡ quotient_add o D (frobenius_list D f phi a) (frobenius_list D f phi b)
    pub mul : (a b : List A) → length a ≡ D → length b ≡ D → frobenius_list D f phi (quotient_mul o D f a b) ≡ quotient_mul o D f (frobenius_list D f phi a) (frobenius_list D f phi b)
    pub embedded : (x : A) → frobenius_list D f phi (embed o D x) ≡ embed o D x
    pub order : (a : List A) → length a ≡ D → iterate (frobenius_list D f phi) D a ≡ a
    pub fixed : (a : List A) → length a ≡ D → frobenius_list D f phi a ≡ a → (x : A) × (a ≡ embed o D x)

  -- the list c at phi, by Horner's rule
  abbrev pub value_at : ℕ → List A → List A → List A → List A
  value_at D f phi [] = embed o D o.zero
  value_at D f phi (x ∷ c) = quotient_add o D (embed o D x) (quotient_mul o D f phi (value_at D f phi c))

  -- the sum of the products of the entries of two lists below index D
  abbrev pub dot : ℕ → List A → List A → A
  dot D l a = sum_of o D (λ j. o.mul (at o a j) (at o l j))

  -- X
  abbrev pub unknown : ℕ → List A → List A
  unknown D f = remainder o D f (o.zero ∷ o.one ∷ [])

  -- the four equations that a concrete table owes. dual: from sigma a - a back to the indices above 0
  pub record TableProof (D : ℕ) (f phi : List A) (table dual : List (List A)) : Type 0 where
    pub width : length phi ≡ D
    pub rows : orbit_list (quotient_mul o D f phi) D (embed o D o.one) ≡ table
    pub root : value_at D f phi f ≡ embed o D o.zero
    pub order : iterate (row_sum D (row table)) D (unknown D f) ≡ unknown D f
    pub apart : tabulate (pred D) (λ k. tabulate D (λ i. dot D (row dual k) (row table i)))
        ≡ tabulate (pred D) (λ k. tabulate D (λ i. o.add (at o (row dual k) i) (at o (monomial o (suc k)) i)))
