-- A commutative ring, expressions over its elements, and polynomials as their normal form.
use Rattle.std.specs.Prelude.{ℕ, zero, suc, ◌+◌, ◌*◌, Bool, true, false, ◌&&◌, eqb, ltb, List, [], ◌∷◌}
use Rattle.p3_theory.specs.Rings.Ring.{Ops}

-- an expression: a variable by its index, a numeral, a sum, a product, a negation
pub data Expr : Type 0 where
  V : ℕ → Expr
  K : ℕ → Expr
  ◌⊕◌ : Expr → Expr → Expr
  ◌⊗◌ : Expr → Expr → Expr
  ⊝◌ : Expr → Expr

infixl 60 ◌⊕◌
infixl 60 ◌⊖◌
infixl 70 ◌⊗◌
infix 80 ⊝◌
-- the difference of two expressions
abbrev pub ◌⊖◌ : Expr → Expr → Expr
a ⊖ b = a ⊕ (⊝ b)

-- the element at an index of the list of the variables' values
abbrev pub at : {A : Type 0} → A → List A → ℕ → A
at d [] n = d
at d (x ∷ xs) zero = x
at d (x ∷ xs) (suc n) = at d xs n

-- the sum of n ones
abbrev pub nat : {A : Type 0} → Ops A → ℕ → A
nat o zero = o.zero
nat o (suc zero) = o.one
nat o (suc (suc n)) = o.add (nat o (suc n)) o.one

-- the value of an expression, where variable i has the value at index i
abbrev pub eval : {A : Type 0} → Ops A → List A → Expr → A
eval o env (V i) = at o.zero env i
eval o env (K n) = nat o n
eval o env (a ⊕ b) = o.add (eval o env a) (eval o env b)
eval o env (a ⊗ b) = o.mul (eval o env a) (eval o env b)
eval o env (⊝ a) = o.neg (eval o env a)

-- a polynomial: the constant a - b, or x_i * p + q
pub data Poly : Type 0 where
  C : ℕ → ℕ → Poly
  X : ℕ → Poly → Poly → Poly

-- x_i * p + q, where p may be 0
abbrev pub node : ℕ → Poly → Poly → Poly
node i (C a b) q = elim (eqb a b) [ true ↦ q | false ↦ X i (C a b) q ]
node i (X j r s) q = X i (X j r s) q

-- a polynomial and the constant a - b, summed
abbrev pub add_const : ℕ → ℕ → Poly → Poly
add_const a b (C c d) = C (a + c) (b + d)
add_const a b (X j r s) = X j r (add_const a b s)

-- the sum of x_i * p + q and another, where fp and fq add p and q
abbrev pub add_node : (Poly → Poly) → (Poly → Poly) → ℕ → Poly → Poly → Poly → Poly
add_node fp fq i p q (C a b) = X i p (fq (C a b))
add_node fp fq i p q (X j r s) =
    elim (eqb i j) [ true ↦ node i (fp r) (fq s) | false ↦ elim (ltb i j) [ true ↦ X i p (fq (X j r s)) | false ↦ X j r (add_node fp fq i p q s) ] ]

-- the sum of two polynomials in normal form
abbrev pub add_poly : Poly → Poly → Poly
add_poly (C a b) = add_const a b
add_poly (X i p q) = add_node (add_poly p) (add_poly q) i p q

-- the negation of a polynomial in normal form
abbrev pub neg_poly : Poly → Poly
neg_poly (C a b) = C b a
neg_poly (X i p q) = X i (neg_poly p) (neg_poly q)

-- a polynomial in normal form times the constant a - b
abbrev pub scale : ℕ → ℕ → Poly → Poly
scale a b (C c d) = C (a * c + b * d) (a * d + b * c)
scale a b (X i p q) = X i (scale a b p) (scale a b q)

-- x_i times a polynomial
abbrev pub mul_var : ℕ → Poly → Poly
mul_var i (C a b) = node i (C a b) (C 0 0)
mul_var i (X j r s) =
    elim (ltb j i) [ true ↦ X j (mul_var i r) (mul_var i s) | false ↦ X i (X j r s) (C 0 0) ]

-- the product of two polynomials in normal form
abbrev pub mul_poly : Poly → Poly → Poly
mul_poly (C a b) g = elim (eqb a b) [ true ↦ C 0 0 | false ↦ scale a b g ]
mul_poly (X i p q) g = add_poly (mul_var i (mul_poly p g)) (mul_poly q g)

-- the normal form of an expression
abbrev pub norm : Expr → Poly
norm (V i) = X i (C 1 0) (C 0 0)
norm (K n) = C n 0
norm (a ⊕ b) = add_poly (norm a) (norm b)
norm (a ⊗ b) = mul_poly (norm a) (norm b)
norm (⊝ a) = neg_poly (norm a)

-- whether each coefficient is 0
abbrev pub is_zero : Poly → Bool
is_zero (C a b) = eqb a b
is_zero (X i p q) = is_zero p && is_zero q

-- whether two expressions are equal in each commutative ring
abbrev pub same : Expr → Expr → Bool
same a b = is_zero (norm (a ⊖ b))

-- the ring operations of expressions: what is defined over any operations has its expression by these
abbrev pub free : Ops Expr
free = record { zero = K 0; one = K 1; add = ◌⊕◌; neg = λ a. ⊝ a; mul = ◌⊗◌ }
