-- Polynomials as their coefficients, from X^0 upward. An index past the end of a list counts as zero.
use Rattle.std.specs.Prelude.{◌≡◌, ℕ, zero, suc, pred, ◌+◌, List, [], ◌∷◌, length, get_or}
use Rattle.p3_theory.specs.Rings.Ring.{Ops}

-- the list of s 0 to s (n - 1)
abbrev pub tabulate : {A : Type 0} → ℕ → (ℕ → A) → List A
tabulate zero s = []
tabulate (suc n) s = s zero ∷ tabulate n (λ k. s (suc k))

module _ {A : Type 0} (R : Ops A) where
  open R use {zero as 𝟎, one as 𝟏, add as ◌⊕◌, mul as ◌⊗◌, neg}

  infixl 60 ◌⊕◌
  infixl 70 ◌⊗◌
  -- coefficient k
  abbrev pub at : List A → ℕ → A
  at a k = get_or a k 𝟎

  -- index k holds the sum of a i * b j over all i + j = k
  abbrev pub convolve : (ℕ → A) → (ℕ → A) → ℕ → A
  convolve a b zero = a zero ⊗ b zero
  convolve a b (suc k) = a zero ⊗ b (suc k) ⊕ convolve (λ i. a (suc i)) b k

  -- the product of two polynomials: the convolution of their coefficient lists
  abbrev pub convolution : List A → List A → List A
  convolution a b = tabulate (length a + length b) (convolve (at a) (at b))

  -- f = X^D + ..: the coefficient at X^D is one, and it is the last
  pub record IsMonic (D : ℕ) (f : List A) : Type 0 where
    pub degree : length f ≡ suc D
    pub leading : at f D ≡ 𝟏

  -- r is what is left of c modulo f: for some list h, c = h * f + r, index by index
  pub record IsRemainder (D : ℕ) (f c r : List A) : Type 0 where
    pub length_is : length r ≡ D
    pub quotient : List A
    pub holds : (k : ℕ) → at c k ≡ convolve (at quotient) (at f) k ⊕ at r k

  -- what is left of x + X * c is x + X * r less the multiple of f that clears index D, where r is left of c
  abbrev pub remainder : ℕ → List A → List A → List A
  remainder D f [] = tabulate D (at [])
  remainder D f (x ∷ c) = let r : List A = remainder D f c in tabulate D (λ k. at (x ∷ r) k ⊕ neg (at r (pred D) ⊗ at f k))

  -- extension values: lists of length D
  abbrev pub quotient_add : ℕ → List A → List A → List A
  quotient_add D a b = tabulate D (λ k. at a k ⊕ at b k)

  -- the negation, index by index
  abbrev pub quotient_neg : ℕ → List A → List A
  quotient_neg D a = tabulate D (λ k. neg (at a k))

  -- the product in the quotient ring: the remainder modulo f of the convolution
  abbrev pub quotient_mul : ℕ → List A → List A → List A → List A
  quotient_mul D f a b = remainder D f (convolution a b)

  -- a constant as a list of D coefficients
  abbrev pub embed : ℕ → A → List A
  embed D x = tabulate D (at (x ∷ []))

  -- X^d
  abbrev pub monomial : ℕ → List A
  monomial zero = 𝟏 ∷ []
  monomial (suc d) = 𝟎 ∷ monomial d

  -- X^D - w, for D at least one
  abbrev pub binomial : ℕ → A → List A
  binomial D w = neg w ∷ monomial (pred D)

  -- the operations of the quotient ring, on lists of D coefficients
  abbrev pub quotient_ops : ℕ → List A → Ops (List A)
  quotient_ops D f = record { zero = embed D 𝟎; one = embed D 𝟏; add = quotient_add D; neg = quotient_neg D; mul = quotient_mul D f }
