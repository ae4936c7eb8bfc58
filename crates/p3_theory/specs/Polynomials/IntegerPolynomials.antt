-- Polynomials with integer coefficients, and what they are over a ring.
use Rattle.std.proofs.Common.{◌≡◌, ◌≤◌, ℕ, zero, suc, List, [], ◌∷◌, length, map, get_or, ap, ap₂, sym, ◌∙◌}
use Rattle.std.specs.Prelude.{ℤ, pos, negsuc}
use Rattle.p3_theory.specs.Rings.Ring.{Ops, Hom, RingLaws}
use Rattle.p3_theory.specs.Rings.Multiples.{of_nat, of_int}
use Rattle.p3_theory.specs.RingSolver.Solver.{nat}
use Rattle.p3_theory.specs.Polynomials.Polynomial.{IsMonic}
use Rattle.p3_theory.specs.Rings.Homomorphism.{length-map}

-- the element of a ring that an integer stands for; of 1 it is the ring's own one before any law
abbrev pub integer : {A : Type 0} → Ops A → ℤ → A
integer O (pos n) = nat O n
integer O (negsuc n) = O.neg (nat O (suc n))

-- by the laws of a ring it is one taken as many times
module _ {A : Type 0} {O : Ops A} (R : RingLaws O) where
  nat-is : (n : ℕ) → nat O n ≡ of_nat O n
  nat-is zero = λ i. O.zero
  nat-is (suc zero) = sym (R.add_zero O.one)
  nat-is (suc (suc n)) = R.add_comm (nat O (suc n)) O.one ∙ ap (O.add O.one) (nat-is (suc n))

  pub integer-is-multiple : (z : ℤ) → integer O z ≡ of_int O z
  integer-is-multiple (pos n) = nat-is n
  integer-is-multiple (negsuc n) = ap O.neg (nat-is (suc n))

-- the integer -1
abbrev pub minus_one : ℤ
minus_one = negsuc 0

-- the polynomial over a ring
abbrev pub over : {A : Type 0} → Ops A → List ℤ → List A
over O f = map (integer O) f

-- f = X^D + .., of degree two or more
pub record IsMonicOfDegree (D : ℕ) (f : List ℤ) : Type 0 where
  pub at_least_two : 2 ≤ D
  pub degree : length f ≡ suc D
  pub leading : get_or f D (pos 0) ≡ pos 1

-- then it is monic over every ring
module _ {A : Type 0} (O : Ops A) where
  get-over : (f : List ℤ) (k : ℕ) → get_or (over O f) k O.zero ≡ integer O (get_or f k (pos 0))
  get-over [] k = λ i. O.zero
  get-over (z ∷ f) zero = λ i. integer O z
  get-over (z ∷ f) (suc k) = get-over f k

  pub over_is_monic : {D : ℕ} {f : List ℤ} → IsMonicOfDegree D f → IsMonic O D (over O f)
  over_is_monic {D} {f} m = record {
    degree = length-map (integer O) f ∙ m.degree;
    leading = get-over f D ∙ ap (integer O) m.leading;
  }

-- a map that keeps the operations takes it over one ring to it over the other
module _ {A B : Type 0} {O : Ops A} {P : Ops B} {h : A → B} (H : Hom O P h) where
  map-nat : (n : ℕ) → h (nat O n) ≡ nat P n
  map-nat zero = H.zero
  map-nat (suc zero) = H.one
  map-nat (suc (suc n)) = H.add (nat O (suc n)) O.one ∙ ap₂ P.add (map-nat (suc n)) H.one

  map-integer : (z : ℤ) → h (integer O z) ≡ integer P z
  map-integer (pos n) = map-nat n
  map-integer (negsuc n) = H.neg (nat O (suc n)) ∙ ap P.neg (map-nat (suc n))

  pub over-along : (f : List ℤ) → map h (over O f) ≡ over P f
  over-along [] i = []
  over-along (z ∷ f) i = map-integer z i ∷ over-along f i
