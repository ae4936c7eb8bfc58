-- Rings as operations and laws, and maps that keep the operations.
use Rattle.std.specs.Prelude.{◌≡◌}

-- the operations of a ring with one
pub record Ops (A : Type 0) : Type 0 where
  pub zero : A
  pub one : A
  pub add : A → A → A
  pub neg : A → A
  pub mul : A → A → A

-- the laws of a commutative ring with one
pub record RingLaws {A : Type 0} (O : Ops A) : Type 0 where
  pub add_comm : (x y : A) → O.add x y ≡ O.add y x
  pub add_assoc : (x y z : A) → O.add (O.add x y) z ≡ O.add x (O.add y z)
  pub add_zero : (x : A) → O.add x O.zero ≡ x
  pub add_neg : (x : A) → O.add x (O.neg x) ≡ O.zero
  pub mul_comm : (x y : A) → O.mul x y ≡ O.mul y x
  pub mul_assoc : (x y z : A) → O.mul (O.mul x y) z ≡ O.mul x (O.mul y z)
  pub mul_one : (x : A) → O.mul x O.one ≡ x
  pub mul_add : (x y z : A) → O.mul x (O.add y z) ≡ O.add (O.mul x y) (O.mul x z)

-- a commutative ring with one
pub record Ring (A : Type 0) : Type 0 where
  pub ops : Ops A
  pub open ops use *
  pub laws : RingLaws ops
  pub open laws use *

-- the ring of operations whose laws are known
abbrev pub ring_of : {A : Type 0} {O : Ops A} → RingLaws O → Ring A
ring_of {O = O} laws = record { ops = O; laws = laws }

-- h keeps every operation
pub record Hom {A B : Type 0} (O : Ops A) (P : Ops B) (h : A → B) : Type 0 where
  pub zero : h O.zero ≡ P.zero
  pub one : h O.one ≡ P.one
  pub add : (x y : A) → h (O.add x y) ≡ P.add (h x) (h y)
  pub neg : (x : A) → h (O.neg x) ≡ P.neg (h x)
  pub mul : (x y : A) → h (O.mul x y) ≡ P.mul (h x) (h y)

-- y is an inverse of x
abbrev pub IsInverse : {A : Type 0} → Ops A → A → A → Type 0
IsInverse O x y = O.mul x y ≡ O.one

-- x has an inverse: it is a unit
abbrev pub Invertible : {A : Type 0} → Ops A → A → Type 0
Invertible {A = A} O x = (y : A) × (O.mul x y ≡ O.one)

-- x less y
abbrev pub subtract : {A : Type 0} → Ops A → A → A → A
subtract O x y = O.add x (O.neg y)
