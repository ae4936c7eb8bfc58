-- The Boolean operations as polynomials, which agree with them on zero and one.
use Rattle.std.proofs.Common.{◌≡◌, [], ◌∷◌}
use Rattle.p3_theory.specs.Rings.Ring.{Ops, RingLaws, subtract}
use Rattle.p3_theory.specs.Rings.Multiples.{two}
use Rattle.p3_theory.specs.RingSolver.Reify.{by_laws, reads, yes}

-- x + y - 2xy: the exclusive or
abbrev pub xor : {A : Type 0} → Ops A → A → A → A
xor O x y = subtract O (O.add x y) (O.mul (two O) (O.mul x y))

-- (1 - x) y: y and not x
abbrev pub and_not : {A : Type 0} → Ops A → A → A → A
and_not O x y = O.mul (subtract O O.one x) y

-- x (x - 1): zero at zero and at one
abbrev pub bool_check : {A : Type 0} → Ops A → A → A
bool_check O x = O.mul x (subtract O x O.one)

-- the exclusive or with one product, by the double of y
pub xor-double : {A : Type 0} {O : Ops A} → RingLaws O → (x y : A) → subtract O (O.add x y) (O.mul x (O.add y y)) ≡ xor O x y
xor-double {O = O} l x y = by_laws O l (x ∷ y ∷ []) (search reads depth 99 fits 99999) (search reads depth 99 fits 99999) yes
