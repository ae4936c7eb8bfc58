-- Maps that keep sums, and products with the powers of two.
use Rattle.std.proofs.Common.{◌≡◌, ℕ, zero, suc, [], ◌∷◌, sym, ap, ap₂, ◌∙◌}
use Rattle.p3_theory.specs.Rings.Ring.{Ops, RingLaws}
use Rattle.p3_theory.specs.Rings.Powers.{power}
use Rattle.p3_theory.specs.Rings.Multiples.{two}
use Rattle.p3_theory.specs.RingSolver.Reify.{by_laws, reads, yes}

-- one power of two more is a double
times_two_more : {A : Type 0} {O : Ops A} → RingLaws O → (x p : A) → O.mul x (O.mul (two O) p) ≡ O.add (O.mul x p) (O.mul x p)
times_two_more {O = O} l x p = by_laws O l (x ∷ p ∷ []) (search reads depth 99 fits 99999) (search reads depth 99 fits 99999) yes

-- what keeps sums keeps the products with the powers of two
pub additive-power_of_two : {A B : Type 0} {O : Ops A} {P : Ops B} → RingLaws O → RingLaws P → (h : A → B) → ((x y : A) → h (O.add x y) ≡ P.add (h x) (h y))
    → (x : A) (n : ℕ) → h (O.mul x (power O (two O) n)) ≡ P.mul (h x) (power P (two P) n)
additive-power_of_two l m h add x zero = ap h (l.mul_one x) ∙ sym (m.mul_one (h x))
additive-power_of_two {O = O} {P = P} l m h add x (suc n) =
    ap h (times_two_more l x (power O (two O) n)) ∙ add _ _
    ∙ ap₂ P.add (additive-power_of_two l m h add x n) (additive-power_of_two l m h add x n) ∙ sym (times_two_more m (h x) (power P (two P) n))
