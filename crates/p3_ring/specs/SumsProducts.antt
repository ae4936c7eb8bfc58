-- What operators that are a ring's make of values, and of values and coefficients.
use Rattle.std.specs.Prelude.{◌≡◌, List, map}
use Rattle.p3_theory.specs.Rings.DotProduct.{dot}
use Rattle.p3_theory.specs.Rings.Operators.{Gives, sum_list}
use Rattle.p3_theory.specs.Rings.Ring.{Ops, RingLaws}

-- r is the sum of the products in each ring whose sum and whose product with an embedded coefficient the
-- operators are, where zero is the ring's
abbrev pub SumsProducts : {A V : Type 0} → (A → A → Type 0) → (A → A → A → Type 0) → (A → V → Type 0) → (A → V → A → Type 0) → A → List A → List V → A → Type 0
SumsProducts {A} {V} can_add add_gives can_mul mul_gives zero xs fs r =
    (o : Ops A) → RingLaws o → (embed : V → A) → Gives can_add add_gives o.add → Gives can_mul mul_gives (λ x v. o.mul x (embed v))
    → zero ≡ o.zero → r ≡ dot o xs (map embed fs)

-- r is the sum of the values in each ring whose sum the operator is, where zero is the ring's
abbrev pub Sums : {A : Type 0} → (A → A → Type 0) → (A → A → A → Type 0) → A → List A → A → Type 0
Sums {A} can_add add_gives zero xs r = (o : Ops A) → RingLaws o → Gives can_add add_gives o.add → zero ≡ o.zero → r ≡ sum_list o xs
