-- An operator applied along a list of items.
use Rattle.std.specs.Prelude.{◌≡◌, List, [], ◌∷◌, ◌++◌, refl}
use Rattle.std.proofs.Common.{subst, sym, ap, ◌∙◌}
use Rattle.p3_theory.specs.Rings.Ring.{Ops, RingLaws, ring_of}
use Rattle.p3_theory.specs.Rings.Basics.{add_from_zero, mul_from_one}
use Rattle.p3_theory.specs.Rings.Operators.{sum_list, product_list}

-- from a on, taking the items one after the other, the operator may end at r
abbrev pub Accumulates : {A : Type 0} → (A → A → A → Type 0) → A → List A → A → Type 0
Accumulates gives a [] r = r ≡ a
Accumulates {A} gives a (x ∷ xs) r = (b : A) × gives a x b × Accumulates gives b xs r

pub Accumulates-push : {A : Type 0} (gives : A → A → A → Type 0) (a : A) (xs : List A) (b x r : A) → Accumulates gives a xs b → gives b x r
    → Accumulates gives a (xs ++ (x ∷ [])) r
Accumulates-push {A} gives a [] b x r h k = (r, let P : A → Type 0 = λ z. gives z x r in subst P h k, refl)
Accumulates-push gives a (y ∷ xs) b x r h k = (h.0, h.1, Accumulates-push gives h.0 xs b x r h.2 k)

-- an operator that agrees with the ring accumulates the sum, and the product
pub accumulated_sum : {A : Type 0} {O : Ops A} → RingLaws O → (gives : A → A → A → Type 0) → ((x y r : A) → gives x y r → r ≡ O.add x y)
    → (a : A) (xs : List A) (r : A) → Accumulates gives a xs r → r ≡ O.add a (sum_list O xs)
accumulated_sum l gives h a [] r k = k ∙ sym (l.add_zero a)
accumulated_sum {O = O} l gives h a (x ∷ xs) r k =
    accumulated_sum l gives h k.0 xs r k.2 ∙ ap (λ z. O.add z (sum_list O xs)) (h a x k.0 k.1) ∙ l.add_assoc a x (sum_list O xs)

pub accumulated_product : {A : Type 0} {O : Ops A} → RingLaws O → (gives : A → A → A → Type 0) → ((x y r : A) → gives x y r → r ≡ O.mul x y)
    → (a : A) (xs : List A) (r : A) → Accumulates gives a xs r → r ≡ O.mul a (product_list O xs)
accumulated_product l gives h a [] r k = k ∙ sym (l.mul_one a)
accumulated_product {O = O} l gives h a (x ∷ xs) r k =
    accumulated_product l gives h k.0 xs r k.2 ∙ ap (λ z. O.mul z (product_list O xs)) (h a x k.0 k.1) ∙ l.mul_assoc a x (product_list O xs)

-- from zero, and from one
pub sum_from_zero : {A : Type 0} {O : Ops A} → RingLaws O → (gives : A → A → A → Type 0) → ((x y r : A) → gives x y r → r ≡ O.add x y)
    → (a : A) → a ≡ O.zero → (xs : List A) (r : A) → Accumulates gives a xs r → r ≡ sum_list O xs
sum_from_zero {O = O} l gives h a e xs r k =
    accumulated_sum l gives h a xs r k ∙ add_from_zero (ring_of l) a (sum_list O xs) e

pub product_from_one : {A : Type 0} {O : Ops A} → RingLaws O → (gives : A → A → A → Type 0) → ((x y r : A) → gives x y r → r ≡ O.mul x y)
    → (a : A) → a ≡ O.one → (xs : List A) (r : A) → Accumulates gives a xs r → r ≡ product_list O xs
product_from_one {O = O} l gives h a e xs r k =
    accumulated_product l gives h a xs r k ∙ mul_from_one (ring_of l) a (product_list O xs) e
