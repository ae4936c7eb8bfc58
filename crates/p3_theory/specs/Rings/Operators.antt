-- What the operators of the language say of a type, against the operations of its ring.
use Rattle.std.specs.Prelude.{◌≡◌, List, [], ◌∷◌}
use Rattle.p3_theory.specs.Rings.Ring.{Ops}

-- a binary operator may be applied to any values, and answers what f does
pub record Gives {A B C : Type 0} (can : A → B → Type 0) (gives : A → B → C → Type 0) (f : A → B → C) : Type 0 where
  pub callable : (x : A) (y : B) → can x y
  pub exact : (x : A) (y : B) (r : C) → gives x y r → r ≡ f x y

-- the same of an operator with one argument
pub record GivesOne {A C : Type 0} (can : A → Type 0) (gives : A → C → Type 0) (f : A → C) : Type 0 where
  pub callable : (x : A) → can x
  pub exact : (x : A) (r : C) → gives x r → r ≡ f x

-- the sum of the items
abbrev pub sum_list : {A : Type 0} → Ops A → List A → A
sum_list O [] = O.zero
sum_list O (x ∷ xs) = O.add x (sum_list O xs)

-- the product of the items
abbrev pub product_list : {A : Type 0} → Ops A → List A → A
product_list O [] = O.one
product_list O (x ∷ xs) = O.mul x (product_list O xs)

-- `sum` or `product` may be taken of any items, and answers what f does of their list
pub record Folds {A : Type 0} (can : List A → Type 0) (gives : List A → A → Type 0) (complete : A → Type 0) (f : List A → A) : Type 0 where
  pub callable : (xs : List A) → can xs
  pub exact : (xs : List A) (r : A) → gives xs r → r ≡ f xs
  pub whole : (r : A) → complete r
