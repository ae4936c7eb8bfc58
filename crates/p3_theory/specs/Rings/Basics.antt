-- What follows from the laws of a commutative ring alone.
use Rattle.std.proofs.Common.{◌≡◌, sym, ap, ap₂, ◌∙◌}
use Rattle.p3_theory.specs.Rings.Ring.{Ring}

module _ {A : Type 0} (R : Ring A) where
  open R use {zero as 𝟎, one as 𝟏, add as ◌⊕◌, mul as ◌⊗◌, neg}

  infixl 60 ◌⊕◌
  infixl 70 ◌⊗◌
  pub zero-add : (x : A) → 𝟎 ⊕ x ≡ x
  zero-add x = R.add_comm 𝟎 x ∙ R.add_zero x

  pub add_from_zero : (s x : A) → s ≡ 𝟎 → s ⊕ x ≡ x
  add_from_zero s x e = ap (λ w. w ⊕ x) e ∙ zero-add x

  pub add_left_comm : (x y z : A) → x ⊕ (y ⊕ z) ≡ y ⊕ (x ⊕ z)
  add_left_comm x y z = sym (R.add_assoc x y z) ∙ ap (λ w. w ⊕ z) (R.add_comm x y) ∙ R.add_assoc y x z

  -- the middle two of four exchanged
  pub swap_four : (x y z w : A) → (x ⊕ y) ⊕ (z ⊕ w) ≡ (x ⊕ z) ⊕ (y ⊕ w)
  swap_four x y z w = simp (R.add_assoc, add_left_comm)

  pub add_neg_left : (x : A) → neg x ⊕ x ≡ 𝟎
  add_neg_left x = R.add_comm (neg x) x ∙ R.add_neg x

  pub cancel : (x y z : A) → x ⊕ y ≡ x ⊕ z → y ≡ z
  cancel x y z e = sym (back y) ∙ ap (λ w. neg x ⊕ w) e ∙ back z
    where
      back : (w : A) → neg x ⊕ (x ⊕ w) ≡ w
      back w = sym (R.add_assoc (neg x) x w) ∙ add_from_zero (neg x ⊕ x) w (add_neg_left x)

  pub one-mul : (x : A) → 𝟏 ⊗ x ≡ x
  one-mul x = R.mul_comm 𝟏 x ∙ R.mul_one x

  pub mul_from_one : (p x : A) → p ≡ 𝟏 → p ⊗ x ≡ x
  mul_from_one p x e = ap (λ w. w ⊗ x) e ∙ one-mul x

  pub mul_left_comm : (x y z : A) → x ⊗ (y ⊗ z) ≡ y ⊗ (x ⊗ z)
  mul_left_comm x y z = sym (R.mul_assoc x y z) ∙ ap (λ w. w ⊗ z) (R.mul_comm x y) ∙ R.mul_assoc y x z

  pub swap_factors : (x y z w : A) → (x ⊗ y) ⊗ (z ⊗ w) ≡ (x ⊗ z) ⊗ (y ⊗ w)
  swap_factors x y z w = simp (R.mul_assoc, mul_left_comm)

  -- x times an inverse of y is a quotient of x by y
  pub quotient_exact : (x y i r : A) → y ⊗ i ≡ 𝟏 → r ≡ x ⊗ i → r ⊗ y ≡ x
  quotient_exact x y i r h e = ap (λ w. w ⊗ y) e ∙ R.mul_assoc x i y ∙ ap (λ w. x ⊗ w) (R.mul_comm i y ∙ h) ∙ R.mul_one x

  -- a value has one inverse at most
  pub inverse_unique : (x y z : A) → x ⊗ y ≡ 𝟏 → x ⊗ z ≡ 𝟏 → y ≡ z
  inverse_unique x y z h k = sym (quotient_exact y z x 𝟏 (R.mul_comm z x ∙ k) (sym h ∙ R.mul_comm x y)) ∙ one-mul z

  pub add-mul : (x y z : A) → (x ⊕ y) ⊗ z ≡ x ⊗ z ⊕ y ⊗ z
  add-mul x y z = R.mul_comm (x ⊕ y) z ∙ R.mul_add z x y ∙ ap₂ (λ a b. a ⊕ b) (R.mul_comm z x) (R.mul_comm z y)

  pub mul-zero : (x : A) → x ⊗ 𝟎 ≡ 𝟎
  mul-zero x = cancel (x ⊗ 𝟎) (x ⊗ 𝟎) 𝟎 (sym (R.mul_add x 𝟎 𝟎) ∙ ap (λ w. x ⊗ w) (R.add_zero 𝟎) ∙ sym (R.add_zero (x ⊗ 𝟎)))

  pub zero-mul : (x : A) → 𝟎 ⊗ x ≡ 𝟎
  zero-mul x = R.mul_comm 𝟎 x ∙ mul-zero x

  -- what adds to x to give zero is the negation of x
  pub neg_unique : (x y : A) → y ⊕ x ≡ 𝟎 → y ≡ neg x
  neg_unique x y e = cancel x y (neg x) (R.add_comm x y ∙ e ∙ sym (R.add_neg x))

  pub neg-zero : neg 𝟎 ≡ 𝟎
  neg-zero = sym (neg_unique 𝟎 𝟎 (R.add_zero 𝟎))

  pub neg-add : (x y : A) → neg (x ⊕ y) ≡ neg x ⊕ neg y
  neg-add x y = sym (neg_unique (x ⊕ y) (neg x ⊕ neg y) (swap_four (neg x) (neg y) x y ∙ ap₂ (λ a b. a ⊕ b) (add_neg_left x) (add_neg_left y) ∙ R.add_zero 𝟎))

  pub neg-neg : (x : A) → neg (neg x) ≡ x
  neg-neg x = sym (neg_unique (neg x) x (R.add_neg x))

  pub mul-neg : (x y : A) → x ⊗ neg y ≡ neg (x ⊗ y)
  mul-neg x y = neg_unique (x ⊗ y) (x ⊗ neg y) (sym (R.mul_add x (neg y) y) ∙ ap (λ w. x ⊗ w) (add_neg_left y) ∙ mul-zero x)

  pub neg-mul : (x y : A) → neg x ⊗ y ≡ neg (x ⊗ y)
  neg-mul x y = R.mul_comm (neg x) y ∙ mul-neg y x ∙ ap neg (R.mul_comm y x)

  pub neg_one_squared : neg 𝟏 ⊗ neg 𝟏 ≡ 𝟏
  neg_one_squared = mul-neg (neg 𝟏) 𝟏 ∙ ap neg (R.mul_one (neg 𝟏)) ∙ neg-neg 𝟏
