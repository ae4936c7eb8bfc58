-- The product over an orbit, built by taking the map of a product at each step.
use Rattle.std.proofs.Common.{◌≡◌, ◌≤◌, ◌+◌, ◌-◌, ℕ, zero, suc, sym, ap, ap₂, ◌∙◌, arith}
use Rattle.p3_theory.specs.Rings.Ring.{Ops, RingLaws}
use Rattle.p3_theory.specs.FrobeniusMaps.Iteration.{orbit}

module _ {B : Type 0} {O : Ops B} (l : RingLaws O) (s : B → B) (one : s O.one ≡ O.one) (mul : (x y : B) → s (O.mul x y) ≡ O.mul (s x) (s y)) where
  orbit-image : (n : ℕ) (b : B) → s (orbit O s n b) ≡ orbit O s n (s b)
  orbit-image zero b = one
  orbit-image (suc n) b = mul b (orbit O s n (s b)) ∙ ap (O.mul (s b)) (orbit-image n (s b))

  pub orbit-one : (b : B) → orbit O s 1 b ≡ b
  orbit-one b = l.mul_one b

  -- one image more: that of the product so far and the value
  pub orbit-grows : (i : ℕ) → 1 ≤ i → (a p q r : B) → p ≡ orbit O s (i - 1) (s a) → q ≡ O.mul p a → r ≡ s q → r ≡ orbit O s (i + 1 - 1) (s a)
  orbit-grows i h a p q r ep eq er =
      let next : i + 1 - 1 ≡ suc (i - 1) = omega arith in
      er ∙ ap s (eq ∙ ap (λ z. O.mul z a) ep) ∙ mul (orbit O s (i - 1) (s a)) a ∙ l.mul_comm (s (orbit O s (i - 1) (s a))) (s a)
      ∙ ap (O.mul (s a)) (orbit-image (i - 1) (s a)) ∙ sym (ap (λ k. orbit O s k (s a)) next)

  -- four images by two products
  pub orbit-four : (a p q r t v : B) → p ≡ s a → q ≡ O.mul a p → r ≡ s q → t ≡ s (s r) → v ≡ O.mul r t → v ≡ orbit O s 4 (s a)
  orbit-four a p q r t v ep eq er et ev =
      ev ∙ ap₂ O.mul pair (et ∙ ap (λ z. s (s z)) pair ∙ ap s (mul (s a) (s (s a))) ∙ mul (s (s a)) (s (s (s a))))
      ∙ l.mul_assoc (s a) (s (s a)) (O.mul (s (s (s a))) (s (s (s (s a)))))
      ∙ ap (λ z. O.mul (s a) (O.mul (s (s a)) (O.mul (s (s (s a))) z))) (sym (l.mul_one (s (s (s (s a))))))
    where
      pair : r ≡ O.mul (s a) (s (s a))
      pair = er ∙ ap s (eq ∙ ap (O.mul a) ep) ∙ mul a (s a)
