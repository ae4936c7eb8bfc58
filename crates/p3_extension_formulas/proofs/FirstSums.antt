-- Sums that a loop makes, the last value added last.
use Rattle.std.proofs.Common.{◌≡◌, ◌+◌, ℕ, ap₂, add-one, ◌∙◌}
use Rattle.p3_theory.specs.Rings.Ring.{Ops}
use Rattle.p3_theory.specs.Polynomials.ConvolutionSums.{first_sum}

module _ {A : Type 0} (o : Ops A) where
  -- with one value more
  pub first_sum-more : (n : ℕ) (s : ℕ → A) {x y r : A} → r ≡ o.add x y → x ≡ first_sum o.zero o.add n s → y ≡ s n → r ≡ first_sum o.zero o.add (n + 1) s
  first_sum-more n s e f h = rw add-one (e ∙ ap₂ o.add f h)
