-- Powers by chains of products, with their exponents.
use Rattle.std.proofs.Common.{◌≡◌, ℕ, ◌+◌, ◌*◌, zero, suc, sym, ap, ◌∙◌, arith}
use Rattle.p3_theory.specs.Rings.Ring.{Ops, RingLaws}
use Rattle.p3_theory.specs.Rings.Powers.{power}
use Rattle.p3_theory.specs.Rings.PowerLaws.{power-add, power-one}

-- r is the product of n copies of x
pub record IsPower {A : Type 0} (O : Ops A) (x : A) (n : ℕ) (r : A) : Type 0 where
  pub is : r ≡ power O x n

module _ {A : Type 0} {O : Ops A} (l : RingLaws O) where
  -- a power of a power
  pub power-power : (x : A) (m n : ℕ) → power O (power O x m) n ≡ power O x (m * n)
  power-power x m zero = let e : 0 ≡ m * 0 = omega arith in ap (power O x) e
  power-power x m (suc n) =
      let e : m + m * n ≡ m * suc n = omega arith in
      ap (O.mul (power O x m)) (power-power x m n) ∙ sym (power-add l x m (m * n)) ∙ ap (power O x) e

  -- a value is its first power
  pub first_power : (x : A) → IsPower O x 1 x
  first_power x = record { is = sym (power-one l x) }

  -- the exponents of a product add
  pub product_of_powers : {x a b r : A} {m n : ℕ} → r ≡ O.mul a b → IsPower O x m a → IsPower O x n b → IsPower O x (m + n) r
  product_of_powers {x} {a} {b} {r} {m} {n} h p q =
      record { is = h ∙ ap (λ z. O.mul z b) p.is ∙ ap (O.mul (power O x m)) q.is ∙ sym (power-add l x m n) }

  -- the exponents of a power of a power multiply
  pub power_of_power : {x a r : A} {m : ℕ} (n : ℕ) → r ≡ power O a n → IsPower O x m a → IsPower O x (m * n) r
  power_of_power {x} {a} {r} {m} n h p = record { is = h ∙ ap (λ z. power O z n) p.is ∙ power-power x m n }
