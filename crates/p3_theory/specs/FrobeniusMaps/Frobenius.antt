-- What a Frobenius map owes as far as inversion needs it, and the product over an orbit.
use Rattle.std.specs.Prelude.{◌≡◌, ℕ, zero, suc}
use Rattle.p3_theory.specs.Rings.Ring.{Ops}

-- f taken n times
abbrev pub iterate : {B : Type 0} → (B → B) → ℕ → B → B
iterate f zero b = b
iterate f (suc n) b = iterate f n (f b)

module _ {A B : Type 0} (R : Ops A) (E : Ops B) (e : A → B) where
  -- sigma keeps products, fixes embedded values, is the identity after n times, and leaves a value unchanged only if it is embedded
  pub record IsFrobenius (n : ℕ) (sigma : B → B) : Type 0 where
    pub mul : (a b : B) → sigma (E.mul a b) ≡ E.mul (sigma a) (sigma b)
    pub embedded : (x : A) → sigma (e x) ≡ e x
    pub order : (b : B) → iterate sigma n b ≡ b
    pub fixed : (b : B) → sigma b ≡ b → (x : A) × (b ≡ e x)

  -- b * sigma b * .. * sigma^(n - 1) b
  abbrev pub orbit_product : ℕ → (B → B) → B → B
  orbit_product zero sigma b = E.one
  orbit_product (suc n) sigma b = E.mul b (orbit_product n sigma (sigma b))
