-- The premise of a finite field, which square roots go by, over coefficient lists.
use Rattle.std.specs.Prelude.{◌≡◌, ◌<◌, ◌⊎◌, ◌-◌, ◌*◌, ◌%◌, ◌^◌, ℕ, List, MatchOption}
use Rattle.p3_theory.specs.Rings.Powers.{power}
use Rattle.p3_calculator.specs.Fields.{FieldSpec, ops, value_count, generator_of, IsValue}
use Rattle.p3_calculator.specs.Names.{field_named}

-- a field without zero divisors, whose generator's power q is of order 2^s: there are n values and n - 1 is 2^s * q
pub record MeetsPremise (f : FieldSpec) : Type 0 where
  pub s : ℕ
  pub q : ℕ
  -- a product of values is zero only where one of them is
  pub domain : (x y : List ℕ) → IsValue f x → IsValue f y → (ops f).mul x y ≡ (ops f).zero → (x ≡ (ops f).zero) ⊎ (y ≡ (ops f).zero)
  -- the count of values, less one, is 2^s times q
  pub split : value_count f - 1 ≡ 2 ^ s * q
  -- q is odd
  pub odd : q % 2 ≡ 1
  -- the generator to the power q * 2^(s - 1) is minus one, where s is above 0
  pub half : 0 < s → power (ops f) (power (ops f) (generator_of f) q) (2 ^ (s - 1)) ≡ (ops f).neg (ops f).one

-- the name is that of a field that meets the premise
abbrev pub NameMeetsPremise : List ℕ → Type 0
NameMeetsPremise name = MatchOption (field_named name) ⊥ MeetsPremise
