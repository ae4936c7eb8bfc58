use Rattle.std.specs.Prelude.{◌≡◌, ℕ, Option, Some, None, IfSome, refl}
use Rattle.p3_theory.specs.Roots.Fermat as theory
use Rattle.p3_field_traits.proofs.laws.fermat.Goals as goal

where_given : (s : Option ℕ) (P : ℕ → Type 0) → ((n : ℕ) → s ≡ Some n → P n) → IfSome s P
where_given None P h = tt
where_given (Some n) P h = h n refl

pub returns : goal.returns
returns g c = where_given g.F.Field.size _ (λ n e. theory.fermat g.met.F.PrimeCharacteristicRing.ring c.requires.no_zero_divisors (g.met.F.Field.values n e) c.args.x c.requires.nonzero)
