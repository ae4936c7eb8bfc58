use Rattle.std.specs.Prelude.{refl}
use Rattle.p3_theory.specs.Rings.ZeroDivisors.{residues_have_no_zero_divisors}
use Rattle.p3_prime_fields.specs.Elements.{is}
use Rattle.p3_calculator.proofs.laws.domain_f31.Goals as goal

pub returns : goal.returns
returns c = residues_have_no_zero_divisors (is _) refl
