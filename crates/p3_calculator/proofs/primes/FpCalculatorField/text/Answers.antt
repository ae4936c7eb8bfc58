use Rattle.std.specs.Prelude.{◌≡◌, ℕ, List, IfOk, string_bytes, decimal}
use Rattle.std.proofs.Common.{subst, sym, rules}
use Rattle.p3_prime_fields.specs.Elements.{canon}
use Rattle.p3_calculator.specs.Coefficients.{display-one}
use Rattle.p3_calculator.proofs.primes.FpCalculatorField.text.Goals as goal

pub returns : goal.returns
returns g c =
    let written : IfOk c.to_string.result (λ t. string_bytes t ≡ decimal (canon g.W.Form c.args.self)) = search rules in
    subst (λ (l : List ℕ). IfOk c.to_string.result (λ t. string_bytes t ≡ l)) (sym (display-one (canon g.W.Form c.args.self))) written
