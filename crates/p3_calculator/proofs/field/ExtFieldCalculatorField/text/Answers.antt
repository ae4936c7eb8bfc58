use Rattle.std.specs.Prelude.{◌≡◌, ℕ, List, IfOk, string_bytes}
use Rattle.std.proofs.Common.{subst, rules}
use Rattle.p3_theory.specs.Polynomials.Text.{polynomial_text}
use Rattle.p3_calculator.proofs.TextLemmas.{extension_text}
use Rattle.p3_calculator.proofs.field.ExtFieldCalculatorField.text.Goals as goal

pub returns : goal.returns
returns g c =
    let O = g.F.PrimeCharacteristicRing.ops in
    let eq = g.F.PartialEq.eq in
    let written : IfOk c.to_string.result (λ t. string_bytes t ≡ polynomial_text (λ x. eq x O.zero) (λ x. eq x O.one) g.F.Field.text c.args.self.value) = search rules in
    subst (λ (l : List ℕ). IfOk c.to_string.result (λ t. string_bytes t ≡ l))
    (extension_text g.F.Base.base_order O g.F.Base.canon g.met.F.Named.is_base.residues eq g.met.F.Field.equals g.F.Field.text g.met.F.Named.is_base.texts c.args.self.value) written
