use Rattle.std.proofs.Common.{ℕ, List, ◌≢◌, inr, refl, subst}
use Rattle.p3_calculator_text.specs.declared.faults.Fault.TheVariants.{NoRoot}
use Rattle.p3_calculator.specs.Registers.{state_at}
use Rattle.p3_calculator.specs.Effects.{At, Faults, TakesRoot, IsRoot}
use Rattle.p3_calculator.specs.States.{register_at}
use Rattle.p3_calculator.specs.Fields.{ops}
use Rattle.p3_calculator.specs.Premise.{MeetsPremise}
use Rattle.p3_calculator.proofs.act.sqrt.Goals as goal

pub returns-in_default-clause-computes : goal.returns-in_default-clause-computes
returns-in_default-clause-computes g c =
    let F = g.F.CalculatorField in
    let old = state_at F.spec F.coefficients c.args.regs.now in
    let spec = F.spec in
    subst (λ read. At read (λ p o. TakesRoot spec old.registers p.0 (register_at old.registers p.1) o) (Faults NoRoot)) c.in_ok-r.ensures.value
    (inr (
      subst (λ (x : List ℕ). x ≢ (ops spec).zero) c.get.ensures c.in_default.ensures.nonzero,
      subst (λ (x : List ℕ). MeetsPremise spec → (y : List ℕ) → IsRoot spec x y → ⊥) c.get.ensures c.in_default.ensures.none,
      refl,
    ))
