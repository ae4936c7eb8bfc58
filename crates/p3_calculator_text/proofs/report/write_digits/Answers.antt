use Rattle.std.proofs.Common.{◌∙◌, ◌++◌, decimal, ap, arith, append-nil}
use Rattle.std.proofs.lemmas.List.{drop_all, length-set}
use Rattle.p3_calculator_text.proofs.Digits.{last_digit, next_digit, below_power}
use Rattle.p3_calculator_text.proofs.report.write_digits.Goals as goal

pub digits-init : goal.digits-init
digits-init c =
    let none = drop_all 39 c.args.digits.now (omega (arith, c.told-digits)) in
    (omega arith, omega arith, c.told-digits, omega (arith, c.ranges.number.fits), ap (λ l. decimal c.args.number ++ l) none ∙ append-nil (decimal c.args.number))

pub returns-then-rest-eq0-clause-digits : goal.returns-then-rest-eq0-clause-digits
returns-then-rest-eq0-clause-digits c =
    let i = c.digits.invariant in
    last_digit c.args.number c.digits.rest c.digits.at c.digits.digits c.if-rest-eq0.true i.0 i.1 i.2 i.4

pub digits-preserved : goal.digits-preserved
digits-preserved c =
    let i = c.digits.invariant in
    let n = c.digits.rest in
    let b = below_power n c.digits.at (omega (arith, c.if-rest-eq0.false)) i.3 in
    (b.0, omega arith, length-set _ _ _ ∙ i.2, b.1, next_digit c.args.number n c.digits.at c.digits.digits c.if-rest-eq0.false (omega (arith, c.digits.auto.rest-fits)) i.0 i.1 i.2 i.4)
