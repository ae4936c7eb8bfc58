use Rattle.std.proofs.Common.{◌≡◌, ◌≤◌, ◌^◌, ◌*◌, ap, arith, sym, ◌∙◌}
use Rattle.p3_extension.proofs.ExtensionOrder.{order_found, order_too_large}
use Rattle.p3_extension.proofs.extension.frobenius.ExtFieldField.order.Goals as goal

pub returns-in_err-order : goal.returns-in_err-order
returns-in_err-order g c =
    let large : 2 ^ 128 ≤ c.loop.order * c.in_ok-base.base = grind arith in
    c.from_residual-in_err-order.ensures
    ∙ order_too_large g.F.Field.size c.in_ok-base.base c.loop.order c.loop.counter g.row.D (sym c.order.ensures ∙ c.in_ok-base.was) c.loop-test.true c.loop.invariant.is_power large

pub returns : goal.returns
returns g c =
    let all : c.loop.counter ≡ g.row.D = omega arith in
    order_found g.F.Field.size c.in_ok-base.base c.loop.order g.row.D (sym c.order.ensures ∙ c.in_ok-base.was)
    (c.loop.invariant.is_power ∙ ap (λ k. c.in_ok-base.base ^ k) all) c.loop.invariant.fits
