use Rattle.std.proofs.Common.{arith}
use Rattle.p3_helpers.proofs.Sizes.{greatest_power, power_full}
use Rattle.p3_helpers.proofs.limits.powers_below.Goals as goal

pub returns-else-k-eq0-clause-greatest : goal.returns-else-k-eq0-clause-greatest
returns-else-k-eq0-clause-greatest c = let h = c.in_default.ensures in λ m q. greatest_power c.args.p c.args.order c.loop-k.power c.loop-k.k m c.requires.above_one c.loop-k.invariant.0 (omega (arith, h, c.ranges.order.fits)) q

pub returns-then-k-eq0-2-clause-greatest : goal.returns-then-k-eq0-2-clause-greatest
returns-then-k-eq0-2-clause-greatest c = let h = c.in-Some.ensures in λ m q. let l = greatest_power c.args.p c.args.order c.loop-k.power c.loop-k.k m c.requires.above_one c.loop-k.invariant.0 (omega (arith, h, c.if-next-order.true)) q in omega (arith, l, c.if-k-eq0-2.true)

pub returns-else-k-eq0-2-clause-greatest : goal.returns-else-k-eq0-2-clause-greatest
returns-else-k-eq0-2-clause-greatest c = let h = c.in-Some.ensures in λ m q. greatest_power c.args.p c.args.order c.loop-k.power c.loop-k.k m c.requires.above_one c.loop-k.invariant.0 (omega (arith, h, c.if-next-order.true)) q

pub returns-clause-greatest : goal.returns-clause-greatest
returns-clause-greatest c = λ m q. power_full c.args.p c.args.order m c.requires.above_one (omega (arith, c.ranges.order.fits)) q
