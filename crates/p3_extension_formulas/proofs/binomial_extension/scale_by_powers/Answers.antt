use Rattle.std.proofs.Common.{arith, length, get_or}
use Rattle.p3_theory.specs.Rings.Powers.{power}
use Rattle.p3_theory.specs.Lists.ByIndex.{to-tabulate}
use Rattle.p3_extension_formulas.proofs.binomial_extension.scale_by_powers.Goals as goal

pub returns : goal.returns
returns g c =
    let o = g.F.PrimeCharacteristicRing.ops in
    to-tabulate o.zero (length c.args.a.now) (λ k. o.mul (power o c.args.root k) (get_or c.args.a.now k o.zero)) c.loop-i.res c.loop-i.invariant.0
    (λ k h. c.loop-i.invariant.2 k (omega arith))
