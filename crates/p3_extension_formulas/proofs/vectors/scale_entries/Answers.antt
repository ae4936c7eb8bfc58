use Rattle.std.proofs.Common.{get_or, length, arith, sym, ap, ◌∙◌}
use Rattle.p3_theory.specs.Lists.ByIndex.{read_at}
use Rattle.p3_theory.specs.Lists.TabulatedEntries.{holds-none, holds-more, holds-all}
use Rattle.p3_extension_formulas.proofs.vectors.scale_entries.Goals as goal

pub loop-i-init : goal.loop-i-init
loop-i-init g c =
    let o = g.R.PrimeCharacteristicRing.ops in
    holds-none (λ k. o.mul (get_or c.args.a.now k o.zero) c.args.factor) o.zero c.args.res.now

pub loop-i-preserved : goal.loop-i-preserved
loop-i-preserved g c =
    let o = g.R.PrimeCharacteristicRing.ops in
    let i = c.loop-i.i in
    holds-more (λ k. o.mul (get_or c.args.a.now k o.zero) c.args.factor) o.zero c.loop-i.res i c.mul-product.result (omega arith) c.loop-i.invariant
    (g.met.R.PrimeCharacteristicRing.muls.exact _ _ _ c.mul-product.ensures
    ∙ ap (λ z. o.mul z c.args.factor) (sym (read_at c.args.a.now i c.index-a-i.result o.zero (omega arith) c.index-a-i.is)))

pub returns : goal.returns
returns g c =
    let o = g.R.PrimeCharacteristicRing.ops in
    holds-all (λ k. o.mul (get_or c.args.a.now k o.zero) c.args.factor) o.zero c.loop-i.res (length c.args.a.now)
    (omega arith) (λ k w. c.loop-i.invariant k (omega arith))
