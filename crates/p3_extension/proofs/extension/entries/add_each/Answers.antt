use Rattle.std.proofs.Common.{get_or, length, arith, sym, ap₂, ◌∙◌}
use Rattle.p3_theory.specs.Lists.ByIndex.{read_at}
use Rattle.p3_theory.specs.Lists.TabulatedEntries.{holds-none, holds-more, holds-all}
use Rattle.p3_extension.proofs.extension.entries.add_each.Goals as goal

pub loop-i-init : goal.loop-i-init
loop-i-init g c o gives = holds-none (λ k. o.add (get_or c.args.a.now k o.zero) (get_or c.args.b.now k o.zero)) o.zero c.args.res.now

pub loop-i-preserved : goal.loop-i-preserved
loop-i-preserved g c o gives =
    let i = c.loop-i.i in
    holds-more (λ k. o.add (get_or c.args.a.now k o.zero) (get_or c.args.b.now k o.zero)) o.zero c.loop-i.res i c.add-sum.result (omega arith) (c.loop-i.invariant o gives)
    (gives.exact _ _ _ c.add-sum.ensures
    ∙ ap₂ (o.add) (sym (read_at c.args.a.now i c.index-a-i.result o.zero (omega arith) c.index-a-i.is))
    (sym (read_at c.args.b.now i c.index-b-i.result o.zero (omega arith) c.index-b-i.is)))

pub returns : goal.returns
returns g c D o long gives =
    holds-all (λ k. o.add (get_or c.args.a.now k o.zero) (get_or c.args.b.now k o.zero)) o.zero c.loop-i.res D
    (omega arith) (λ k w. c.loop-i.invariant o gives k (omega arith))
