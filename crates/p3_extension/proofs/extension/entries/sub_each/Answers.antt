use Rattle.std.proofs.Common.{get_or, length, arith, sym, ap₂, ◌∙◌}
use Rattle.p3_theory.specs.Rings.Ring.{subtract}
use Rattle.p3_theory.specs.Lists.ByIndex.{read_at}
use Rattle.p3_theory.specs.Lists.TabulatedEntries.{holds-none, holds-more, holds-all}
use Rattle.p3_extension.proofs.extension.entries.sub_each.Goals as goal

pub loop-i-init : goal.loop-i-init
loop-i-init g c o gives = holds-none (λ k. subtract o (get_or c.args.a.now k o.zero) (get_or c.args.b.now k o.zero)) o.zero c.args.res.now

pub loop-i-preserved : goal.loop-i-preserved
loop-i-preserved g c o gives =
    let i = c.loop-i.i in
    holds-more (λ k. subtract o (get_or c.args.a.now k o.zero) (get_or c.args.b.now k o.zero)) o.zero c.loop-i.res i c.sub-difference.result (omega arith) (c.loop-i.invariant o gives)
    (gives.exact _ _ _ c.sub-difference.ensures
    ∙ ap₂ (subtract o) (sym (read_at c.args.a.now i c.index-a-i.result o.zero (omega arith) c.index-a-i.is))
    (sym (read_at c.args.b.now i c.index-b-i.result o.zero (omega arith) c.index-b-i.is)))

pub returns : goal.returns
returns g c D o long gives =
    holds-all (λ k. subtract o (get_or c.args.a.now k o.zero) (get_or c.args.b.now k o.zero)) o.zero c.loop-i.res D
    (omega arith) (λ k w. c.loop-i.invariant o gives k (omega arith))
