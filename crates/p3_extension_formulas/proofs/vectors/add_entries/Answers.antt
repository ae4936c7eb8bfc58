use Rattle.std.proofs.Common.{get_or, map, length, arith, sym, ap₂, ◌∙◌}
use Rattle.p3_theory.specs.Lists.ByIndex.{read_at}
use Rattle.p3_theory.specs.Lists.ListItems.{mapped_at}
use Rattle.p3_theory.specs.Lists.TabulatedEntries.{holds-none, holds-more, holds-all}
use Rattle.p3_extension_formulas.proofs.vectors.add_entries.Goals as goal

pub loop-i-init : goal.loop-i-init
loop-i-init g c =
    let o = g.R.PrimeCharacteristicRing.ops in
    holds-none (λ k. o.add (get_or c.args.a.now k o.zero) (get_or (map g.R.Algebra.embed c.args.b.now) k o.zero)) o.zero c.args.res.now

pub loop-i-preserved : goal.loop-i-preserved
loop-i-preserved g c =
    let o = g.R.PrimeCharacteristicRing.ops in
    let h = g.R.Algebra.embed in
    let i = c.loop-i.i in
    holds-more (λ k. o.add (get_or c.args.a.now k o.zero) (get_or (map h c.args.b.now) k o.zero)) o.zero c.loop-i.res i c.add-sum.result (omega arith) c.loop-i.invariant
    (g.met.R.Algebra.mixed_adds.exact _ _ _ c.add-sum.ensures
    ∙ ap₂ (o.add) (sym (read_at c.args.a.now i c.index-a-i.result o.zero (omega arith) c.index-a-i.is))
    (sym (mapped_at h c.args.b.now i c.index-b-i.result o.zero (omega arith) c.index-b-i.is)))

pub returns : goal.returns
returns g c =
    let o = g.R.PrimeCharacteristicRing.ops in
    holds-all (λ k. o.add (get_or c.args.a.now k o.zero) (get_or (map g.R.Algebra.embed c.args.b.now) k o.zero)) o.zero c.loop-i.res (length c.args.a.now)
    (omega arith) (λ k w. c.loop-i.invariant k (omega arith))
