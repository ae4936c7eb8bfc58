use Rattle.std.proofs.Common.{get_or, map, length, arith, refl, sym, ◌∙◌}
use Rattle.std.proofs.lemmas.List.{length-map}
use Rattle.p3_theory.specs.Lists.ByIndex.{to-tabulate}
use Rattle.p3_theory.specs.Lists.ListItems.{mapped_at}
use Rattle.p3_theory.specs.Lists.TabulatedEntries.{holds-none, holds-more, holds-all}
use Rattle.p3_extension_formulas.proofs.vectors.embed_entries.Goals as goal

pub loop-i-init : goal.loop-i-init
loop-i-init g c =
    let o = g.R.PrimeCharacteristicRing.ops in
    holds-none (λ k. get_or (map g.R.Algebra.embed c.args.b.now) k o.zero) o.zero c.args.res.now

pub loop-i-preserved : goal.loop-i-preserved
loop-i-preserved g c =
    let o = g.R.PrimeCharacteristicRing.ops in
    let h = g.R.Algebra.embed in
    let i = c.loop-i.i in
    holds-more (λ k. get_or (map h c.args.b.now) k o.zero) o.zero c.loop-i.res i c.from-entry.result (omega arith) c.loop-i.invariant
    (g.met.R.Algebra.froms _ _ c.from-entry.ensures ∙ sym (mapped_at h c.args.b.now i c.index-b-i.result o.zero (omega arith) c.index-b-i.is))

pub returns : goal.returns
returns g c =
    let o = g.R.PrimeCharacteristicRing.ops in
    let all = map g.R.Algebra.embed c.args.b.now in
    let n = length c.args.b.now in
    holds-all (λ k. get_or all k o.zero) o.zero c.loop-i.res n (omega arith) (λ k w. c.loop-i.invariant k (omega arith))
    ∙ sym (to-tabulate o.zero n (λ k. get_or all k o.zero) all (length-map c.args.b.now g.R.Algebra.embed) (λ k w. refl))
