use Rattle.std.proofs.Common.{◌∙◌, sym, get_or}
use borrow.Author.Count.{below_more}
use Rattle.p3_theory.specs.Lists.ByIndex.{read_at}
use Rattle.p3_theory.specs.Bases.Subfields.{IsEmbedded}
use Rattle.p3_extension.proofs.subfield.HasSubfield.all_in_subfield.Goals as goal

pub returns-in_default : goal.returns-in_default
returns-in_default g c =
    let x = c.index-values-i.result in
    (λ h. absurd (cc h), λ all. let e = all c.loop-i.i x c.loop-i-test.true in absurd (c.in_default.ensures e.0 (e.1 ∙ sym c.index-values-i.is)))

pub loop-i-preserved : goal.loop-i-preserved
loop-i-preserved g c = λ k d.
    below_more (λ k. IsEmbedded g.Self.Algebra.embed (get_or c.args.values.now k d)) c.loop-i.i (λ k w. c.loop-i.invariant k d w)
    (c.in-Some.field-0, c.in-Some.ensures ∙ sym (read_at c.args.values.now c.loop-i.i c.index-values-i.result d c.loop-i-test.true c.index-values-i.is)) k
