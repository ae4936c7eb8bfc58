use Rattle.std.specs.Prelude.{refl, None}
use Rattle.std.proofs.Common.{◌∙◌, sym, get_or}
use borrow.Author.Count.{below_more}
use Rattle.p3_theory.specs.Lists.ByIndex.{read_at}
use Rattle.p3_theory.specs.Bases.Subfields.{IsEmbedded, embedded_exactly}
use Rattle.p3_extension.specs.Values.{constant}
use Rattle.p3_extension.proofs.subfield.ExtFieldHasSubfield.all_in_subfield.Goals as goal

pub returns-in-None : goal.returns-in-None
returns-in-None g c =
    let o = g.F.PrimeCharacteristicRing.ops in
    let x = c.index-values-i.result in
    let none = embedded_exactly o g.row.D (λ v. v.value) (constant o) (λ s. refl) x None c.in-None.ensures.exact c.in-None.ensures.embedded in
    (λ h. absurd (cc h), λ all. let e = all c.loop-i.i x c.loop-i-test.true in absurd (none e.0 (e.1 ∙ sym c.index-values-i.is)))

pub loop-i-preserved : goal.loop-i-preserved
loop-i-preserved g c = λ k d.
    below_more (λ k. IsEmbedded (constant g.F.PrimeCharacteristicRing.ops) (get_or c.args.values.now k d)) c.loop-i.i (λ k w. c.loop-i.invariant k d w)
    (c.in-Some.field-0, c.in-Some.ensures.embedded ∙ sym (read_at c.args.values.now c.loop-i.i c.index-values-i.result d c.loop-i-test.true c.index-values-i.is)) k
