use Rattle.std.proofs.Common.{◌≡◌, ◌∷◌, [], Option, None, subst, sym, ◌∙◌, rules}
use Rattle.std.specs.Prelude.{fold}
use Rattle.std.specs.Iterator.Adapters.{rev_steps}
use Rattle.std.proofs.lemmas.List.Sums.{fold-append}
use Rattle.p3_theory.specs.Rings.Ring.{ring_of}
use Rattle.p3_helpers.proofs.BackwardFolds.{folded_back}
use Rattle.p3_helpers.proofs.TurningStrands.{at_first, turned}
use Rattle.p3_helpers.proofs.helpers.horner_in_strands.Goals as goal

pub loop-coefficient-init : goal.loop-coefficient-init
loop-coefficient-init g c =
    (search rules, search rules, at_first g.met.Acc.PrimeCharacteristicRing.ring (g.Acc.Algebra-1.embed c.args.x) c.zero-zero.result c.args.acc c.zero-zero.ensures)

pub loop-coefficient-preserved : goal.loop-coefficient-preserved
loop-coefficient-preserved g c =
    let o = g.Acc.PrimeCharacteristicRing.ops in
    let embed = g.Acc.Algebra-2.embed in
    let step = λ (y : g.row.Acc.Denot) (v : g.row.I-Item.Denot). o.add (o.mul y (g.Acc.Algebra-1.embed c.args.x)) (embed v) in
    let loop = c.loop-coefficient in
    let v = c.in-Some.coefficient in
    let value =
    turned g.met.Acc.PrimeCharacteristicRing.ring g.Acc.Algebra-1.embed g.met.Acc.Algebra-1.embeds c.args.x c.exp_power_of_2-step.result loop.s0 loop.s1 loop.s2 loop.s3 c.mul.result (embed v)
    c.add-next.result (fold step c.args.acc loop.yielded) c.exp_power_of_2-step.ensures (g.met.Acc.Algebra-1.mixed_muls.exact _ _ _ c.mul.ensures)
    (g.met.Acc.Algebra-2.mixed_adds.exact _ _ _ c.add-next.ensures) loop.invariant.2 in
    (search rules, search rules, value ∙ sym (fold-append step c.args.acc loop.yielded (v ∷ [])))

pub returns : goal.returns
returns g c =
    let coefficients = ring_of g.met.I.Item.PrimeCharacteristicRing.ring in
    let values = ring_of g.met.Acc.PrimeCharacteristicRing.ring in
    let back = g.I.DoubleEndedIterator.next_back_gives in
    let loop = c.loop-coefficient in
    let left = c.next.new.self in
    let end : c.next.result ≡ None = search rules in
    let P = λ (r : Option g.row.I-Item.Denot). rev_steps back loop.coefficient-iterator r left in
    let both =
    folded_back coefficients values g.Acc.Algebra-2.embed g.met.Acc.Algebra-2.embeds (g.Acc.Algebra-1.embed c.args.x) c.args.acc back (rev_steps back) c.args.coefficients
    c.rev-coefficient-items.result c.into_iter-coefficient-iterator.result loop.coefficient-iterator left loop.yielded c.join_strands.result c.rev-coefficient-items.ensures.runs
    c.into_iter-coefficient-iterator.ensures.into_iter_gives loop.yielded_by (subst P end c.next.ensures.steps) (c.join_strands.ensures ∙ loop.invariant.2) in
    record { runs = both.0; lists = both.1 }
