use Rattle.std.proofs.Common.{◌≡◌, Option, None, subst, rules}
use Rattle.std.specs.Iterator.Adapters.{rev_steps}
use Rattle.p3_theory.specs.Rings.Ring.{ring_of}
use Rattle.p3_helpers.proofs.BackwardFolds.{folded_back}
use Rattle.p3_helpers.proofs.helpers.HornerIter.horner_acc.Goals as goal

pub returns : goal.returns
returns g c =
    let coefficients = ring_of g.met.Self.Item.PrimeCharacteristicRing.ring in
    let values = ring_of g.met.Acc.PrimeCharacteristicRing.ring in
    let back = g.Self.DoubleEndedIterator.next_back_gives in
    let loop = c.loop-coefficient in
    let left = c.next.new.self in
    let end : c.next.result ≡ None = search rules in
    let P = λ (r : Option g.row.Self-Item.Denot). rev_steps back loop.coefficient-iterator r left in
    let both =
    folded_back coefficients values g.Acc.Algebra-2.embed g.met.Acc.Algebra-2.embeds (g.Acc.Algebra-1.embed c.args.x) c.args.acc back (rev_steps back) c.args.self
    c.rev-coefficient-items.result c.into_iter-coefficient-iterator.result loop.coefficient-iterator left loop.yielded loop.sum c.rev-coefficient-items.ensures.runs
    c.into_iter-coefficient-iterator.ensures.into_iter_gives loop.yielded_by (subst P end c.next.ensures.steps) loop.invariant.2 in
    record { runs = both.0; lists = both.1 }
