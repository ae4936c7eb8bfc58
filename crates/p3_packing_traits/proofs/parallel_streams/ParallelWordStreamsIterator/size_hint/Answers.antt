use Rattle.std.proofs.Common.{subst}
use Rattle.std.specs.Prelude.{IfSome}
use Rattle.std.specs.Iterator.{UpTo, count_map, count_unless}
use Rattle.std.specs.Iterator.SizeHint.{IsWithinCount}
use Rattle.p3_extension_traits.specs.Streams.{group_count}
use Rattle.p3_packing_traits.proofs.parallel_streams.ParallelWordStreamsIterator.size_hint.Goals as goal

pub returns-clause-lower : goal.returns-clause-lower
returns-clause-lower g c =
    let left = g.I.Iterator.remaining c.args.self.now.source in
    subst (λ n. IsWithinCount c.words_hint.result.0 (count_unless c.args.self.now.is_over (count_map (group_count n) left))) c.BYTES.ensures
    (c.words_hint.ensures.least left c.size_hint.ensures.lower)

pub returns-clause-upper : goal.returns-clause-upper
returns-clause-upper g c =
    let left = g.I.Iterator.remaining c.args.self.now.source in
    subst (λ n. IfSome c.words_hint.result.1 (UpTo (count_unless c.args.self.now.is_over (count_map (group_count n) left)))) c.BYTES.ensures
    (c.words_hint.ensures.most left c.size_hint.ensures.upper)
