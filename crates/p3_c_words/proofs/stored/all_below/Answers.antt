use Rattle.std.proofs.Common.{◌<◌, get_or}
use Rattle.std.proofs.lemmas.List.{get_or_default}
use Rattle.p3_c_words.proofs.WrittenWords.{holds-more}
use Rattle.p3_c_words.proofs.stored.all_below.Goals as goal

pub loop-i-preserved : goal.loop-i-preserved
loop-i-preserved c =
    let ws = c.args.items.now in
    let i = c.loop-i.i in
    holds-more (λ w. w < c.args.order) ws i (get_or ws i 0) c.loop-i-test.true (get_or_default ws i 0 _ c.loop-i-test.true) c.loop-i.invariant
    (c.greater-greatest.ensures c.args.order)
