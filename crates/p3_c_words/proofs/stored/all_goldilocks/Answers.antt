use Rattle.std.proofs.Common.{get_or}
use Rattle.std.proofs.lemmas.List.{get_or_default}
use Rattle.p3_prime_fields.specs.contracts.form.U64Word.TheImpl as word_impl
use Rattle.p3_prime_fields.specs.contracts.goldilocks.GoldilocksFormFormU64.TheImpl as impl
use Rattle.p3_c_words.specs.Fields.{stored_words}
use Rattle.p3_c_words.specs.Words.{Stands}
use Rattle.p3_c_words.proofs.WrittenWords.{holds-more}
use Rattle.p3_c_words.proofs.stored.all_goldilocks.Goals as goal

pub loop-i-preserved : goal.loop-i-preserved
loop-i-preserved c =
    let ws = c.args.items.now in
    let i = c.loop-i.i in
    let both = c.both-all.ensures in
    let here = c.is_goldilocks-stands.ensures in
    holds-more (Stands (stored_words {form = impl.ghosts} {bounds = word_impl.ghosts})) ws i (get_or ws i 0) c.loop-i-test.true
    (get_or_default ws i 0 _ c.loop-i-test.true) c.loop-i.invariant
    (λ h. (here.0 (both.0 h).0, (both.0 h).1), λ h. both.1 (here.1 h.0, h.1))
