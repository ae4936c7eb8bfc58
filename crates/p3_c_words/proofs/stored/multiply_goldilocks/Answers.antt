use Rattle.std.proofs.Common.{◌<◌, length, get_or, arith, rules, ap, ap₂, ◌∙◌}
use Rattle.std.proofs.lemmas.List.{get_or_default}
use Rattle.p3_prime_fields.specs.Elements.{is, ops}
use Rattle.p3_prime_fields.specs.contracts.form.U64Word.TheImpl as word_impl
use Rattle.p3_prime_fields.specs.contracts.goldilocks.GoldilocksFormFormU64.TheImpl as impl
use Rattle.p3_theory.specs.ResidueRings.Residues.{is_of}
use Rattle.p3_c_words.specs.Fields.{stored_words}
use Rattle.p3_c_words.specs.Words.{Stands}
use Rattle.p3_c_words.proofs.PairedWords.{paired-more, rest-holds}
use Rattle.p3_c_words.proofs.stored.multiply_goldilocks.Goals as goal

pub loop-i-preserved : goal.loop-i-preserved
loop-i-preserved c =
    let held = c.loop-i.invariant in
    let xs = c.loop-i.left in
    let ys = c.args.right.now in
    let i = c.loop-i.i in
    let inside : i < length xs = omega (arith, c.loop-i-test.true, c.loop-i.auto.left) in
    let beside : i < length ys = omega (arith, c.loop-i-test.true, c.requires.lengths) in
    let same = is_of (is impl.ghosts) c.mul-product.result _ c.mul-product.ensures ∙ ap₂ (ops impl.ghosts).mul c.goldilocks_value-x.ensures.value c.goldilocks_value-y.ensures.value in
    record {
      long = search rules;
      stand = rest-holds (Stands (stored_words {form = impl.ghosts} {bounds = word_impl.ghosts})) xs i c.to_unique_u64.result held.stand;
      written = paired-more _ xs ys i (get_or xs i 0) (get_or ys i 0) c.to_unique_u64.result inside beside (get_or_default xs i 0 _ inside) (get_or_default ys i 0 _ beside)
          (c.to_unique_u64.ensures ∙ ap (λ q. q.word) same) ∙ held.written;
    }
