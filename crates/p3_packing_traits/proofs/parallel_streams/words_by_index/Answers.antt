use Rattle.std.proofs.Common.{map, slice_index, rules, arith, ap, ◌∙◌}
use Rattle.p3_theory.specs.Lists.ByIndex.{to-tabulate}
use Rattle.p3_theory.specs.Lists.TabulatedEntries.{holds-more}
use Rattle.p3_packing_traits.proofs.parallel_streams.words_by_index.Goals as goal

pub loop-j-preserved : goal.loop-j-preserved
loop-j-preserved g c = record {
  long = search rules;
  read = holds-more (λ k. g.W.StreamWord.read (map (λ row. slice_index row k) c.args.rows.now)) c.args.zero c.loop-j.words c.loop-j.j c.of_bytes.result
      (omega (arith, c.loop-j.invariant.long, c.loop-j-test.true)) c.loop-j.invariant.read (c.of_bytes.ensures ∙ ap g.W.StreamWord.read c.column_bytes.ensures);
}

pub returns : goal.returns
returns g c = to-tabulate c.args.zero g.row.N (λ k. g.W.StreamWord.read (map (λ row. slice_index row k) c.args.rows.now)) c.loop-j.words
    c.loop-j.invariant.long (λ k h. c.loop-j.invariant.read k (omega (arith, c.loop-j-test.false)))
