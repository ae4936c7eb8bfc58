use Rattle.std.proofs.Common.{rules, arith}
use Rattle.p3_extension_traits.specs.StreamLemmas.{wrote_next}
use Rattle.p3_extension_traits.proofs.array_chunks.take_up_to.Goals as goal

pub loop-i-preserved : goal.loop-i-preserved
loop-i-preserved g c = record {
  ready = search rules;
  finite = search rules;
  nearer = omega (arith, c.in-Some.ensures.goes.on c.loop-i.invariant.finite);
  wrote = wrote_next g.I.Iterator.next_gives _ _ _ _ _ _ _ (omega (arith, c.loop-i.auto.out)) c.in-Some.ensures.steps c.loop-i.invariant.wrote;
}
