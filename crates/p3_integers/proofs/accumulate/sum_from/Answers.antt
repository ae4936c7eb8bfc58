use Rattle.std.proofs.Common.{rules}
use Rattle.p3_theory.specs.Rings.Accumulation.{Accumulates-push}
use Rattle.p3_integers.proofs.accumulate.sum_from.Goals as goal

pub loop-x-preserved : goal.loop-x-preserved
loop-x-preserved g c = (search rules, search rules, Accumulates-push g.R.Add.add_gives _ _ _ _ _ c.loop-x.invariant.2 c.add-sum.ensures)
