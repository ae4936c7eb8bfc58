use Rattle.p3_residues.proofs.PowerQuotients.{quotient_by_greater}
use Rattle.p3_residues.proofs.odd_modulus.divided_by_power.Goals as goal

pub loop-left-preserved : goal.loop-left-preserved
loop-left-preserved c =
    let a = c.divided_by_short_power-answer in
    record {
      small = a.ensures.below;
      value = λ r e. c.loop-left.invariant.value r (quotient_by_greater c.args.modulus c.loop-left.answer a.result r c.loop-left.left c.loop-left-test.true a.ensures.value e);
    }
