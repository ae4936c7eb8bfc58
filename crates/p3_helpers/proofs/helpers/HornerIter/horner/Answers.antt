use Rattle.p3_theory.specs.Rings.Ring.{ring_of}
use Rattle.p3_theory.specs.Polynomials.HornerFold.{from_zero}
use Rattle.p3_helpers.proofs.helpers.HornerIter.horner.Goals as goal

pub returns : goal.returns
returns g c =
    let values = ring_of g.met.Acc.PrimeCharacteristicRing.ring in
    let ran = c.horner_acc.ensures.runs in
    record {
      runs = (ran.0, ran.1, ran.2, from_zero values c.zero.result _ _ c.horner_acc.result c.zero.ensures ran.3);
      lists = λ cs a. from_zero values c.zero.result _ _ c.horner_acc.result c.zero.ensures (c.horner_acc.ensures.lists cs a);
    }
