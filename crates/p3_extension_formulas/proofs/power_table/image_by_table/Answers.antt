use Rattle.std.proofs.Common.{arith}
use Rattle.p3_theory.specs.Rings.Ring.{ring_of}
use Rattle.p3_theory.specs.FrobeniusMaps.TableImages.{image-written}
use Rattle.p3_extension_formulas.proofs.power_table.image_by_table.Goals as goal

pub returns : goal.returns
returns g c =
    image-written (ring_of g.met.F.PrimeCharacteristicRing.ring) g.row.D c.requires.degree g.T.PowerTable.powers g.met.T.PowerTable.first_is_one c.args.a.now c.loop-k.res
    c.loop-k.invariant.0 (λ k h. c.loop-k.invariant.1 k (omega (arith, h, c.loop-k-test.false)))
