use Rattle.std.proofs.Common.{arith}
use Rattle.std.proofs.lemmas.List.{length-set}
use Rattle.p3_packed_extension.specs.ValueLanes.{one_more_coefficient}
use Rattle.p3_packed_extension.proofs.packed_field_extension.pack_coefficients.Goals as goal

pub loop-i-preserved : goal.loop-i-preserved
loop-i-preserved g c = (
  omega (arith, length-set {A = g.row.P.Denot}, c.loop-i.invariant.0),
  one_more_coefficient g.P.PrimeCharacteristicRing.ops g.F.PrimeCharacteristicRing.ops g.P.PackedValue.lanes g.P.PackedValue.WIDTH c.loop-i.res c.args.slice.now c.loop-i.i
      c.packed_coefficient-part.result (omega (arith, c.loop-i.invariant.0, c.loop-i-test.true)) c.loop-i.invariant.1 c.packed_coefficient-part.ensures,
)

pub returns : goal.returns
returns g c = λ p d j k u v. c.loop-i.invariant.1 p d j k (omega (arith, u, c.loop-i-test.false)) v
