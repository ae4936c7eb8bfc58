use Rattle.p3_theory.specs.FrobeniusMaps.FrobeniusTable.{orbit_list}
use Rattle.p3_theory.specs.FrobeniusMaps.OrbitLists.{orbit_list-step}
use Rattle.p3_extension.specs.Conjugates.{frobenius_map}
use Rattle.p3_extension.proofs.extension.has_frobenius.ExtField+F+D+S+F.orbit_in.Goals as goal

pub loop-preserved : goal.loop-preserved
loop-preserved g c =
    let s = frobenius_map g.F.PrimeCharacteristicRing.ops g.F.ExtensionAlgebra.modulus g.F.FrobeniusExtendable.image in
    orbit_list-step s g.row.D c.loop.counter c.loop-test.true c.loop.orbit.items c.push.new.self.items (orbit_list s g.row.D c.args.self) c.loop.image c.frobenius_image-image.result
    c.in_ok-push.ensures.items c.frobenius_image-image.ensures c.loop.invariant
