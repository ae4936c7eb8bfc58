use Rattle.std.proofs.Common.{◌≡◌, sym, ap, ◌∙◌}
use Rattle.p3_theory.specs.Rings.Ring.{ring_of}
use Rattle.p3_theory.specs.Rings.Basics.{quotient_exact}
use Rattle.p3_theory.specs.Lanes.Lanes.{lane}
use Rattle.p3_helpers.proofs.packed_inverse.divide_by_lanes.Goals as goal

pub returns : goal.returns
returns g c =
    let o = g.PE.PrimeCharacteristicRing.ops in
    let m = g.met.PE.PrimeCharacteristicRing in
    let x = c.args.x in
    let y = c.args.y in
    let z = c.invert_packed_extension-inverse.result in
    let at_y = c.invert_packed_extension-inverse.ensures.inverse in
    let whole : o.mul c.mul.result y ≡ x = quotient_exact (ring_of m.ring) x y z c.mul.result at_y (m.muls.exact _ _ _ c.mul.ensures) in
    record {
      lanes = λ k h. sym ((g.met.PE.PackedExtensionRing.ext_keeps k h).mul c.mul.result y) ∙ ap (lane g.EF.PrimeCharacteristicRing.ops g.PE.ExtensionLanes.ext_lanes k) whole;
      quotient = whole;
      invertible = (z, at_y);
    }
