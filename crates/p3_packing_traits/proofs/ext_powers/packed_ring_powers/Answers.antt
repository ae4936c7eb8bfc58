use Rattle.std.proofs.Common.{◌∙◌}
use Rattle.p3_theory.specs.Rings.GeometricSequence.{geometric_term}
use Rattle.p3_ring.specs.PackedPowers.{packs-terms}
use Rattle.p3_packing_traits.proofs.ext_powers.packed_ring_powers.Goals as goal

pub returns : goal.returns
returns g c =
    let o = g.EF.PrimeCharacteristicRing.ops in
    let r = g.met.EF.PrimeCharacteristicRing.ring in
    let w = g.PE.ExtensionLanes.LANES in
    packs-terms r g.PE.PrimeCharacteristicRing.ops g.PE.ExtensionLanes.ext_lanes w c.packed_ext_powers.result.base c.packed_ext_powers.result.current c.args.base o.one (geometric_term o c.args.base o.one w)
    g.met.PE.PackedExtensionRing.ext_keeps c.packed_ext_powers.ensures.multiplier (r.mul_comm o.one _ ∙ r.mul_one _) c.packed_ext_powers.ensures.current
