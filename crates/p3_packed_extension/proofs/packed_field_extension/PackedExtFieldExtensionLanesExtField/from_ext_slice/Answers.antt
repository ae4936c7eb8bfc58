use Rattle.std.proofs.Common.{◌∙◌, ap, get_or}
use Rattle.p3_packed_extension.specs.ValueLanes.{gathered}
use Rattle.p3_packed_extension.proofs.packed_field_extension.PackedExtFieldExtensionLanesExtField.from_ext_slice.Goals as goal

pub returns : goal.returns
returns g c =
    let z = g.F.PrimeCharacteristicRing.ops.zero in
    gathered g.P.PrimeCharacteristicRing.ops g.F.PrimeCharacteristicRing.ops g.P.PackedValue.lanes g.P.PackedValue.WIDTH c.new.result c.args.slice.now c.requires
    (λ p d i k u v. ap (λ l. get_or (g.P.PackedValue.lanes (get_or l i p)) k z) c.new.ensures ∙ c.pack_coefficients.ensures p d i k u v)
