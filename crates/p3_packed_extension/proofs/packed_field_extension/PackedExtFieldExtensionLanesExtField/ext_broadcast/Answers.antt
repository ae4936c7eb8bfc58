use Rattle.std.proofs.Common.{[], ◌∙◌, ap}
use Rattle.p3_packed_extension.specs.PackedValues.{spread, same_packed}
use Rattle.p3_packed_extension.specs.ValueLanes.{value_lanes, lanes_of_spread}
use Rattle.p3_packed_extension.proofs.packed_field_extension.PackedExtFieldExtensionLanesExtField.ext_broadcast.Goals as goal

pub returns : goal.returns
returns g c =
    let p = g.P.PrimeCharacteristicRing.ops in
    let q = g.F.PrimeCharacteristicRing.ops in
    let lanes = g.P.PackedValue.lanes in
    let w = g.P.PackedValue.WIDTH in
    let embed = g.P.Algebra.embed in
    ap (value_lanes p q lanes w) (same_packed p [] c.from.result (spread embed c.args.value) c.from.ensures)
    ∙ lanes_of_spread p q lanes w embed g.met.P.PackedRing.injects c.args.value
