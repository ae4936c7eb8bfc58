use Rattle.std.proofs.Common.{◌∙◌, ap, sym, arith, get_or}
use Rattle.p3_packed_extension.specs.ValueLanes.{extracted}
use Rattle.p3_packed_extension.proofs.packed_field_extension.PackedExtFieldExtensionLanesExtField.extract.Goals as goal

pub returns : goal.returns
returns g c =
    let z = g.F.PrimeCharacteristicRing.ops.zero in
    extracted g.P.PrimeCharacteristicRing.ops g.F.PrimeCharacteristicRing.ops g.P.PackedValue.lanes g.P.PackedValue.WIDTH c.args.self.now c.new.result c.args.lane c.requires
    (λ p i u. c.loop-i.invariant.1 p i (omega (arith, u, c.loop-i-test.false)) ∙ ap (λ l. get_or l i z) (sym c.new.ensures))
