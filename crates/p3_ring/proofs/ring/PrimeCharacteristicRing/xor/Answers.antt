use Rattle.std.proofs.Common.{◌∙◌, ap, ap₂}
use Rattle.p3_theory.specs.Rings.BooleanForms.{xor-double}
use Rattle.p3_theory.specs.Rings.Ring.{subtract}
use Rattle.p3_ring.proofs.ring.PrimeCharacteristicRing.xor.Goals as goal

pub returns : goal.returns
returns g c =
    let o = g.Self.PrimeCharacteristicRing.ops in
    let m = g.met.Self.PrimeCharacteristicRing in
    m.subs.exact _ _ _ c.sub.ensures
    ∙ ap₂ (subtract o) (m.adds.exact _ _ _ c.add.ensures) (m.muls.exact _ _ _ c.mul.ensures ∙ ap (o.mul c.args.self.now) c.double.ensures)
    ∙ xor-double m.ring c.args.self.now c.args.y.now
