use Rattle.std.specs.Prelude.{refl}
use Rattle.p3_theory.specs.Bases.Subfields.{embedded_exactly}
use Rattle.p3_extension.specs.Values.{constant}
use Rattle.p3_extension.proofs.subfield.ExtFieldHasSubfield.as_subfield.Goals as goal

pub returns : goal.returns
returns g c =
    embedded_exactly g.F.PrimeCharacteristicRing.ops g.row.D (λ x. x.value) (constant g.F.PrimeCharacteristicRing.ops) (λ s. refl)
    c.args.self.now c.as_base.result c.as_base.ensures.exact c.as_base.ensures.embedded
