use Rattle.p3_theory.specs.Lanes.Rows.{rows}
use Rattle.p3_theory.specs.Lanes.RowRing.{written_constant}
use Rattle.p3_field.proofs.run_laws.vector_ext_default_is_zero.Goals as goal

pub returns : goal.returns
returns g c = written_constant rows g.PE.PrimeCharacteristicRing.ops c.args.x g.PE.PrimeCharacteristicRing.ops.zero
