use Rattle.p3_calculator.proofs.SetCoefficients.{canon-zero}
use Rattle.p3_calculator.proofs.bases.FpBase.zero_residue.Goals as goal

pub returns : goal.returns
returns g c = canon-zero c.default.result c.default.ensures
