use Rattle.std.proofs.Common.{[], ◌∷◌, ap, replicate}
use Rattle.p3_calculator.proofs.SetCoefficients.{canon-zero}
use Rattle.p3_calculator.proofs.zeros.zero_residues.Goals as goal

pub returns : goal.returns
returns g c = ap (λ x. replicate 16 (x ∷ [])) (canon-zero c.default-zero.result c.default-zero.ensures)
