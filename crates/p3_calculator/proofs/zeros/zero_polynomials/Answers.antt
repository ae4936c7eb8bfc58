use Rattle.std.proofs.Common.{◌∙◌, ap, map, replicate}
use Rattle.p3_calculator.proofs.SetCoefficients.{map-replicate, zero_coefficients}
use Rattle.p3_calculator.proofs.zeros.zero_polynomials.Goals as goal

pub returns : goal.returns
returns g c =
    ap (replicate 16)
    (ap (map g.F.Base.canon) c.new-value.ensures ∙ map-replicate g.F.Base.canon g.row.D c.zero_residue-zero.result ∙ ap (replicate g.row.D) c.zero_residue-zero.ensures ∙ zero_coefficients g.F.Base.base_order g.row.D)
