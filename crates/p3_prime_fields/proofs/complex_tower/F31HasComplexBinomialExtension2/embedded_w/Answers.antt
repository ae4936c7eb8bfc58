use Rattle.std.proofs.Common.{◌∙◌, ap}
use Rattle.p3_prime_fields.proofs.complex_tower.F31HasComplexBinomialExtension2.embedded_w.Goals as goal

pub returns : goal.returns
returns g c = g.met.P.Algebra.froms c.complex.result c.from.result c.from.ensures ∙ ap g.P.Algebra.embed c.complex.ensures
