use Rattle.std.proofs.Common.{ap, ◌∙◌, ◌%◌}
use Rattle.p3_theory.specs.ResidueRings.Residues.{is_of}
use Rattle.p3_prime_fields.specs.Elements.{is}
use Rattle.p3_prime_fields.proofs.fp.Fp.residue_of.Goals as goal

pub returns : goal.returns
returns g c = is_of (is g.W.Form) c.from_residue.result c.args.value (c.from_residue.ensures ∙ ap (λ n. c.args.value % n) c.ORDER.ensures)
