use Rattle.std.proofs.Common.{◌∙◌, ap}
use Rattle.p3_field.proofs.run_laws.packed_ext_of_packing.Goals as goal

pub returns : goal.returns
returns g c = λ from.
    ap g.PE.BasedVectorSpace.coefficients (g.met.PE.Algebra-2.froms c.args.p c.args.x from) ∙ g.met.PE.PackedFieldExtension.base_injects c.args.p
