use Rattle.std.proofs.Common.{◌*◌, ◌%◌, ◌^◌, ap₂, ◌∙◌}
use Rattle.p3_residues.specs.Montgomery.{residue_reduced}
use Rattle.p3_prime_fields.proofs.montgomery.MontgomeryFormU32.decode.Goals as goal

pub montgomery_residue-requires-clause-inverse : goal.montgomery_residue-requires-clause-inverse
montgomery_residue-requires-clause-inverse g c = ap₂ (λ p i. (p * i) % 2 ^ 32) c.ORDER.ensures c.INVERSE.ensures ∙ g.M.MontgomeryModulus.inverts_order

pub returns : goal.returns
returns g c =
    let m = g.M.MontgomeryModulus in
    residue_reduced m.ORDER (2 ^ 32) m.SCALE_INVERSE m.undoes_scale c.montgomery_residue.result c.args.stored
    (rw c.ORDER.ensures at c.montgomery_residue.ensures.below) (rw c.ORDER.ensures at c.montgomery_residue.ensures.value)
