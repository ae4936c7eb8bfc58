use Rattle.p3_helpers.proofs.Injective.{pack-injective}
use Rattle.p3_helpers.proofs.limits.max_packed_injective_limbs.Goals as goal

pub returns-clause-injective : goal.returns-clause-injective
returns-clause-injective g c =
    let f = g.met.F.PrimeField.residues in
    λ o. pack-injective _ f.same _ f.below c.args.radix_bits _ c.digits_below.result o
    (rw (c.ORDER_U32.ensures, g.met.F.PrimeField32.order_u32, c.order_of.ensures) at c.digits_below.ensures)
