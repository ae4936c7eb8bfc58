use Rattle.std.proofs.Common.{◌+◌, ◌^◌, arith, refl}
use Rattle.std.proofs.lemmas.Nat.{one_shl}
use Rattle.p3_helpers.proofs.PackedDigits.{none_packed, one_more_packed}
use Rattle.p3_helpers.proofs.packing.reduce_packed_shifted.Goals as goal

pub loop-i-init : goal.loop-i-init
loop-i-init g c = none_packed (λ v. g.SF.Quotient.canon v + 1) g.met.TF.PrimeField.residues c.args.vals.now (2 ^ c.args.radix_bits) _ _ refl c.zero-sum.ensures

pub loop-i-preserved : goal.loop-i-preserved
loop-i-preserved g c =
    let m = g.met.TF.PrimeCharacteristicRing in
    one_more_packed (λ v. g.SF.Quotient.canon v + 1) g.met.TF.PrimeField.residues c.args.vals.now (2 ^ c.args.radix_bits) c.loop-i.i _ (c.as_canonical_u32.result + 1) c.index-vals-i.result c.loop-i.sum c.from_int-base.result c.mul.result c.from_int.result c.add-sum.result
    (omega (arith, c.loop-i-test.true)) (omega (arith, c.loop-i.auto.i)) c.index-vals-i.is c.loop-i.invariant
    c.from_int-base.ensures (one_shl c.args.radix_bits 64 c.requires.narrow) c.from_int.ensures (omega (arith, c.as_canonical_u32.ensures))
    (m.muls.exact _ _ _ c.mul.ensures) (m.adds.exact _ _ _ c.add-sum.ensures)
