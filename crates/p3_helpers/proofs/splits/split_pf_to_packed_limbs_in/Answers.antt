use Rattle.std.proofs.Common.{◌^◌, ap, ◌∙◌}
use Rattle.std.proofs.lemmas.Result.{IfOk-weaker}
use Rattle.p3_helpers.specs.Digits.{digits}
use Rattle.p3_helpers.proofs.SplitDigits.{value-of-digits}
use Rattle.p3_helpers.proofs.splits.split_pf_to_packed_limbs_in.Goals as goal

pub returns-clause-whole : goal.returns-clause-whole
returns-clause-whole g c = λ fits.
    let n = c.args.num_limbs in
    let r = c.args.radix_bits in
    IfOk-weaker c.radix_digits_in.result _ _
    (λ limbs h. value-of-digits g.TF.Quotient.canon g.met.SF.PrimeCharacteristicRing.ring g.met.SF.PrimeField.residues limbs.items c.args.val n r fits (h ∙ ap (λ v. digits v (2 ^ r) n) c.as_canonical_biguint.ensures))
    c.radix_digits_in.ensures.digits
