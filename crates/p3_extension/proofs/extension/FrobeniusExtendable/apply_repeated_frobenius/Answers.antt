use Rattle.std.proofs.Common.{◌∙◌, ap, length}
use Rattle.p3_theory.specs.FrobeniusMaps.Iteration.{iterate_out}
use Rattle.p3_theory.specs.FrobeniusMaps.FrobeniusTable.{frobenius_list}
use Rattle.p3_theory.specs.FrobeniusMaps.FrobeniusTableLaws.{length-frobenius_list}
use Rattle.p3_extension.proofs.extension.FrobeniusExtendable.apply_repeated_frobenius.Goals as goal

pub loop-i-preserved : goal.loop-i-preserved
loop-i-preserved g c =
    let o = g.Self.PrimeCharacteristicRing.ops in
    let f = g.Self.ExtensionAlgebra.modulus in
    let phi = g.Self.FrobeniusExtendable.image in
    let s = frobenius_list o g.row.D f phi in
    let next = c.copy_from_slice-in-loop-i.ensures.after ∙ c.apply_frobenius.ensures in (
      ap length next ∙ length-frobenius_list o g.row.D f phi c.loop-i.value,
      next ∙ ap s c.loop-i.invariant.1 ∙ iterate_out s c.loop-i.i c.args.a.now,
    )
