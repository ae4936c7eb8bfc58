use Rattle.std.proofs.Common.{length, ap, sym, ◌∙◌}
use Rattle.std.proofs.lemmas.List.{length-map}
use Rattle.p3_theory.specs.Polynomials.Coefficients.{length-tabulate}
use Rattle.p3_c_calls.proofs.limbs.split.Goals as goal

pub write-requires : goal.write-requires
write-requires g c =
    let n = length c.args.limbs.now in
    ap length c.deref.ensures.value ∙ sym (length-map _ g.TF.Quotient.canon) ∙ ap length c.in-Ok.ensures.digits ∙ length-tabulate n _
