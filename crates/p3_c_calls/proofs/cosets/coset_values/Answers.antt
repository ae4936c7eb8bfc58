use Rattle.std.proofs.Common.{◌^◌, length, ap, sym, ◌∙◌}
use Rattle.std.proofs.lemmas.List.{length-map}
use Rattle.p3_theory.specs.Polynomials.Coefficients.{length-tabulate}
use Rattle.p3_c_calls.proofs.cosets.coset_values.Goals as goal

pub write-requires : goal.write-requires
write-requires g c =
    let k = c.in_ok-coset.coset.log_size in
    ap length (c.deref-2.ensures.value ∙ c.in-Ok-eval_coset.ensures) ∙ length-map _ _ ∙ length-tabulate (2 ^ k) _
    ∙ ap (λ j. 2 ^ j) c.in_ok-coset.ensures.1.1 ∙ sym c.in_ok-check_size.ensures.1
