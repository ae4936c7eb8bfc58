use Rattle.std.proofs.Common.{◌≡◌, ◌+◌, ◌*◌, ◌%◌, ◌^◌, ◌≤◌, arith, sym, subst}
use Rattle.std.specs.Bool.{FalseIff}
use Rattle.p3_residues.proofs.Reductions.{with_multiple}
use Rattle.p3_residues.proofs.montgomery.reduce_short_sum.Goals as goal

pub returns-else-borrowed-clause-value : goal.returns-else-borrowed-clause-value
returns-else-borrowed-clause-value c =
    let p = c.args.order in
    let d = c.overflowing_sub-less in
    let fits = subst (λ b. FalseIff b ((p * 2 ^ 32) % 2 ^ 64 ≤ c.args.sum)) c.if-borrowed.false d.ensures.overflow in
    let e : c.args.sum ≡ d.result.0 + p * 2 ^ 32 = omega (arith, fits, d.ensures.value, d.type_inv, c.requires.fits) in
    sym (with_multiple p d.result.0 (2 ^ 32) _ e)
