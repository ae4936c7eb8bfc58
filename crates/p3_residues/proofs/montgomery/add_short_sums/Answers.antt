use Rattle.std.proofs.Common.{◌≡◌, ◌+◌, ◌-◌, ◌*◌, ◌%◌, ◌^◌, ◌≤◌, arith, sym, subst}
use Rattle.std.specs.Bool.{FalseIff}
use Rattle.p3_residues.proofs.Reductions.{with_multiple}
use Rattle.p3_residues.proofs.montgomery.add_short_sums.Goals as goal

pub returns-else-borrowed-clause-value : goal.returns-else-borrowed-clause-value
returns-else-borrowed-clause-value c =
    let p = c.args.order in
    let d = c.overflowing_sub-less in
    let fits = subst (λ b. FalseIff b ((p * 2 ^ 33) % 2 ^ 64 - c.args.last ≤ c.args.first)) c.if-borrowed.false d.ensures.overflow in
    let e : c.args.first + c.args.last ≡ d.result.0 + p * 2 ^ 33 = omega (arith, fits, d.ensures.value, d.type_inv, c.requires.fits, c.requires.last) in
    sym (with_multiple p d.result.0 (2 ^ 33) _ e)
