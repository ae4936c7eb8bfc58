use Rattle.std.proofs.Common.{◌≡◌, ◌+◌, ◌*◌, ◌/◌, ◌%◌, ◌^◌, ◌≤◌, arith, ap, subst}
use Rattle.std.specs.Bool.{FalseIff}
use Rattle.p3_residues.proofs.Reductions.{with_multiple}
use Rattle.p3_residues.proofs.montgomery.subtract_multiple.Goals as goal
use Rattle.p3_residues.proofs.montgomery.subtract_multiple.Goals.{then-borrowed, else-borrowed}

pub returns-clause-value : goal.returns-clause-value
returns-clause-value c =
    let n = c.args.number in
    let m = c.args.multiple in
    let p = c.args.order in
    let d = c.overflowing_sub-difference in
    elim c.if-borrowed.branch [
      | then-borrowed w ↦
          let over = subst (λ b. FalseIff b (m ≤ n)) w.if-borrowed.true d.ensures.overflow in
          let e : c.if-borrowed.kept / 2 ^ 32 * 2 ^ 32 + m ≡ n + p * 2 ^ 32 = omega (arith, over, w.kept-is, d.ensures.value, d.type_inv, c.requires.same_end, c.requires.number, c.requires.multiple, c.requires.fits) in
          with_multiple p n (2 ^ 32) _ e
      | else-borrowed w ↦
          let fits = subst (λ b. FalseIff b (m ≤ n)) w.if-borrowed.false d.ensures.overflow in
          let e : c.if-borrowed.kept / 2 ^ 32 * 2 ^ 32 + m ≡ n = omega (arith, fits, w.kept-is, d.ensures.value, d.type_inv, c.requires.same_end) in
          ap (λ z. z % p) e
    ]
