use Rattle.std.proofs.Common.{◌≡◌, ◌+◌, ◌*◌, ◌/◌, ◌%◌, ◌^◌, arith, ap}
use Rattle.p3_residues.proofs.Reductions.{with_multiple}
use Rattle.p3_residues.proofs.montgomery.subtract_multiple_from_sum.Goals as goal
use Rattle.p3_residues.proofs.montgomery.subtract_multiple_from_sum.Goals.{then-difference-eq1, else-difference-eq1}

pub returns-clause-value : goal.returns-clause-value
returns-clause-value c =
    let n = c.args.sum in
    let m = c.args.multiple in
    let p = c.args.order in
    elim c.if-difference-eq1.branch [
      | then-difference-eq1 w ↦
          let e : c.if-difference-eq1.kept / 2 ^ 32 * 2 ^ 32 + m ≡ n + p * 2 ^ 32 = omega (arith, w.if-difference-eq1, w.kept-is, c.ranges.sum.fits, c.ranges.multiple.fits, c.requires.same_end, c.requires.sum, c.requires.multiple, c.requires.fits) in
          with_multiple p n (2 ^ 32) _ e
      | else-difference-eq1 w ↦
          let e : c.if-difference-eq1.kept / 2 ^ 32 * 2 ^ 32 + m ≡ n = omega (arith, w.if-difference-eq1, w.kept-is, c.ranges.sum.fits, c.ranges.multiple.fits, c.requires.same_end) in
          ap (λ z. z % p) e
    ]
