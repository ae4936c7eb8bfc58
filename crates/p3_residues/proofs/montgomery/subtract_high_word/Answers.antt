use Rattle.std.proofs.Common.{◌≡◌, ◌+◌, ◌*◌, ◌/◌, ◌%◌, ◌^◌, ◌≤◌, inl, inr, arith, ap, sym, subst}
use Rattle.std.proofs.lemmas.Bool.{cases_lt}
use Rattle.std.specs.Bool.{FalseIff}
use Rattle.p3_residues.proofs.Reductions.{with_multiple}
use Rattle.p3_residues.proofs.montgomery.subtract_high_word.Goals as goal

pub returns-then-borrowed-clause-value : goal.returns-then-borrowed-clause-value
returns-then-borrowed-clause-value c =
    let n = c.args.number in
    let m = c.args.multiple in
    let p = c.args.order in
    let d = c.overflowing_sub-difference in
    let r = (d.result.0 + p) % 2 ^ 32 in
    let over = subst (λ b. FalseIff b (m / 2 ^ 32 ≤ c.min-less.result)) c.if-borrowed.true d.ensures.overflow in
    elim (cases_lt (n / 2 ^ 32) p) [
      | inl low ↦
          let e : r * 2 ^ 32 + m ≡ n + p * 2 ^ 32 = omega (arith, low, over, c.min-less.ensures, d.ensures.value, d.type_inv, c.requires.same_end, c.requires.multiple, c.requires.fits) in
          with_multiple p n (2 ^ 32) _ e
      | inr high ↦
          let e : r * 2 ^ 32 + m ≡ n = omega (arith, high, over, c.min-less.ensures, d.ensures.value, d.type_inv, c.requires.same_end, c.requires.multiple, c.requires.fits) in
          ap (λ z. z % p) e
    ]

pub returns-else-borrowed-clause-value : goal.returns-else-borrowed-clause-value
returns-else-borrowed-clause-value c =
    let n = c.args.number in
    let m = c.args.multiple in
    let p = c.args.order in
    let d = c.overflowing_sub-difference in
    let r = d.result.0 in
    let fits = subst (λ b. FalseIff b (m / 2 ^ 32 ≤ c.min-less.result)) c.if-borrowed.false d.ensures.overflow in
    elim (cases_lt (n / 2 ^ 32) p) [
      | inl low ↦
          let e : r * 2 ^ 32 + m ≡ n = omega (arith, low, fits, c.min-less.ensures, d.ensures.value, d.type_inv, c.requires.same_end, c.requires.fits) in
          ap (λ z. z % p) e
      | inr high ↦
          let e : n ≡ r * 2 ^ 32 + m + p * 2 ^ 32 = omega (arith, high, fits, c.min-less.ensures, d.ensures.value, d.type_inv, c.requires.same_end, c.requires.fits, c.requires.number) in
          sym (with_multiple p (r * 2 ^ 32 + m) (2 ^ 32) _ e)
    ]
