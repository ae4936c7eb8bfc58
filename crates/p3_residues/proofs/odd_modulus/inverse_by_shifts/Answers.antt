use Rattle.std.proofs.Common.{◌≡◌, ◌-◌, ◌*◌, ◌/◌, ◌^◌, ◌∙◌, not, ap, arith, subst, sym}
use Rattle.std.specs.Int.{◌∣◌, trailing_zeros, w64}
use Rattle.std.proofs.Math.Bool.{beq}
use Rattle.std.proofs.Math.Facts.{Fits-lt-pow}
use Rattle.std.proofs.lemmas.Bool.{lt-ltb, le-ltb}
use Rattle.std.proofs.lemmas.Nat.Gcd.{dvd_refl, dvd-zero}
use Rattle.p3_residues.proofs.Euclid.{no_inverse}
use Rattle.p3_residues.proofs.PowerQuotients.{trailing_zeros_dropped}
use Rattle.p3_residues.proofs.Shifts.{scaled_is, sum_small, lesser, greater, turned_is, kept_is, answer_of_true, answer_of_false}
use Rattle.p3_residues.proofs.odd_modulus.inverse_by_shifts.Goals.{then-less, else-less, then-loop-rest-test+else-last-gt1, else-loop-rest-test}
use Rattle.p3_residues.proofs.odd_modulus.inverse_by_shifts.Goals as goal

pub overflow_add-coefficient : goal.overflow_add-coefficient
overflow_add-coefficient c =
    let l = c.loop-rest in
    let n = c.args.modulus in
    let z = trailing_zeros w64 l.rest in
    let q = l.rest / 2 ^ z in
    let whole : l.rest ≡ 2 ^ z * q = trailing_zeros_dropped l.rest c.loop-rest-test.true (Fits-lt-pow l.auto.rest-fits) in
    let kept = scaled_is n c.args.value l.last l.rest l.last_coefficient l.coefficient l.shifts z q l.negative l.invariant c.loop-rest-test.true whole c.ranges.modulus.fits in
    let sum = sum_small n c.args.value l.last l.rest l.last_coefficient l.coefficient l.shifts z q l.negative l.invariant c.loop-rest-test.true whole in
    omega (arith, kept, sum, c.ranges.modulus.fits)

pub loop-rest-preserved : goal.loop-rest-preserved
loop-rest-preserved c =
    let l = c.loop-rest in
    let n = c.args.modulus in
    let z = trailing_zeros w64 l.rest in
    let q = l.rest / 2 ^ z in
    let whole : l.rest ≡ 2 ^ z * q = trailing_zeros_dropped l.rest c.loop-rest-test.true (Fits-lt-pow l.auto.rest-fits) in
    let kept = scaled_is n c.args.value l.last l.rest l.last_coefficient l.coefficient l.shifts z q l.negative l.invariant c.loop-rest-test.true whole c.ranges.modulus.fits in
    elim c.if-less.branch [
      | then-less w ↦
          let lo : c.min-last.result ≡ q = omega (arith, c.min-last.ensures, w.if-less.true) in
          let difference : c.abs_diff-rest.result ≡ l.last - q = omega (arith, c.abs_diff-rest.ensures, w.if-less.true) in
          let sign = ap (λ b. not (beq l.negative b)) (lt-ltb q l.last w.if-less.true) ∙ turned_is l.negative in
          rw (lo, difference, w.last_coefficient-is, kept, sign)
          (lesser n c.args.value l.last l.rest l.last_coefficient l.coefficient l.shifts z q l.negative l.invariant c.loop-rest-test.true whole w.if-less.true)
      | else-less w ↦
          let lo : c.min-last.result ≡ l.last = omega (arith, c.min-last.ensures, w.if-less.false) in
          let difference : c.abs_diff-rest.result ≡ q - l.last = omega (arith, c.abs_diff-rest.ensures, w.if-less.false) in
          let sign = ap (λ b. not (beq l.negative b)) (le-ltb q l.last w.if-less.false) ∙ kept_is l.negative in
          rw (lo, difference, w.last_coefficient-is, kept, sign)
          (greater n c.args.value l.last l.rest l.last_coefficient l.coefficient l.shifts z q l.negative l.invariant c.loop-rest-test.true whole w.if-less.false)
    ]

pub returns-then-last-ne1 : goal.returns-then-last-ne1
returns-then-last-ne1 c =
    let l = c.loop-rest in
    let none : l.rest ≡ 0 =
    elim c.loop-rest-test.branch [
      | else-loop-rest-test w ↦ omega (arith, w.loop-rest-test.false)
      | then-loop-rest-test+else-last-gt1 w ↦ absurd (c.if-last-ne1.true (omega (arith, l.invariant.positive, w.if-last-gt1.false)))
    ] in
    let divides : l.last ∣ l.rest = subst (λ x. l.last ∣ x) (sym none) (dvd-zero l.last) in
    let common = l.invariant.divisors l.last (dvd_refl l.last) divides in
    no_inverse c.args.modulus c.args.value l.last common.0 common.1 c.if-last-ne1.true

pub returns-then-negative : goal.returns-then-negative
returns-then-negative c =
    let l = c.loop-rest in
    let a = c.divided_by_power-answer in
    let signs = rw (c.if-negative.true, c.if-last-ne1.false) at l.invariant.combinations in
    answer_of_true c.args.modulus c.args.value l.last_coefficient l.shifts a.result c.requires.above c.requires.odd a.ensures.below a.ensures.value signs.0

pub returns-else-negative : goal.returns-else-negative
returns-else-negative c =
    let l = c.loop-rest in
    let a = c.divided_by_power-answer in
    let signs = rw (c.if-negative.false, c.if-last-ne1.false) at l.invariant.combinations in
    answer_of_false c.args.modulus c.args.value l.last_coefficient l.shifts a.result c.requires.above c.requires.odd a.ensures.below a.ensures.value signs.0
