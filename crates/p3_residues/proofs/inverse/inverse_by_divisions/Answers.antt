use Rattle.std.proofs.Common.{◌≡◌, ◌+◌, ◌*◌, ◌/◌, ◌%◌, sym, arith}
use Rattle.std.proofs.Math.Nat.{mod-add-div, mod-lt}
use Rattle.std.proofs.lemmas.Nat.Gcd.{IsGcd-from_mod, IsGcd-from_zero}
use Rattle.p3_residues.proofs.Euclid.{size-step, combinations-step, inverse_of_true, inverse_of_false, no_inverse}
use Rattle.p3_residues.proofs.inverse.inverse_by_divisions.Goals as goal

pub loop-rest-preserved : goal.loop-rest-preserved
loop-rest-preserved c =
    let l = c.loop-rest in
    let q = l.last / l.rest in
    let r = l.last % l.rest in
    let divided : l.last ≡ r + l.rest * q = sym (mod-add-div l.last l.rest) in
    record {
      divisors = λ g h. l.invariant.divisors g (IsGcd-from_mod l.last l.rest g h);
      size = size-step c.args.modulus c.args.value l.last l.rest l.last_coefficient l.coefficient q r divided l.invariant.size;
      combinations = combinations-step c.args.modulus c.args.value l.last l.rest l.last_coefficient l.coefficient q r divided l.negative l.invariant.combinations;
    }

pub returns-then-last-ne1 : goal.returns-then-last-ne1
returns-then-last-ne1 c =
    let common = c.loop-rest.invariant.divisors c.loop-rest.last (IsGcd-from_zero c.loop-rest.last c.loop-rest.rest (omega arith)) in
    no_inverse c.args.modulus c.args.value c.loop-rest.last common.0 common.1 c.if-last-ne1.true

pub returns-then-negative : goal.returns-then-negative
returns-then-negative c =
    let signs = rw (c.if-negative.true, c.if-last-ne1.false) at c.loop-rest.invariant.combinations in
    (mod-lt c.loop-rest.last_coefficient (omega arith), inverse_of_true c.args.modulus c.args.value c.loop-rest.last_coefficient c.requires signs.0)

pub returns-else-negative : goal.returns-else-negative
returns-else-negative c =
    let signs = rw (c.if-negative.false, c.if-last-ne1.false) at c.loop-rest.invariant.combinations in
    (mod-lt _ (omega arith), inverse_of_false c.args.modulus c.args.value c.loop-rest.last_coefficient c.requires signs.0)
