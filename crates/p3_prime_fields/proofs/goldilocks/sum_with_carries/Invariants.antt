use Rattle.std.proofs.Common.{◌≡◌, ◌≤◌, ◌+◌, ◌*◌, ◌^◌, drop}
use Rattle.p3_theory.specs.ResidueRings.SumsOfProducts.{sum_of_products}
use Rattle.p3_prime_fields.proofs.goldilocks.sum_with_carries.Given as goal

abbrev pub invariant-loop-i : goal.invariant-loop-i
invariant-loop-i g l =
    let word = g.V.LongWord.word in
    record {
      few : l.carries ≤ l.i;
      whole : l.low + 2 ^ 128 * l.carries + sum_of_products word (drop l.i l.u) (drop l.i l.v) ≡ sum_of_products word l.u l.v;
    }
