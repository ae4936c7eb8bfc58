use Rattle.std.proofs.Common.{◌≡◌, length}
use Rattle.p3_theory.specs.Lists.TabulatedEntries.{UpdatedBelow}
use Rattle.p3_packing_traits.specs.CoefficientSums.{entry_after}
use Rattle.p3_packing_traits.proofs.columnwise.add_scaled_coefficients.Given as goal

abbrev pub invariant-loop-i : goal.invariant-loop-i
invariant-loop-i g l =
    let o = g.P.PrimeCharacteristicRing.ops in
    record {
      whole : length l.sums ≡ 8;
      updated : UpdatedBelow (entry_after o l.d l.fn.acc l.coeffs l.scale) o.zero l.fn.acc l.sums l.i;
    }
