use Rattle.std.proofs.Common.{◌≡◌, map}
use Rattle.p3_packing_traits.specs.CoefficientSums.{coefficient_sums}
use Rattle.p3_packing_traits.proofs.columnwise.coeffwise_dot_product.Given as goal

abbrev pub invariant-loop-coeffs : goal.invariant-loop-coeffs
invariant-loop-coeffs g l =
    (goal.iterator-loop-coeffs g).can_next l.coeffs-iterator × (goal.iterator-loop-coeffs g).is_finite l.coeffs-iterator
    × (l.acc ≡ coefficient_sums g.P.PrimeCharacteristicRing.ops l.fn.d (map (λ x. (g.R.AsSlice.items x.0, x.1)) l.yielded))
