use Rattle.std.proofs.Common.{◌≡◌, ◌^◌}
use Rattle.p3_theory.specs.Rings.Powers.{power}
use Rattle.p3_helpers.proofs.coset.TwoAdicMultiplicativeCoset.contains.Given as goal

abbrev pub invariant-loop : goal.invariant-loop
invariant-loop g l =
    let o = g.F.PrimeCharacteristicRing.ops in
    record {
      shift_is : l.shift ≡ power o l.self.shift (2 ^ l.counter);
      element_is : l.element ≡ power o l.fn.element (2 ^ l.counter);
    }
