use Rattle.std.proofs.Common.{◌≡◌, ◌<◌, ◌≤◌, ◌^◌, ◌%◌}
use Rattle.p3_theory.specs.Rings.Powers.{power}
use Rattle.p3_helpers.proofs.coset.TwoAdicMultiplicativeCoset.generator_exp.Given as goal

abbrev pub invariant-loop-rest : goal.invariant-loop-rest
invariant-loop-rest g l =
    let o = g.F.PrimeCharacteristicRing.ops in
    let generator = g.F.TwoAdicField.two_adic in
    record {
      power_is : o.mul l.gen_power (power o (generator l.i) l.rest) ≡ power o (generator l.self.log_size) (l.exp % 2 ^ l.self.log_size);
      digits : l.rest < 2 ^ l.i;
      within : l.i ≤ l.self.log_size;
    }

abbrev pub decreases-loop-rest : goal.decreases-loop-rest
decreases-loop-rest g l = l.rest
