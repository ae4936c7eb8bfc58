use Rattle.std.proofs.Common.{◌≡◌, ◌+◌, ◌*◌, ℕ}
use Rattle.std.specs.Int.{IsGcd}
use Rattle.p3_residues.proofs.Euclid.{AreCombinations}
use Rattle.p3_residues.proofs.inverse.inverse_by_divisions.Given as goal

abbrev pub invariant-loop-rest : goal.invariant-loop-rest
invariant-loop-rest l = record {
  divisors : (g : ℕ) → IsGcd l.last l.rest g → IsGcd l.modulus l.value g;
  size : l.last_coefficient * l.rest + l.coefficient * l.last ≡ l.modulus;
  combinations : AreCombinations l.modulus l.value l.last l.rest l.last_coefficient l.coefficient l.negative;
}

abbrev pub decreases-loop-rest : goal.decreases-loop-rest
decreases-loop-rest l = l.rest
