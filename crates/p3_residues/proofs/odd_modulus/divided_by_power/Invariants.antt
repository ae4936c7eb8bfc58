use Rattle.std.proofs.Common.{◌≡◌, ◌≤◌, ◌*◌, ◌%◌, ◌^◌, ◌-◌, ℕ}
use Rattle.p3_residues.proofs.odd_modulus.divided_by_power.Given as goal

abbrev pub invariant-loop-left : goal.invariant-loop-left
invariant-loop-left l = record {
  small : l.answer ≤ l.modulus;
  value : (r : ℕ) → (r * 2 ^ l.left) % l.modulus ≡ l.answer % l.modulus → (r * 2 ^ l.exponent) % l.modulus ≡ l.residue % l.modulus;
}

abbrev pub decreases-loop-left : goal.decreases-loop-left
decreases-loop-left l = l.left - 32
