use Rattle.std.proofs.Common.{◌≡◌, ℕ, ◌+◌, ◌-◌, ◌%◌, ◌<◌, ◌≤◌, get_or}
use Rattle.p3_residues.proofs.mod_arithmetic.packed_mod_sub.Given as goal

abbrev pub invariant-eights : goal.invariant-eights
invariant-eights g l = (l.i ≤ g.row.WIDTH) × ((k : ℕ) → k < l.i → get_or l.res k 0 ≡ (get_or l.a k 0 + (l.p - get_or l.b k 0)) % l.p)

abbrev pub decreases-eights : goal.decreases-eights
decreases-eights g l = g.row.WIDTH - l.i

abbrev pub invariant-fours : goal.invariant-fours
invariant-fours g l = (l.i ≤ g.row.WIDTH) × ((k : ℕ) → k < l.i → get_or l.res k 0 ≡ (get_or l.a k 0 + (l.p - get_or l.b k 0)) % l.p)

abbrev pub decreases-fours : goal.decreases-fours
decreases-fours g l = g.row.WIDTH - l.i

abbrev pub invariant-rest : goal.invariant-rest
invariant-rest g l = (l.i ≤ g.row.WIDTH) × ((k : ℕ) → k < l.i → get_or l.res k 0 ≡ (get_or l.a k 0 + (l.p - get_or l.b k 0)) % l.p)

abbrev pub decreases-rest : goal.decreases-rest
decreases-rest g l = g.row.WIDTH - l.i
