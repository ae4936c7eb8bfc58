use Rattle.std.proofs.Common.{◌≡◌, ◌<◌, ℕ, length, get_or}
use Rattle.p3_prime_fields.proofs.lane_words.values_of.Given as goal

abbrev pub invariant-loop-i : goal.invariant-loop-i
invariant-loop-i g l = (length l.values ≡ g.row.N) × ((d : ℕ) (x : _) (k : ℕ) → k < l.i → g.W.Form.number (get_or l.values k x).word ≡ get_or l.fn.words k d)
