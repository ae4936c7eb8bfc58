use Rattle.std.proofs.Common.{◌≡◌, ◌<◌, ℕ, length, get_or}
use Rattle.p3_prime_fields.proofs.lane_words.words_of.Given as goal

abbrev pub invariant-loop-i : goal.invariant-loop-i
invariant-loop-i g l = (length l.words ≡ g.row.N) × ((d : ℕ) (x : _) (k : ℕ) → k < l.i → get_or l.words k d ≡ g.W.Form.number (get_or l.fn.values k x).word)
