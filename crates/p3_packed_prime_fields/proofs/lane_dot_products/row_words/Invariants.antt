use Rattle.std.proofs.Common.{◌≡◌, ◌<◌, ◌≤◌, ℕ, [], length, get_or}
use Rattle.p3_packed_prime_fields.proofs.lane_dot_products.row_words.Given as goal

abbrev pub invariant-loop-i : goal.invariant-loop-i
invariant-loop-i g l =
    (length l.words ≡ 4)
    × ((x : _) (i k : ℕ) → i < l.i → k < g.row.N → get_or (get_or l.words i []) k 0 ≡ g.W.Form.number (get_or (get_or l.fn.rows i []) k x).word)
    × ((i k : ℕ) → l.i ≤ i → i < 4 → k < g.row.N → get_or (get_or l.words i []) k 0 ≡ 0)
