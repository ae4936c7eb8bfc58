use Rattle.std.proofs.Common.{ℕ, ◌<◌, get_or}
use Rattle.p3_theory.specs.Bases.Subfields.{IsEmbedded}
use Rattle.p3_extension.proofs.subfield.HasSubfield.all_in_subfield.Given as goal

abbrev pub invariant-loop-i : goal.invariant-loop-i
invariant-loop-i g l = (k : ℕ) (d : _) → k < l.i → IsEmbedded g.Self.Algebra.embed (get_or l.values k d)
