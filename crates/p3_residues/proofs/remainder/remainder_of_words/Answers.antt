use Rattle.std.proofs.Common.{◌∙◌, arith}
use Rattle.p3_residues.proofs.Remainders.{words_reduced, words_below}
use Rattle.p3_residues.proofs.remainder.remainder_of_words.Goals as goal

pub remainder_by_reciprocal-requires-clause-below : goal.remainder_by_reciprocal-requires-clause-below
remainder_by_reciprocal-requires-clause-below c = words_below c.args.order c.args.low c.args.high (omega (arith, c.requires.above)) c.requires.fits

pub returns : goal.returns
returns c = c.remainder_by_reciprocal.ensures ∙ words_reduced c.args.order c.args.low c.args.high
