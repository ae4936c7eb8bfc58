use Rattle.std.proofs.Common.{◌^◌, ap, arith, refl, w32}
use Rattle.std.proofs.lemmas.Simd.{below_from_Fits}
use Rattle.p3_kernels.proofs.Recasts.{pairs}
use Rattle.p3_kernels.proofs.word_pairs.pairs_of_4.Goals as goal

pub returns-clause-pairs : goal.returns-clause-pairs
returns-clause-pairs c = pairs (2 ^ 32) (2 ^ 64) 16 2 (omega arith) refl c.args.words (below_from_Fits w32 c.args.words c.fits-words.1) c.fits-words.0 (ap (λ n. (2 ^ 32) ^ n) c.fits-words.0)
