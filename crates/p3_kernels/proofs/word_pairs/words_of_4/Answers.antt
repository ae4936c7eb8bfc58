use Rattle.std.proofs.Common.{◌^◌, ap, arith, refl, w64}
use Rattle.std.proofs.lemmas.Simd.{below_from_Fits}
use Rattle.p3_kernels.proofs.Recasts.{first_parts, last_parts}
use Rattle.p3_kernels.proofs.word_pairs.words_of_4.Goals as goal

pub returns-clause-even : goal.returns-clause-even
returns-clause-even c = first_parts (2 ^ 32) (2 ^ 64) 16 2 (omega arith) refl 4 c.args.pairs (below_from_Fits w64 c.args.pairs c.fits-pairs.1) refl (ap (λ n. (2 ^ 64) ^ n) c.fits-pairs.0)

pub returns-clause-odd : goal.returns-clause-odd
returns-clause-odd c = last_parts (2 ^ 32) (2 ^ 64) 16 2 (omega arith) refl 4 c.args.pairs (below_from_Fits w64 c.args.pairs c.fits-pairs.1) c.fits-pairs.0 refl (ap (λ n. (2 ^ 64) ^ n) c.fits-pairs.0)
