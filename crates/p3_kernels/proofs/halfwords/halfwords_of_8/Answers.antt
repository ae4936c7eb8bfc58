use Rattle.std.proofs.Common.{◌^◌, ap, arith, refl, w32}
use Rattle.std.proofs.lemmas.Simd.{below_from_Fits}
use Rattle.p3_kernels.proofs.Recasts.{first_parts, last_parts}
use Rattle.p3_kernels.proofs.halfwords.halfwords_of_8.Goals as goal

pub returns-clause-even : goal.returns-clause-even
returns-clause-even c = first_parts (2 ^ 16) (2 ^ 32) 32 8 (omega arith) refl 16 c.args.words (below_from_Fits w32 c.args.words c.fits-words.1) refl (ap (λ n. (2 ^ 32) ^ n) c.fits-words.0)

pub returns-clause-odd : goal.returns-clause-odd
returns-clause-odd c = last_parts (2 ^ 16) (2 ^ 32) 32 8 (omega arith) refl 16 c.args.words (below_from_Fits w32 c.args.words c.fits-words.1) c.fits-words.0 refl (ap (λ n. (2 ^ 32) ^ n) c.fits-words.0)
