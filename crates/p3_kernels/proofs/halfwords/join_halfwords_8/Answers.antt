use Rattle.std.proofs.Common.{◌^◌, ap, arith, refl, w16}
use Rattle.std.proofs.lemmas.Simd.{below_from_Fits}
use Rattle.p3_kernels.proofs.Recasts.{pairs}
use Rattle.p3_kernels.proofs.halfwords.join_halfwords_8.Goals as goal

pub returns-clause-words : goal.returns-clause-words
returns-clause-words c = pairs (2 ^ 16) (2 ^ 32) 32 8 (omega arith) refl c.args.halves (below_from_Fits w16 c.args.halves c.fits-halves.1) c.fits-halves.0 (ap (λ n. (2 ^ 16) ^ n) c.fits-halves.0)
