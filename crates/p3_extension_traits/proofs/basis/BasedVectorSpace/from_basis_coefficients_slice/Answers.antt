use Rattle.std.proofs.lemmas.Iterator.{YieldsList-from_slice}
use Rattle.std.proofs.lemmas.Iterator.Consumers.{YieldsList-from_copied}
use Rattle.p3_extension_traits.proofs.basis.BasedVectorSpace.from_basis_coefficients_slice.Goals as goal

pub returns : goal.returns
returns g c = c.from_basis_coefficients_iter.ensures.all c.args.slice.now (YieldsList-from_copied (YieldsList-from_slice c.args.slice.now cc))
