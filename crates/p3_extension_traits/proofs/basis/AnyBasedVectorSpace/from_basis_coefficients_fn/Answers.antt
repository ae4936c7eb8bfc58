use Rattle.p3_theory.specs.Lists.IndexCalls.{callable-one, answers-one}
use Rattle.p3_extension_traits.proofs.basis.AnyBasedVectorSpace.from_basis_coefficients_fn.Goals as goal

pub f-requires : goal.f-requires
f-requires g c = callable-one g.G.FnMut c.args.f c.requires

pub returns : goal.returns
returns g c = answers-one g.G.FnMut c.args.f _ c.f.result c.f.ensures
