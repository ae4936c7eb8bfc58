use Rattle.std.proofs.Common.{◌≡◌, take}
use Rattle.p3_theory.specs.Bases.Coordinates.{flattened}
use Rattle.p3_extension_traits.proofs.basis.BasedVectorSpace.flatten_to_base_in.Given as goal

abbrev pub invariant-loop-x : goal.invariant-loop-x
invariant-loop-x g l = l.flat.items ≡ flattened g.Self.BasedVectorSpace.coefficients (take l.x-index l.fn.vec.items)
