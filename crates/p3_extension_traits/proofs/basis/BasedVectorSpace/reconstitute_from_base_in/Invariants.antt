use Rattle.std.proofs.Common.{◌≡◌, ◌%◌, ◌++◌, length}
use Rattle.p3_theory.specs.Bases.Coordinates.{flattened}
use Rattle.p3_extension_traits.proofs.basis.BasedVectorSpace.reconstitute_from_base_in.Given as goal

abbrev pub invariant-loop-rest : goal.invariant-loop-rest
invariant-loop-rest g l =
    let v = g.Self.BasedVectorSpace in
    record {
      divided : length l.rest % v.DIMENSION ≡ 0;
      read : flattened v.coefficients l.values.items ++ l.rest ≡ l.fn.vec.items;
    }

abbrev pub decreases-loop-rest : goal.decreases-loop-rest
decreases-loop-rest g l = length l.rest
