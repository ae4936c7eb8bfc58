use Rattle.std.proofs.Common.{◌≡◌, ◌<◌, ℕ, length, get_or, map}
use Rattle.p3_vectorized.proofs.vectorized_ext.VectorizedExt+F+EF+PE+N.from_vectorized_basis_coefficients.Given as goal

abbrev pub invariant-loop-i : goal.invariant-loop-i
invariant-loop-i g l =
    let z = g.P.PrimeCharacteristicRing.ops.zero in
    (length l.items ≡ g.row.N)
    × ((d : g.row.PE.Denot) (k : ℕ) → k < l.i → g.PE.BasedVectorSpace.coefficients (get_or l.items k d) ≡ map (λ v. get_or v.items k z) l.coefficients)
