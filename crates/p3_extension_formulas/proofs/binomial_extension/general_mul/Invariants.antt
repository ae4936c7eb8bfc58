use Rattle.std.proofs.Common.{◌≡◌, ◌<◌, ◌≤◌, ℕ, length, get_or}
use Rattle.p3_theory.specs.Products.ProductCoefficients.{product_coefficient}
use Rattle.p3_extension_formulas.proofs.ProductRows.{IsRow}
use Rattle.p3_extension_formulas.proofs.binomial_extension.general_mul.Given as goal

abbrev pub invariant-loop-k : goal.invariant-loop-k
invariant-loop-k g l =
    let o = g.A.PrimeCharacteristicRing.ops in
    (length l.res ≡ g.row.D)
    × ((k : ℕ) → k < l.k → get_or l.res k o.zero ≡ o.add (get_or l.fn.res k o.zero) (product_coefficient o g.row.D (g.A.Algebra.embed l.fn.w) l.fn.a l.fn.b k))
    × ((k : ℕ) → l.k ≤ k → get_or l.res k o.zero ≡ get_or l.fn.res k o.zero)
    × IsRow o g.row.D (g.A.Algebra.embed l.fn.w) l.fn.b l.k l.row
