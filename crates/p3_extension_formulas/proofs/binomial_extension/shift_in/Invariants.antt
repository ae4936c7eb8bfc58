use Rattle.std.proofs.Common.{◌≡◌, ◌∷◌, length, get_or}
use Rattle.p3_theory.specs.Lists.TabulatedEntries.{UpdatedBelow}
use Rattle.p3_extension_formulas.proofs.binomial_extension.shift_in.Given as goal

abbrev pub invariant-loop-i : goal.invariant-loop-i
invariant-loop-i g l =
    let o = g.A.PrimeCharacteristicRing.ops in
    let all = l.fn.first ∷ l.fn.row in
    (length l.row ≡ length l.fn.row)
    × (l.carried ≡ get_or all l.i o.zero)
    × UpdatedBelow (λ k. get_or all k o.zero) o.zero l.fn.row l.row l.i
