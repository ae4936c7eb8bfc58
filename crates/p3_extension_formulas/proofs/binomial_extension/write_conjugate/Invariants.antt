use Rattle.std.proofs.Common.{length}
use Rattle.p3_theory.specs.Polynomials.Polynomial.{quotient_neg}
use Rattle.p3_theory.specs.Inverses.Interleaving.{InTurnBelow}
use Rattle.p3_extension_formulas.proofs.binomial_extension.write_conjugate.Given as goal

abbrev pub invariant-loop-i : goal.invariant-loop-i
invariant-loop-i g l =
    let o = g.F.PrimeCharacteristicRing.ops in
    InTurnBelow l.fn.even (quotient_neg o (length l.fn.even) l.fn.odd) o.zero l.res l.i
