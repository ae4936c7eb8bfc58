use Rattle.std.proofs.Common.{◌≡◌, ◌+◌, get_or}
use Rattle.p3_theory.specs.Polynomials.ConvolutionSums.{first_sum}
use Rattle.p3_extension_formulas.proofs.power_table.image_of_rest.Given as goal

abbrev pub invariant-loop-i : goal.invariant-loop-i
invariant-loop-i g l =
    let o = g.F.PrimeCharacteristicRing.ops in
    l.sum ≡ first_sum o.zero o.add l.i (λ i. o.mul (get_or l.fn.a (1 + i) o.zero) (get_or (g.T.PowerTable.powers (1 + i)) l.fn.k o.zero))
