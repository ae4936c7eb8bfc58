use Rattle.std.proofs.Common.{◌≡◌, ◌∙◌, ap, ap₂, sym, arith}
use Rattle.std.specs.Prelude.{◌+◌, ◌-◌, get_or}
use Rattle.p3_theory.specs.Rings.Ring.{ring_of}
use Rattle.p3_theory.specs.Lists.ByIndex.{read_at}
use Rattle.p3_theory.specs.Polynomials.ConvolutionSums.{first_sum}
use Rattle.p3_theory.specs.Rings.Basics.{zero-add}
use Rattle.p3_extension_formulas.proofs.FirstSums.{first_sum-more}
use Rattle.p3_extension_formulas.proofs.power_table.image_of_rest.Goals as goal

pub loop-i-init : goal.loop-i-init
loop-i-init g c =
    let o = g.F.PrimeCharacteristicRing.ops in
    let m = g.met.F.PrimeCharacteristicRing in
    m.muls.exact _ _ _ c.mul-sum.ensures
    ∙ ap₂ o.mul (sym (read_at c.args.a.now 1 c.index-a-1.result o.zero (omega arith) c.index-a-1.is)) c.coefficient.ensures
    ∙ sym (zero-add (ring_of m.ring) _)

pub loop-i-preserved : goal.loop-i-preserved
loop-i-preserved g c =
    let o = g.F.PrimeCharacteristicRing.ops in
    let m = g.met.F.PrimeCharacteristicRing in
    first_sum-more o c.loop-i.i (λ i. o.mul (get_or c.args.a.now (1 + i) o.zero) (get_or (g.T.PowerTable.powers (1 + i)) c.args.k o.zero))
    (m.adds.exact _ _ _ c.add-sum.ensures) c.loop-i.invariant
    (m.muls.exact _ _ _ c.mul-product.ensures
    ∙ ap₂ o.mul (sym (read_at c.args.a.now (1 + c.loop-i.i) c.index-a-i.result o.zero (omega arith) c.index-a-i.is)) c.coefficient-in-loop-i.ensures)

pub returns : goal.returns
returns g c =
    let o = g.F.PrimeCharacteristicRing.ops in
    let all : c.loop-i.i ≡ g.row.D - 1 = omega arith in
    c.loop-i.invariant ∙ ap (λ n. first_sum o.zero o.add n (λ i. o.mul (get_or c.args.a.now (1 + i) o.zero) (get_or (g.T.PowerTable.powers (1 + i)) c.args.k o.zero))) all
