use Rattle.std.proofs.Common.{◌≡◌, ◌∙◌, ap, ap₂, sym, arith}
use Rattle.std.specs.Prelude.{◌+◌, ◌-◌, get_or}
use Rattle.p3_theory.specs.Rings.Ring.{ring_of}
use Rattle.p3_theory.specs.Lists.ByIndex.{read_at}
use Rattle.p3_theory.specs.Polynomials.ConvolutionSums.{first_sum}
use Rattle.p3_theory.specs.Rings.Basics.{zero-add}
use Rattle.p3_extension_formulas.proofs.FirstSums.{first_sum-more}
use Rattle.p3_extension_formulas.proofs.binomial_extension.products_at.Goals as goal

pub loop-i-init : goal.loop-i-init
loop-i-init g c =
    let o = g.A.PrimeCharacteristicRing.ops in
    let m = g.met.A.PrimeCharacteristicRing in
    let a = c.args.a.now in
    let b = c.args.b.now in
    let skip : c.args.skip ≡ c.args.skip + 0 = omega arith in
    let top : c.args.top ≡ c.args.top - 0 = omega arith in
    m.muls.exact _ _ _ c.mul-sum.ensures
    ∙ ap₂ o.mul (sym (read_at a c.args.skip c.index-a-skip.result o.zero (omega arith) c.index-a-skip.is) ∙ ap (λ j. get_or a j o.zero) skip)
    (sym (read_at b c.args.top c.index-b-top.result o.zero (omega arith) c.index-b-top.is) ∙ ap (λ j. get_or b j o.zero) top)
    ∙ sym (zero-add (ring_of m.ring) _)

pub loop-i-preserved : goal.loop-i-preserved
loop-i-preserved g c =
    let o = g.A.PrimeCharacteristicRing.ops in
    let m = g.met.A.PrimeCharacteristicRing in
    let x = c.index-a-skip-in-loop-i in
    let y = c.index-b-top-in-loop-i in
    first_sum-more o c.loop-i.i (λ i. o.mul (get_or c.args.a.now (c.args.skip + i) o.zero) (get_or c.args.b.now (c.args.top - i) o.zero))
    (m.adds.exact _ _ _ c.add-sum.ensures) c.loop-i.invariant
    (m.muls.exact _ _ _ c.mul-product.ensures
    ∙ sym (ap₂ o.mul (read_at c.args.a.now (c.args.skip + c.loop-i.i) x.result o.zero (omega arith) x.is) (read_at c.args.b.now (c.args.top - c.loop-i.i) y.result o.zero (omega arith) y.is)))

pub returns : goal.returns
returns g c =
    let o = g.A.PrimeCharacteristicRing.ops in
    let all : c.loop-i.i ≡ c.args.count = omega arith in
    c.loop-i.invariant ∙ ap (λ n. first_sum o.zero o.add n (λ i. o.mul (get_or c.args.a.now (c.args.skip + i) o.zero) (get_or c.args.b.now (c.args.top - i) o.zero))) all
