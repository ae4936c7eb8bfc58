use Rattle.std.proofs.Common.{◌≡◌, ◌-◌, length, get_or, reverse, arith, ap, sym, ◌∙◌}
use Rattle.std.proofs.lemmas.List.{get_or_default, get_or-reverse, length-set}
use Rattle.p3_theory.specs.Lists.TabulatedEntries.{holds-more, holds-all}
use Rattle.p3_extension_formulas.proofs.binomial_extension.write_reversed_scaled.Goals as goal

pub loop-i-preserved : goal.loop-i-preserved
loop-i-preserved g c =
    let o = g.A.PrimeCharacteristicRing.ops in
    let b = c.args.b.now in
    let i = c.loop-i.i in
    let v = c.loop-i.invariant in
    let index : length c.loop-i.res - 1 - i ≡ length b - 1 - i = ap (λ n. n - 1 - i) v.0 in
    let read = c.index-b-res.is ∙ get_or_default b _ c.index-b-res.result o.zero (omega (arith, v.0, c.loop-i-test.true)) ∙ ap (λ j. get_or b j o.zero) index ∙ sym (get_or-reverse b i o.zero (omega arith)) in (
      length-set c.loop-i.res i c.mul-product.result ∙ v.0,
      holds-more (λ k. o.mul (get_or (reverse b) k o.zero) (g.A.Algebra.embed c.args.w)) o.zero c.loop-i.res i c.mul-product.result (omega arith) v.1
          (g.met.A.Algebra.mixed_muls.exact _ _ _ c.mul-product.ensures ∙ ap (λ z. o.mul z (g.A.Algebra.embed c.args.w)) read),
    )

pub returns : goal.returns
returns g c =
    let o = g.A.PrimeCharacteristicRing.ops in
    holds-all (λ k. o.mul (get_or (reverse c.args.b.now) k o.zero) (g.A.Algebra.embed c.args.w)) o.zero c.loop-i.res (length c.args.b.now)
    c.loop-i.invariant.0 (λ k w. c.loop-i.invariant.1 k (omega arith))
