use Rattle.std.proofs.Common.{◌≡◌, ◌+◌, ◌-◌, take, drop, map, arith, sym, subst}
use Rattle.p3_theory.specs.Rings.DotProduct.{dot}
use Rattle.p3_theory.specs.Rings.MixedDotProduct.{MakesWithRest, mixed-chunk}
use Rattle.p3_ring.proofs.linear_combination.add_mixed_dot_product.Goals as goal

pub returns : goal.returns
returns g c = λ r makes.
    let m = g.met.A.PrimeCharacteristicRing in
    let o = g.A.PrimeCharacteristicRing.ops in
    let e = g.A.Algebra.embed in
    let xs = c.args.values.now in
    let fs = c.args.coeffs.now in
    let start = c.args.start in
    let n = c.args.end - start in
    let p = c.mixed_dot_product.result in
    let all : start + n ≡ c.args.end = omega (arith, c.requires.order) in
    let made = subst (λ k. p ≡ dot o (take (k - start) (drop start xs)) (map e (take (k - start) (drop start fs)))) (sym all) c.mixed_dot_product.ensures in
    subst (λ k. MakesWithRest o e xs fs r k c.add.result) all
    (mixed-chunk m.ring e xs fs c.requires.lengths start n p c.args.sum c.add.result r made (m.adds.exact _ _ _ c.add.ensures) makes)
