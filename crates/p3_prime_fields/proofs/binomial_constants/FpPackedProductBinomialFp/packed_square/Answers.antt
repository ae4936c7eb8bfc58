use Rattle.std.proofs.Common.{◌∙◌, ap, replicate}
use Rattle.p3_theory.specs.Rings.Ring.{ring_of}
use Rattle.p3_theory.specs.Polynomials.Polynomial.{quotient_mul, binomial}
use Rattle.p3_theory.specs.Products.ZeroedProducts.{product_is_there}
use Rattle.p3_prime_fields.specs.Elements.{of}
use Rattle.p3_prime_fields.proofs.binomial_constants.FpPackedProductBinomialFp.packed_square.Goals as goal

pub returns : goal.returns
returns g c =
    let o = g.P.PrimeCharacteristicRing.ops in
    let e = g.P.Algebra.embed in
    let a = c.args.a.now in
    c.copy_from_slice.ensures.after
    ∙ product_is_there (ring_of g.met.P.PrimeCharacteristicRing.ring) g.row.D (binomial o g.row.D (e c.new.result)) a a (replicate g.row.D c.zero-square.result) c.binomial_square.new.res
    (ap (replicate g.row.D) c.zero-square.ensures) c.binomial_square.ensures.becomes c.binomial_square.ensures.added
    ∙ ap (λ w. quotient_mul o g.row.D (binomial o g.row.D (e w)) a a) (c.new.ensures.value ∙ ap (λ n. of g.W.Form n) c.W.ensures)
