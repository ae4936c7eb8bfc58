use Rattle.p3_theory.specs.Rings.Ring.{ring_of}
use Rattle.p3_theory.specs.Polynomials.Polynomial.{binomial}
use Rattle.p3_theory.specs.Products.ZeroedProducts.{product_is_there}
use Rattle.p3_extension_formulas.proofs.binomial_extension.ring_square.Goals as goal

pub returns : goal.returns
returns g c =
    let o = g.R.PrimeCharacteristicRing.ops in
    product_is_there (ring_of g.met.R.PrimeCharacteristicRing.ring) g.row.D (binomial o g.row.D c.args.w) c.args.a.now c.args.a.now c.args.res.now c.binomial_square.new.res
    c.requires.zeroed c.binomial_square.ensures.becomes c.binomial_square.ensures.added
