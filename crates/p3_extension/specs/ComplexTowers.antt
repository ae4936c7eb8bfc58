-- Minus one as a root of unity of order two among complex values.
use Rattle.std.proofs.Common.{◌≡◌, lit≤}
use Rattle.p3_theory.specs.Rings.Ring.{Ring, RingLaws, Invertible, ring_of}
use Rattle.p3_theory.specs.Polynomials.Polynomial.{IsMonic, binomial}
use Rattle.p3_theory.specs.Rings.Powers.{power}
use Rattle.p3_theory.specs.Rings.Multiples.{two}
use Rattle.p3_theory.specs.FrobeniusMaps.BinomialFrobenius.{binomial_is_monic}
use Rattle.p3_theory.specs.Products.ComplexExtensions.{half-along, minus_one_square, minus_one_apart}
use Rattle.p3_extension.specs.Values.{ext_laws}
use Rattle.p3_extension.specs.Bases.{embedding}
use Rattle.p3_extension.specs.ComplexValues.{complex_ops, ArePowersApart}

monic : {A : Type 0} (R : Ring A) → IsMonic R.ops 2 (binomial R.ops 2 (R.neg R.one))
monic R = binomial_is_monic R.ops 2 (lit≤ tt) (R.neg R.one)

module _ {F S A : Type 0} (R : Ring A) where
  -- complex values are a commutative ring
  pub complex_laws : RingLaws (complex_ops {F = F} {S = S} R.ops)
  complex_laws = ext_laws R 2 (lit≤ tt) (binomial R.ops 2 (R.neg R.one)) (monic R)

  pub complex_root_power : (let o = complex_ops {F = F} {S = S} R.ops in power o (o.neg o.one) 2 ≡ o.one)
  complex_root_power = minus_one_square (ring_of complex_laws)

  -- minus one less one has an inverse where two has one in the base
  pub complex_root_apart : Invertible R.ops (two R.ops) → (let o = complex_ops {F = F} {S = S} R.ops in ArePowersApart o 2 (o.neg o.one))
  complex_root_apart t =
      minus_one_apart (ring_of complex_laws) (half-along (embedding {F = F} {S = S} R 2 (lit≤ tt) (binomial R.ops 2 (R.neg R.one)) (monic R)) t)
