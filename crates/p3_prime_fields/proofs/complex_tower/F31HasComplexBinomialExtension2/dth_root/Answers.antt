use Rattle.p3_theory.specs.ResidueRings.Residues.{residue_laws}
use Rattle.p3_theory.specs.Rings.Ring.{ring_of}
use Rattle.p3_prime_fields.specs.ComplexTower.{is_minus_one}
use Rattle.p3_prime_fields.specs.Elements.{is}
use Rattle.p3_prime_fields.proofs.complex_tower.F31HasComplexBinomialExtension2.dth_root.Goals as goal

pub returns : goal.returns
returns c =
    is_minus_one (ring_of (residue_laws (is _))) c.new_complex.result c.neg_one-real.result c.zero-imag.result c.new_complex.ensures c.neg_one-real.ensures
    c.zero-imag.ensures
