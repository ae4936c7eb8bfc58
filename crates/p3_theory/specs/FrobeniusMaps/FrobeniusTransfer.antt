-- A table proved on residues has the laws of a Frobenius map over every ring that they map to.
use Rattle.std.proofs.Common.{ℕ, suc, List, map, ap, ◌∙◌}
use Rattle.p3_theory.specs.Rings.Ring.{Ops, Ring, Hom}
use Rattle.p3_theory.specs.Polynomials.Polynomial.{IsMonic}
use Rattle.p3_theory.specs.FrobeniusMaps.FrobeniusTable.{TableProof, IsFrobeniusTable}
use Rattle.p3_theory.specs.FrobeniusMaps.FrobeniusTableLaws.{table_laws}
use Rattle.p3_theory.specs.Rings.Homomorphism as W

module _ {N A : Type 0} (O : Ops N) (R : Ring A) (h : N → A) (H : Hom O R.ops h) where
  pub monic_along : (D : ℕ) (f : List N) → IsMonic O D f → IsMonic R.ops D (map h f)
  monic_along D f m = record {
    degree = W.length-map h f ∙ m.degree;
    leading = ap (λ s. s D) (W.at-map O R.ops h H f) ∙ ap h m.leading ∙ H.one;
  }

  pub laws_along : (d : ℕ) (f phi : List N) (table dual : List (List N)) → IsMonic O (suc d) f → TableProof O (suc d) f phi table dual
      → IsFrobeniusTable R.ops (suc d) (map h f) (map h phi)
  laws_along d f phi table dual m T =
      table_laws R d (map h f) (monic_along (suc d) f m) (map h phi) (map (map h) table) (map (map h) dual) (W.table-map O R.ops h H (suc d) f phi table dual T)
