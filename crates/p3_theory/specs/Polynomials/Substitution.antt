-- The substitution of a root of f for X in the quotient by f keeps sums and products.
use Rattle.std.proofs.Common.{◌≡◌, ◌≤◌, ◌+◌, ℕ, zero, suc, List, [], ◌∷◌, length, refl, sym, ap, ◌∙◌, ap₂}
use mathlib.Core.Path.{fun_ext}
use native.Mathlib.Omega.{arith}
use Rattle.p3_theory.specs.Rings.Ring.{Ring, Hom}
use Rattle.p3_theory.specs.Polynomials.Polynomial.{at, convolve, IsMonic, remainder, quotient_add, quotient_mul, embed}
use Rattle.p3_theory.specs.Rings.Powers.{eval}
use Rattle.p3_theory.specs.Rings.Basics as Basics
use Rattle.p3_theory.specs.Polynomials.Sequences as Sequences
use Rattle.p3_theory.specs.Polynomials.Sequences.{sequences, add_sequences, scale, tail, zero_sequence}
use Rattle.p3_theory.specs.Polynomials.Coefficients as F
use Rattle.p3_theory.specs.Polynomials.Coefficients.{Ends}
use Rattle.p3_theory.specs.Polynomials.Congruence as Q
use Rattle.p3_theory.specs.Polynomials.Congruence.{Cong}
use Rattle.p3_theory.specs.Polynomials.QuotientRing as X
use Rattle.p3_theory.specs.Polynomials.QuotientRing.{Ext, extension}
use Rattle.p3_theory.specs.Polynomials.Horner as V
use Rattle.p3_theory.specs.Polynomials.Horner.{horner, twist}

module _ {A : Type 0} (R : Ring A) (d : ℕ) (f : List A) (m : IsMonic R.ops (suc d) f) where
  open R use {zero as 𝟎, one as 𝟏, add as ◌⊕◌, mul as ◌⊗◌, neg}

  infixl 60 ◌⊕◌
  infixl 70 ◌⊗◌
  -- the quotient ring
  abbrev pub E : Ring (Ext R d f m)
  E = extension R d f m

  -- a constant as a value of the quotient ring
  abbrev pub emb : A → Ext R d f m
  emb x = (embed R.ops (suc d) x, X.length-embed R d f m x)

  pub hom : Hom R.ops E.ops emb
  hom = Sequences.ring_hom R E emb refl refl (λ x y. X.Ext-path R d f m _ _ (X.embed_add R d f m x y)) (λ x y. X.Ext-path R d f m _ _ (X.embed_mul R d f m x y))

  -- the value at phi of the polynomial whose coefficients are those of a
  abbrev pub sigma_of : Ext R d f m → Ext R d f m → Ext R d f m
  sigma_of phi a = eval R.ops E.ops emb phi a.0

  pub sigma-horner : (phi a : Ext R d f m) → sigma_of phi a ≡ horner R E emb hom phi (suc d) (at R.ops a.0)
  sigma-horner phi a = V.sum-horner R E emb hom phi (length a.0) (at R.ops a.0) ∙ ap (λ n. horner R E emb hom phi n (at R.ops a.0)) a.1

  pub sigma_mul : (phi : Ext R d f m) → eval R.ops E.ops emb phi f ≡ E.zero → (a b : Ext R d f m)
      → sigma_of phi (E.mul a b) ≡ E.mul (sigma_of phi a) (sigma_of phi b)
  sigma_mul phi root a b = sigma-horner phi (E.mul a b)
      ∙ sym (H-more (suc d) N (at R.ops (E.mul a b).0) (omega arith) (Q.small R d f m _ (E.mul a b).1))
      ∙ sym (V.horner-cong R E emb hom phi f (sym (V.sum-horner R E emb hom phi (length f) (at R.ops f)) ∙ root) N _ _
      (F.convolve-ends R a.0 (suc d) (at R.ops b.0) (Q.small R d f m b.0 b.1)) (λ k le. Q.small R d f m _ (E.mul a b).1 k (omega arith))
      (X.mul~ R d f m a.0 b.0))
      ∙ V.horner-mul R E emb hom phi a.0 (suc d) (at R.ops b.0) (Q.small R d f m b.0 b.1)
      ∙ ap₂ E.mul (sym (V.sum-horner R E emb hom phi (length a.0) (at R.ops a.0))) (sym (sigma-horner phi b))
    where
      N : ℕ
      N = length a.0 + suc d

      H-more : (n N : ℕ) (s : ℕ → A) → n ≤ N → Ends R n s → horner R E emb hom phi N s ≡ horner R E emb hom phi n s
      H-more = V.horner-more R E emb hom phi

  -- X itself
  abbrev pub var : Ext R d f m
  var = (remainder R.ops (suc d) f (𝟎 ∷ 𝟏 ∷ []), Q.length-remainder R d f m (𝟎 ∷ 𝟏 ∷ []))

  shift : (x : A) (t : ℕ → A) (c : List A) → t ≡ at R.ops c
      → add_sequences R (at R.ops (x ∷ [])) (convolve R.ops (at R.ops (𝟎 ∷ 𝟏 ∷ [])) t) ≡ at R.ops (x ∷ c)
  shift x t c e = fun_ext go
    where
      go : (k : ℕ) → at R.ops (x ∷ []) k ⊕ convolve R.ops (at R.ops (𝟎 ∷ 𝟏 ∷ [])) t k ≡ at R.ops (x ∷ c) k
      go zero = ap (λ w. x ⊕ w) (Basics.zero-mul R (t zero)) ∙ R.add_zero x
      go (suc k) = Basics.zero-add R _ ∙ ap₂ (λ y z. y ⊕ z) (Basics.zero-mul R (t (suc k))) (X.const-scale R d f m 𝟏 t k ∙ Basics.one-mul R (t k))
          ∙ Basics.zero-add R (t k) ∙ ap (λ s. s k) e

  -- a list at X is its remainder
  pub at_var : (c : List A) → (horner R E emb hom var (length c) (at R.ops c)).0 ≡ remainder R.ops (suc d) f c
  at_var [] = refl
  at_var (x ∷ c) = ap (λ r. quotient_add R.ops (suc d) (embed R.ops (suc d) x) (quotient_mul R.ops (suc d) f var.0 r)) (at_var c)
      ∙ X.equal R d f m _ _ (X.length-add R d f m (embed R.ops (suc d) x) (quotient_mul R.ops (suc d) f var.0 r)) (Q.length-remainder R d f m (x ∷ c))
      (X.chain R d f m
      (X.same R d f m (X.at-add R d f m (embed R.ops (suc d) x) (quotient_mul R.ops (suc d) f var.0 r) (X.length-embed R d f m x) (X.length-mul R d f m var.0 r)
      ∙ ap (λ s. add_sequences R s (at R.ops (quotient_mul R.ops (suc d) f var.0 r))) (X.at-embed R d f m x)))
      (X.chain R d f m
      (X.plus R d f m (at R.ops (x ∷ [])) (at R.ops (x ∷ [])) _ _ (X.same R d f m refl)
      (X.flip R d f m (X.chain R d f m
      (X.chain R d f m (X.times2 R d f m (𝟎 ∷ 𝟏 ∷ []) (Q.remainder-cong R d f m c))
      (X.times R d f m _ _ r (Q.remainder-cong R d f m (𝟎 ∷ 𝟏 ∷ []))))
      (X.mul~ R d f m var.0 r))))
      (X.chain R d f m (X.same R d f m (shift x (at R.ops c) c refl)) (Q.remainder-cong R d f m (x ∷ c)))))
    where
      r : List A
      r = remainder R.ops (suc d) f c

  -- a list of length D is its own remainder, and f leaves zero
  pub remainder-small : (c : List A) → length c ≡ suc d → remainder R.ops (suc d) f c ≡ c
  remainder-small c l = X.equal R d f m _ _ (Q.length-remainder R d f m c) l (X.flip R d f m (Q.remainder-cong R d f m c))

  pub remainder-modulus : remainder R.ops (suc d) f f ≡ embed R.ops (suc d) 𝟎
  remainder-modulus = X.equal R d f m _ _ (Q.length-remainder R d f m f) (X.length-embed R d f m 𝟎)
      (X.chain R d f m (X.flip R d f m (Q.remainder-cong R d f m f)) (record {
        by = 𝟏 ∷ [];
        is = fun_ext go
            ∙ ap (add_sequences R (convolve R.ops (at R.ops (𝟏 ∷ [])) (at R.ops f))) (sym (X.at-embed R d f m 𝟎 ∙ X.zeros R d f m));
      }))
    where
      go : (k : ℕ) → at R.ops f k ≡ convolve R.ops (at R.ops (𝟏 ∷ [])) (at R.ops f) k ⊕ 𝟎
      go k = sym (R.add_zero _ ∙ X.const-scale R d f m 𝟏 (at R.ops f) k ∙ Basics.one-mul R _)

  pub sigma_add : (phi a b : Ext R d f m) → sigma_of phi (E.add a b) ≡ E.add (sigma_of phi a) (sigma_of phi b)
  sigma_add phi a b = sigma-horner phi (E.add a b)
      ∙ ap (horner R E emb hom phi (suc d)) (X.at-add R d f m a.0 b.0 a.1 b.1)
      ∙ V.horner-add R E emb hom phi (suc d) (at R.ops a.0) (at R.ops b.0)
      ∙ ap₂ E.add (sym (sigma-horner phi a)) (sym (sigma-horner phi b))
