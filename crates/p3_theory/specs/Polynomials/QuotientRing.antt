-- The lists of length D are a commutative ring, and the embedding keeps zero, one, sums and products.
use Rattle.std.proofs.Common.{◌≡◌, ◌≤◌, ℕ, zero, suc, List, [], ◌∷◌, length, refl, sym, ap, ◌∙◌, ap₂}
use mathlib.Core.Path.{fun_ext}
use native.Mathlib.Omega.{arith}
use mathlib.Core.HLevel.{Σ_prop_path}
use Rattle.std.proofs.Math.Nat.{ℕ_set}
use Rattle.p3_theory.specs.Rings.Ring.{Ring}
use Rattle.p3_theory.specs.Polynomials.Polynomial.{at, convolve, convolution, IsMonic, quotient_add, quotient_neg, quotient_mul, embed}
use Rattle.p3_theory.specs.Rings.Basics as Basics
use Rattle.p3_theory.specs.Polynomials.Sequences as Sequences
use Rattle.p3_theory.specs.Polynomials.Sequences.{sequences, add_sequences, scale, tail, zero_sequence, one_sequence}
use Rattle.p3_theory.specs.Polynomials.Coefficients as F
use Rattle.p3_theory.specs.Polynomials.Coefficients.{Ends}
use Rattle.p3_theory.specs.Polynomials.Congruence as Q
use Rattle.p3_theory.specs.Polynomials.Congruence.{Cong, cong_trans, cong_sym, cong_mul, cong_add}

module _ {A : Type 0} (R : Ring A) (d : ℕ) (f : List A) (m : IsMonic R.ops (suc d) f) where
  open R use {zero as 𝟎, one as 𝟏, add as ◌⊕◌, mul as ◌⊗◌, neg}

  infixl 60 ◌⊕◌
  infixl 70 ◌⊗◌
  abbrev S : Ring (ℕ → A)
  S = sequences R

  infix 20 ◌~◌
  -- congruent modulo the polynomial
  abbrev pub ◌~◌ : (ℕ → A) → (ℕ → A) → Type 0
  s ~ t = Cong R (at R.ops f) s t

  abbrev D : ℕ
  D = suc d

  infixr 30 ◌⨟◌
  ◌⨟◌ : {s t u : ℕ → A} → s ~ t → t ~ u → s ~ u
  ◌⨟◌ {s = s} {t = t} {u = u} p q = cong_trans R (at R.ops f) s t u p q

  pub chain : {s t u : ℕ → A} → s ~ t → t ~ u → s ~ u
  chain p q = p ⨟ q

  pub flip : {s t : ℕ → A} → s ~ t → t ~ s
  flip {s = s} {t = t} p = cong_sym R (at R.ops f) s t p

  pub same : {s t : ℕ → A} → s ≡ t → s ~ t
  same {s = s} e = rw (← e) (Q.cong_refl R (at R.ops f) s)

  pub times : (s s' : ℕ → A) (b : List A) → s ~ s' → convolve R.ops s (at R.ops b) ~ convolve R.ops s' (at R.ops b)
  times s s' b p = cong_mul R (at R.ops f) s s' b p

  pub times2 : {s s' : ℕ → A} (b : List A) → s ~ s' → convolve R.ops (at R.ops b) s ~ convolve R.ops (at R.ops b) s'
  times2 {s = s} {s' = s'} b p = same (S.mul_comm (at R.ops b) s) ⨟ times s s' b p ⨟ same (S.mul_comm s' (at R.ops b))

  pub plus : (s s' t t' : ℕ → A) → s ~ s' → t ~ t' → add_sequences R s t ~ add_sequences R s' t'
  plus s s' t t' p q = cong_add R (at R.ops f) s s' t t' p q

  -- lists of length D that differ by a multiple of f are one list
  pub equal : (a b : List A) → length a ≡ D → length b ≡ D → at R.ops a ~ at R.ops b → a ≡ b
  equal a b la lb p = F.ext R a b (la ∙ sym lb)
      (Q.cong_small R d (at R.ops f) (at R.ops a) (at R.ops b) m.leading (Q.f-ends R d f m) (Q.small R d f m a la) (Q.small R d f m b lb) p)

  pub at-add : (a b : List A) → length a ≡ D → length b ≡ D → at R.ops (quotient_add R.ops D a b) ≡ add_sequences R (at R.ops a) (at R.ops b)
  at-add a b la lb = F.at-tabulate R D _ (F.add-ends R D (at R.ops a) (at R.ops b) (Q.small R d f m a la) (Q.small R d f m b lb))

  pub at-neg : (a : List A) → length a ≡ D → at R.ops (quotient_neg R.ops D a) ≡ S.neg (at R.ops a)
  at-neg a la = F.at-tabulate R D _ (F.neg-ends R D (at R.ops a) (Q.small R d f m a la))

  pub at-embed : (x : A) → at R.ops (embed R.ops D x) ≡ at R.ops (x ∷ [])
  at-embed x = F.at-tabulate R D (at R.ops (x ∷ [])) (λ k le. F.at-ends R (x ∷ []) k (one≤ k le))
    where
      one≤ : (k : ℕ) → suc d ≤ k → suc zero ≤ k
      one≤ k le = omega arith

  pub mul~ : (a b : List A) → convolve R.ops (at R.ops a) (at R.ops b) ~ at R.ops (quotient_mul R.ops D f a b)
  mul~ a b = same (sym (F.at-convolution R a b)) ⨟ Q.remainder-cong R d f m (convolution R.ops a b)

  pub length-add : (a b : List A) → length (quotient_add R.ops D a b) ≡ D
  length-add a b = F.length-tabulate D (λ k. at R.ops a k ⊕ at R.ops b k)

  pub length-neg : (a : List A) → length (quotient_neg R.ops D a) ≡ D
  length-neg a = F.length-tabulate D (λ k. neg (at R.ops a k))

  pub length-embed : (x : A) → length (embed R.ops D x) ≡ D
  length-embed x = F.length-tabulate D (at R.ops (x ∷ []))

  pub length-mul : (a b : List A) → length (quotient_mul R.ops D f a b) ≡ D
  length-mul a b = Q.length-remainder R d f m (convolution R.ops a b)

  pub quotient_mul_comm : (a b : List A) → quotient_mul R.ops D f a b ≡ quotient_mul R.ops D f b a
  quotient_mul_comm a b = equal _ _ (length-mul a b) (length-mul b a)
      (flip (mul~ a b) ⨟ same (S.mul_comm (at R.ops a) (at R.ops b)) ⨟ mul~ b a)

  pub quotient_mul_assoc : (a b c : List A) → quotient_mul R.ops D f (quotient_mul R.ops D f a b) c ≡ quotient_mul R.ops D f a (quotient_mul R.ops D f b c)
  quotient_mul_assoc a b c = equal _ _ (length-mul (quotient_mul R.ops D f a b) c) (length-mul a (quotient_mul R.ops D f b c))
      (flip (mul~ (quotient_mul R.ops D f a b) c)
      ⨟ times _ _ c (flip (mul~ a b))
      ⨟ same (S.mul_assoc (at R.ops a) (at R.ops b) (at R.ops c) ∙ S.mul_comm (at R.ops a) (convolve R.ops (at R.ops b) (at R.ops c)))
      ⨟ times _ _ a (mul~ b c)
      ⨟ same (S.mul_comm (at R.ops (quotient_mul R.ops D f b c)) (at R.ops a))
      ⨟ mul~ a (quotient_mul R.ops D f b c))

  pub quotient_mul_add : (a b c : List A) → length b ≡ D → length c ≡ D
      → quotient_mul R.ops D f a (quotient_add R.ops D b c) ≡ quotient_add R.ops D (quotient_mul R.ops D f a b) (quotient_mul R.ops D f a c)
  quotient_mul_add a b c lb lc = equal _ _ (length-mul a (quotient_add R.ops D b c)) (length-add (quotient_mul R.ops D f a b) (quotient_mul R.ops D f a c))
      (flip (mul~ a (quotient_add R.ops D b c))
      ⨟ same (ap (convolve R.ops (at R.ops a)) (at-add b c lb lc) ∙ S.mul_add (at R.ops a) (at R.ops b) (at R.ops c))
      ⨟ plus _ _ _ _ (mul~ a b) (mul~ a c)
      ⨟ same (sym (at-add (quotient_mul R.ops D f a b) (quotient_mul R.ops D f a c) (length-mul a b) (length-mul a c))))

  -- a constant scales
  pub const-scale : (x : A) (t : ℕ → A) (k : ℕ) → convolve R.ops (at R.ops (x ∷ [])) t k ≡ x ⊗ t k
  const-scale x t zero = refl
  const-scale x t (suc k) = ap (λ w. x ⊗ t (suc k) ⊕ w) (ap (λ s. s k) (Sequences.zero_sequence-mul R t)) ∙ R.add_zero _

  const-one : at R.ops (𝟏 ∷ []) ≡ one_sequence R
  const-one = fun_ext go
    where
      go : (k : ℕ) → at R.ops (𝟏 ∷ []) k ≡ one_sequence R k
      go zero = refl
      go (suc k) = refl

  pub quotient_mul_one : (a : List A) → length a ≡ D → quotient_mul R.ops D f a (embed R.ops D 𝟏) ≡ a
  quotient_mul_one a la = equal _ _ (length-mul a (embed R.ops D 𝟏)) la
      (flip (mul~ a (embed R.ops D 𝟏)) ⨟ same (ap (convolve R.ops (at R.ops a)) (at-embed 𝟏 ∙ const-one) ∙ S.mul_one (at R.ops a)))

  -- the embedding keeps sums and products
  pub embed_add : (x y : A) → embed R.ops D (x ⊕ y) ≡ quotient_add R.ops D (embed R.ops D x) (embed R.ops D y)
  embed_add x y = F.ext R _ _ (length-embed (x ⊕ y) ∙ sym (length-add (embed R.ops D x) (embed R.ops D y)))
      (at-embed (x ⊕ y) ∙ fun_ext go ∙ ap₂ (add_sequences R) (sym (at-embed x)) (sym (at-embed y)) ∙ sym (at-add (embed R.ops D x) (embed R.ops D y) (length-embed x) (length-embed y)))
    where
      go : (k : ℕ) → at R.ops ((x ⊕ y) ∷ []) k ≡ at R.ops (x ∷ []) k ⊕ at R.ops (y ∷ []) k
      go zero = refl
      go (suc k) = sym (R.add_zero 𝟎)

  pub embed_mul : (x y : A) → embed R.ops D (x ⊗ y) ≡ quotient_mul R.ops D f (embed R.ops D x) (embed R.ops D y)
  embed_mul x y = equal _ _ (length-embed (x ⊗ y)) (length-mul (embed R.ops D x) (embed R.ops D y))
      (same (at-embed (x ⊗ y) ∙ fun_ext go ∙ ap₂ (convolve R.ops) (sym (at-embed x)) (sym (at-embed y))) ⨟ mul~ (embed R.ops D x) (embed R.ops D y))
    where
      go : (k : ℕ) → at R.ops ((x ⊗ y) ∷ []) k ≡ convolve R.ops (at R.ops (x ∷ [])) (at R.ops (y ∷ [])) k
      go zero = refl
      go (suc k) = sym (const-scale x (at R.ops (y ∷ [])) (suc k) ∙ Basics.mul-zero R x)

  -- the carrier: lists of length D
  abbrev pub Ext : Type 0
  Ext = (a : List A) × (length a ≡ D)

  pub Ext-path : (a b : Ext) → a.0 ≡ b.0 → a ≡ b
  Ext-path a b e = Σ_prop_path (λ xs. ℕ_set (length xs) D) e

  pub zeros : at R.ops (𝟎 ∷ []) ≡ zero_sequence R
  zeros = fun_ext go
    where
      go : (k : ℕ) → at R.ops (𝟎 ∷ []) k ≡ 𝟎
      go zero = refl
      go (suc k) = refl

  pub by_coefficients : (a b : Ext) → at R.ops a.0 ≡ at R.ops b.0 → a ≡ b
  by_coefficients a b e = Ext-path a b (F.ext R a.0 b.0 (a.1 ∙ sym b.1) e)

  -- the quotient ring modulo the polynomial, on lists with their length
  abbrev pub extension : Ring Ext
  extension = record {
    ops = record {
      zero = (embed R.ops D 𝟎, length-embed 𝟎);
      one = (embed R.ops D 𝟏, length-embed 𝟏);
      add = λ a b. (quotient_add R.ops D a.0 b.0, length-add a.0 b.0);
      neg = λ a. (quotient_neg R.ops D a.0, length-neg a.0);
      mul = λ a b. (quotient_mul R.ops D f a.0 b.0, length-mul a.0 b.0);
    };
    laws = record {
      add_comm = λ a b. by_coefficients _ _ (at-add a.0 b.0 a.1 b.1 ∙ S.add_comm (at R.ops a.0) (at R.ops b.0) ∙ sym (at-add b.0 a.0 b.1 a.1));
      add_assoc = λ a b c. by_coefficients _ _ (at-add (quotient_add R.ops D a.0 b.0) c.0 (length-add a.0 b.0) c.1
          ∙ ap (λ s. add_sequences R s (at R.ops c.0)) (at-add a.0 b.0 a.1 b.1) ∙ S.add_assoc (at R.ops a.0) (at R.ops b.0) (at R.ops c.0)
          ∙ ap (add_sequences R (at R.ops a.0)) (sym (at-add b.0 c.0 b.1 c.1)) ∙ sym (at-add a.0 (quotient_add R.ops D b.0 c.0) a.1 (length-add b.0 c.0)));
      add_zero = λ a. by_coefficients _ _ (at-add a.0 (embed R.ops D 𝟎) a.1 (length-embed 𝟎) ∙ ap (add_sequences R (at R.ops a.0)) (at-embed 𝟎 ∙ zeros) ∙ S.add_zero (at R.ops a.0));
      add_neg = λ a. by_coefficients _ _ (at-add a.0 (quotient_neg R.ops D a.0) a.1 (length-neg a.0) ∙ ap (add_sequences R (at R.ops a.0)) (at-neg a.0 a.1)
          ∙ S.add_neg (at R.ops a.0) ∙ sym (at-embed 𝟎 ∙ zeros));
      mul_comm = λ a b. Ext-path _ _ (quotient_mul_comm a.0 b.0);
      mul_assoc = λ a b c. Ext-path _ _ (quotient_mul_assoc a.0 b.0 c.0);
      mul_one = λ a. Ext-path _ _ (quotient_mul_one a.0 a.1);
      mul_add = λ a b c. Ext-path _ _ (quotient_mul_add a.0 b.0 c.0 b.1 c.1);
    };
  }
