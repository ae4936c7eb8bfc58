-- Evaluation keeps sums and products.
use Rattle.std.proofs.Common.{◌≡◌, ◌≤◌, ◌+◌, ℕ, zero, suc, List, [], ◌∷◌, length, refl, sym, ap, ◌∙◌, ap₂, zero-le, suc-le-suc, le_of_suc-le-suc, suc-add}
use mathlib.Core.Path.{fun_ext}
use native.Mathlib.Omega.{arith}
use Rattle.p3_theory.specs.Rings.Ring.{Ring, Hom}
use Rattle.p3_theory.specs.Polynomials.Polynomial.{at, convolve}
use Rattle.p3_theory.specs.Rings.Powers.{power, sum_of}
use Rattle.p3_theory.specs.Rings.Basics as Basics
use Rattle.p3_theory.specs.Polynomials.Sequences as Sequences
use Rattle.p3_theory.specs.Polynomials.Sequences.{add_sequences, scale, tail, zero_sequence}
use Rattle.p3_theory.specs.Polynomials.Coefficients as F
use Rattle.p3_theory.specs.Polynomials.Coefficients.{Ends}
use Rattle.p3_theory.specs.Polynomials.Congruence.{Cong}

-- a sum times a factor
pub sum-mul : {A : Type 0} (R : Ring A) (x : A) (n : ℕ) (s : ℕ → A) → sum_of R.ops n (λ i. R.mul x (s i)) ≡ R.mul x (sum_of R.ops n s)
sum-mul R x zero s = sym (Basics.mul-zero R x)
sum-mul R x (suc n) s = ap (λ w. R.add (R.mul x (s zero)) w) (sum-mul R x n (λ i. s (suc i))) ∙ sym (R.mul_add _ _ _)

module _ {A B : Type 0} (R : Ring A) (E : Ring B) (e : A → B) (hom : Hom R.ops E.ops e) (phi : B) where
  open E use {zero as 𝟎, one as 𝟏, add as ◌⊕◌, mul as ◌⊗◌}

  infixl 60 ◌⊕◌
  infixl 70 ◌⊗◌
  -- the first n indices, by Horner's rule
  abbrev pub horner : ℕ → (ℕ → A) → B
  horner zero s = 𝟎
  horner (suc n) s = e (s zero) ⊕ phi ⊗ horner n (tail R s)

  pub sum-horner : (n : ℕ) (s : ℕ → A) → sum_of E.ops n (λ i. e (s i) ⊗ power E.ops phi i) ≡ horner n s
  sum-horner zero s = refl
  sum-horner (suc n) s = ap₂ (λ x y. x ⊕ y) (E.mul_one (e (s zero)))
      (ap (sum_of E.ops n) (fun_ext (λ i. Basics.mul_left_comm E (e (s (suc i))) phi (power E.ops phi i)))
      ∙ sum-mul E phi n (λ i. e (s (suc i)) ⊗ power E.ops phi i) ∙ ap (λ w. phi ⊗ w) (sum-horner n (tail R s)))

  pub horner-zero : (n : ℕ) → horner n (zero_sequence R) ≡ 𝟎
  horner-zero zero = refl
  horner-zero (suc n) = ap₂ (λ x y. x ⊕ phi ⊗ y) hom.zero (horner-zero n) ∙ Basics.zero-add E _ ∙ Basics.mul-zero E phi

  -- indices past the end change nothing
  pub horner-more : (n N : ℕ) (s : ℕ → A) → n ≤ N → Ends R n s → horner N s ≡ horner n s
  horner-more zero N s le h = ap (horner N) (fun_ext (λ k. h k zero-le)) ∙ horner-zero N
  horner-more (suc n) zero s le h = absurd (no le)
    where
      no : suc n ≤ zero → ⊥
      no l = omega arith
  horner-more (suc n) (suc N) s le h = ap (λ w. e (s zero) ⊕ phi ⊗ w) (horner-more n N (tail R s) (le_of_suc-le-suc le) (λ k l. h (suc k) (suc-le-suc l)))

  pub horner-add : (n : ℕ) (s t : ℕ → A) → horner n (add_sequences R s t) ≡ horner n s ⊕ horner n t
  horner-add zero s t = sym (E.add_zero 𝟎)
  horner-add (suc n) s t = ap₂ (λ x y. x ⊕ phi ⊗ y) (hom.add _ _) (horner-add n (tail R s) (tail R t))
      ∙ ap (λ w. e (s zero) ⊕ e (t zero) ⊕ w) (E.mul_add phi _ _) ∙ Basics.swap_four E _ _ _ _

  pub horner-scale : (x : A) (n : ℕ) (s : ℕ → A) → horner n (scale R x s) ≡ e x ⊗ horner n s
  horner-scale x zero s = sym (Basics.mul-zero E (e x))
  horner-scale x (suc n) s = ap₂ (λ y z. y ⊕ phi ⊗ z) (hom.mul x (s zero)) (horner-scale x n (tail R s))
      ∙ ap (λ w. e x ⊗ e (s zero) ⊕ w) (Basics.mul_left_comm E phi (e x) (horner n (tail R s))) ∙ sym (E.mul_add _ _ _)

  pub horner-mul : (a : List A) (n : ℕ) (t : ℕ → A) → Ends R n t
      → horner (length a + n) (convolve R.ops (at R.ops a) t) ≡ horner (length a) (at R.ops a) ⊗ horner n t
  horner-mul [] n t h = ap (horner (zero + n)) (Sequences.zero_sequence-mul R t) ∙ horner-zero (zero + n) ∙ sym (Basics.zero-mul E (horner n t))
  horner-mul (x ∷ a) n t h = ap (λ k. horner k (convolve R.ops (at R.ops (x ∷ a)) t)) (suc-add (length a) n)
      ∙ ap₂ (λ y z. y ⊕ phi ⊗ z) (hom.mul x (t zero)) (horner-add N (scale R x (tail R t)) (convolve R.ops (at R.ops a) t)
      ∙ ap₂ (λ y z. y ⊕ z) (horner-scale x N (tail R t)) (horner-mul a n t h))
      ∙ join (e x) (e (t zero)) (horner N (tail R t)) (horner (length a) (at R.ops a)) (horner n t)
      (horner-more n (suc N) t (omega arith) h)
    where
      N : ℕ
      N = length a + n

      join : (x t0 r v u : B) → t0 ⊕ phi ⊗ r ≡ u → x ⊗ t0 ⊕ phi ⊗ (x ⊗ r ⊕ v ⊗ u) ≡ (x ⊕ phi ⊗ v) ⊗ u
      join x t0 r v u is = ap (λ w. x ⊗ t0 ⊕ w) (E.mul_add phi (x ⊗ r) (v ⊗ u)
          ∙ ap₂ (λ y z. y ⊕ z) (Basics.mul_left_comm E phi x r) (sym (E.mul_assoc phi v u)))
          ∙ sym (E.add_assoc _ _ _) ∙ ap (λ w. w ⊕ phi ⊗ v ⊗ u) (sym (E.mul_add x t0 (phi ⊗ r)) ∙ ap (λ w. x ⊗ w) is)
          ∙ sym (Basics.add-mul E x (phi ⊗ v) u)

module _ {A B : Type 0} (R : Ring A) (E : Ring B) (e : A → B) (hom : Hom R.ops E.ops e) where
  open E use {zero as 𝟎, one as 𝟏, add as ◌⊕◌, mul as ◌⊗◌}

  infixl 60 ◌⊕◌
  infixl 70 ◌⊗◌
  -- index k times the k-th power of c
  abbrev pub twist : A → (ℕ → A) → ℕ → A
  twist c s k = R.mul (power R.ops c k) (s k)

  pub horner-twist : (c : A) (phi : B) (n : ℕ) (s : ℕ → A) → horner R E e hom (e c ⊗ phi) n s ≡ horner R E e hom phi n (twist c s)
  horner-twist c phi zero s = refl
  horner-twist c phi (suc n) s = ap₂ (λ x y. x ⊕ y) (ap e (sym (Basics.one-mul R (s zero))))
      (ap (λ w. e c ⊗ phi ⊗ w) (horner-twist c phi n (tail R s))
      ∙ ap (λ w. w ⊗ horner R E e hom phi n (twist c (tail R s))) (E.mul_comm (e c) phi) ∙ E.mul_assoc phi (e c) _
      ∙ ap (λ w. phi ⊗ w) (sym (horner-scale R E e hom phi c n (twist c (tail R s)))
      ∙ ap (horner R E e hom phi n) (fun_ext (λ k. sym (R.mul_assoc c (power R.ops c k) (s (suc k)))))))

  -- values that differ by a multiple of f are equal at a root of f
  pub horner-cong : (phi : B) (f : List A) → horner R E e hom phi (length f) (at R.ops f) ≡ 𝟎 → (n : ℕ) (s t : ℕ → A)
      → Ends R n s → Ends R n t → Cong R (at R.ops f) s t → horner R E e hom phi n s ≡ horner R E e hom phi n t
  horner-cong phi f root n s t hs ht p =
      sym (horner-more R E e hom phi n N s (omega arith) hs) ∙ ap (H N) p.is ∙ horner-add R E e hom phi N _ t
      ∙ ap₂ (λ x y. x ⊕ y)
      (horner-more R E e hom phi (length p.by + length f) N _ (omega arith) (F.convolve-ends R p.by (length f) (at R.ops f) (F.at-ends R f))
      ∙ horner-mul R E e hom phi p.by (length f) (at R.ops f) (F.at-ends R f)
      ∙ ap (λ w. H (length p.by) (at R.ops p.by) ⊗ w) root ∙ Basics.mul-zero E _)
      (horner-more R E e hom phi n N t (omega arith) ht)
      ∙ Basics.zero-add E _
    where
      N : ℕ
      N = length p.by + length f + n

      H : ℕ → (ℕ → A) → B
      H = horner R E e hom phi
