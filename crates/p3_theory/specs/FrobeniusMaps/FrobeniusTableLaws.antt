-- The equations of a concrete table give all laws of a Frobenius map, over any ring and modulo any monic polynomial.
use Rattle.std.proofs.Common.{◌≡◌, ◌<◌, ℕ, zero, suc, List, [], ◌∷◌, length, get_or, refl, sym, ap, ◌∙◌, ap₂, inl, inr}
use mathlib.Core.Path.{fun_ext}
use native.Mathlib.Omega.{arith}
use Rattle.std.proofs.lemmas.Bool.{cases_lt}
use Rattle.p3_theory.specs.Rings.Ring.{Ops, Ring}
use Rattle.p3_theory.specs.Polynomials.Polynomial.{at, IsMonic, quotient_ops, quotient_add, quotient_mul, embed, monomial}
use Rattle.p3_theory.specs.Rings.Powers.{power, sum_of, eval}
use Rattle.p3_theory.specs.Lists.ByIndex.{get-tabulate, tabulate-entry, tabulate-same}
use Rattle.p3_theory.specs.FrobeniusMaps.Frobenius.{iterate}
use Rattle.p3_theory.specs.Rings.Basics as Basics
use Rattle.p3_theory.specs.Polynomials.Sequences.{scale, tail}
use Rattle.p3_theory.specs.Polynomials.Coefficients as F
use Rattle.p3_theory.specs.Polynomials.Congruence as Q
use Rattle.p3_theory.specs.Polynomials.QuotientRing as X
use Rattle.p3_theory.specs.Polynomials.QuotientRing.{Ext, extension}
use Rattle.p3_theory.specs.Polynomials.Horner as V
use Rattle.p3_theory.specs.Polynomials.Horner.{horner}
use Rattle.p3_theory.specs.Polynomials.Substitution as Sg
use Rattle.p3_theory.specs.Polynomials.Substitution.{emb, sigma_of}
use Rattle.p3_theory.specs.FrobeniusMaps.FrobeniusTable.{row_sum, frobenius_list, IsFrobeniusTable, TableProof, orbit_list, value_at, dot, row, unknown}

pub orbit-at : {B : Type 0} (step : B → B) (p : ℕ → B) → ((j : ℕ) → step (p j) ≡ p (suc j)) → (n i : ℕ) → i < n → (z : B)
    → get_or (orbit_list step n (p zero)) i z ≡ p i
orbit-at step p h zero i lt z = absurd (omega arith)
orbit-at step p h (suc n) zero lt z = refl
orbit-at step p h (suc n) (suc i) lt z = ap (λ v. get_or (orbit_list step n v) i z) (h zero)
    ∙ orbit-at step (λ j. p (suc j)) (λ j. h (suc j)) n i (omega arith) z

pub iterate-same : {B : Type 0} (f g : B → B) → ((b : B) → f b ≡ g b) → (n : ℕ) (b : B) → iterate f n b ≡ iterate g n b
iterate-same f g h zero b = refl
iterate-same f g h (suc n) b = ap (iterate f n) (h b) ∙ iterate-same f g h n (g b)

pub length-frobenius_list : {A : Type 0} (o : Ops A) (D : ℕ) (f phi a : List A) → length (frobenius_list o D f phi a) ≡ D
length-frobenius_list o D f phi a = F.length-tabulate D (λ k. sum_of o D (λ i. o.mul (at o a i) (at o (power (quotient_ops o D f) phi i) k)))

module _ {A : Type 0} (R : Ring A) where
  open R use {zero as 𝟎, one as 𝟏, add as ◌⊕◌, mul as ◌⊗◌, neg}

  infixl 60 ◌⊕◌
  infixl 70 ◌⊗◌
  pub sum-same : (n : ℕ) (s t : ℕ → A) → ((k : ℕ) → k < n → s k ≡ t k) → sum_of R.ops n s ≡ sum_of R.ops n t
  sum-same zero s t h = refl
  sum-same (suc n) s t h = ap₂ (λ x y. x ⊕ y) (h zero (omega arith)) (sum-same n (tail R s) (tail R t) (λ k lt. h (suc k) (omega (arith, lt))))

  sum-zero : (n : ℕ) → sum_of R.ops n (λ i. 𝟎) ≡ 𝟎
  sum-zero zero = refl
  sum-zero (suc n) = ap (λ x. 𝟎 ⊕ x) (sum-zero n) ∙ R.add_zero 𝟎

  sum-add : (n : ℕ) (s t : ℕ → A) → sum_of R.ops n (λ i. s i ⊕ t i) ≡ sum_of R.ops n s ⊕ sum_of R.ops n t
  sum-add zero s t = sym (R.add_zero 𝟎)
  sum-add (suc n) s t = ap (λ x. s zero ⊕ t zero ⊕ x) (sum-add n (tail R s) (tail R t)) ∙ Basics.swap_four R _ _ _ _

  sum-swap : (n m : ℕ) (g : ℕ → ℕ → A) → sum_of R.ops n (λ j. sum_of R.ops m (λ i. g i j)) ≡ sum_of R.ops m (λ i. sum_of R.ops n (λ j. g i j))
  sum-swap zero m g = sym (sum-zero m)
  sum-swap (suc n) m g = ap (λ x. sum_of R.ops m (λ i. g i zero) ⊕ x) (sum-swap n m (λ i j. g i (suc j)))
      ∙ sym (sum-add m (λ i. g i zero) (λ i. sum_of R.ops n (λ j. g i (suc j))))

  sum-times : (n : ℕ) (s : ℕ → A) (x : A) → sum_of R.ops n s ⊗ x ≡ sum_of R.ops n (λ i. s i ⊗ x)
  sum-times n s x = R.mul_comm _ x ∙ sym (V.sum-mul R x n s) ∙ sum-same n _ _ (λ k lt. R.mul_comm x (s k))

  -- the sum with a unit row is one index
  sum-pick : (n k : ℕ) (a : ℕ → A) → k < n → sum_of R.ops n (λ i. a i ⊗ at R.ops (monomial R.ops k) i) ≡ a k
  sum-pick zero k a lt = absurd (omega arith)
  sum-pick (suc n) zero a lt = ap₂ (λ x y. x ⊕ y) (R.mul_one (a zero)) (sum-same n _ _ (λ i l. Basics.mul-zero R (a (suc i))) ∙ sum-zero n) ∙ R.add_zero (a zero)
  sum-pick (suc n) (suc k) a lt = ap₂ (λ x y. x ⊕ y) (Basics.mul-zero R (a zero)) (sum-pick n k (tail R a) (omega arith)) ∙ Basics.zero-add R _

  -- a row against the sum of rows
  dot-rows : (D : ℕ) (l : List A) (r : ℕ → List A) (a : List A)
      → dot R.ops D l (row_sum R.ops D r a) ≡ sum_of R.ops D (λ i. at R.ops a i ⊗ dot R.ops D l (r i))
  dot-rows D l r a =
      sum-same D _ _ (λ j lt. ap (λ x. x ⊗ at R.ops l j) (get-tabulate D _ j 𝟎 lt) ∙ sum-times D _ (at R.ops l j))
      ∙ sum-swap D D (λ i j. at R.ops a i ⊗ at R.ops (r i) j ⊗ at R.ops l j)
      ∙ sum-same D _ _ (λ i lt. sum-same D _ _ (λ j lt'. R.mul_assoc _ _ _) ∙ V.sum-mul R (at R.ops a i) D _)

  row_sum-same : (D : ℕ) (r s : ℕ → List A) → ((i : ℕ) → i < D → r i ≡ s i) → (a : List A) → row_sum R.ops D r a ≡ row_sum R.ops D s a
  row_sum-same D r s h a = tabulate-same D _ _ (λ k lt. sum-same D _ _ (λ i l. ap (λ v. at R.ops a i ⊗ at R.ops v k) (h i l)))

  -- where the rows take l to l and one index more, what is fixed is zero there
  row-fixed : (D k : ℕ) (l : List A) (r : ℕ → List A) (a : List A) → k < D
      → ((i : ℕ) → i < D → dot R.ops D l (r i) ≡ at R.ops l i ⊕ at R.ops (monomial R.ops k) i)
      → row_sum R.ops D r a ≡ a → at R.ops a k ≡ 𝟎
  row-fixed D k l r a lt h e = sym (sum-pick D k (at R.ops a) lt)
      ∙ Basics.cancel R (dot R.ops D l a) _ 𝟎 (sym (sum-add D _ _) ∙ sum-same D _ _ (λ i w. sym (R.mul_add _ _ _) ∙ ap (λ x. at R.ops a i ⊗ x) (sym (h i w)))
      ∙ sym (dot-rows D l r a) ∙ ap (dot R.ops D l) e ∙ sym (R.add_zero _))

module _ {A : Type 0} (R : Ring A) (d : ℕ) (f : List A) (m : IsMonic R.ops (suc d) f) where
  open R use {zero as 𝟎, one as 𝟏, add as ◌⊕◌, mul as ◌⊗◌, neg}

  infixl 60 ◌⊕◌
  infixl 70 ◌⊗◌
  abbrev E : Ring (Ext R d f m)
  E = extension R d f m

  abbrev D : ℕ
  D = suc d

  power-list : (phi : Ext R d f m) (i : ℕ) → (power E.ops phi i).0 ≡ power (quotient_ops R.ops D f) phi.0 i
  power-list phi zero = refl
  power-list phi (suc i) = ap (quotient_mul R.ops D f phi.0) (power-list phi i)

  scaled : (x : A) (v : Ext R d f m) → at R.ops (quotient_mul R.ops D f (embed R.ops D x) v.0) ≡ scale R x (at R.ops v.0)
  scaled x v = Q.cong_small R d (at R.ops f) _ _ m.leading (Q.f-ends R d f m) (Q.small R d f m _ (X.length-mul R d f m (embed R.ops D x) v.0))
      (λ k le. ap (λ y. x ⊗ y) (Q.small R d f m v.0 v.1 k le) ∙ Basics.mul-zero R x)
      (X.chain R d f m (X.flip R d f m (X.mul~ R d f m (embed R.ops D x) v.0))
      (X.same R d f m (ap (λ s. Rattle.p3_theory.specs.Polynomials.Polynomial.convolve R.ops s (at R.ops v.0)) (X.at-embed R d f m x) ∙ fun_ext (X.const-scale R d f m x (at R.ops v.0)))))

  sum-coefficients : (n : ℕ) (x : ℕ → A) (v : ℕ → Ext R d f m) (k : ℕ)
      → at R.ops (sum_of E.ops n (λ i. E.mul (emb R d f m (x i)) (v i))).0 k ≡ sum_of R.ops n (λ i. x i ⊗ at R.ops (v i).0 k)
  sum-coefficients zero x v k = ap (λ s. s k) (X.at-embed R d f m 𝟎 ∙ X.zeros R d f m)
  sum-coefficients (suc n) x v k = ap (λ s. s k) (X.at-add R d f m (E.mul (emb R d f m (x zero)) (v zero)).0 rest.0 (X.length-mul R d f m (embed R.ops D (x zero)) (v zero).0) rest.1)
      ∙ ap₂ (λ y z. y ⊕ z) (ap (λ s. s k) (scaled (x zero) (v zero))) (sum-coefficients n (λ i. x (suc i)) (λ i. v (suc i)) k)
    where
      rest : Ext R d f m
      rest = sum_of E.ops n (λ i. E.mul (emb R d f m (x (suc i))) (v (suc i)))

  -- the sum in the quotient is the sum of rows
  pub frobenius-list : (phi a : Ext R d f m) → (sigma_of R d f m phi a).0 ≡ frobenius_list R.ops D f phi.0 a.0
  frobenius-list phi a = F.ext R _ _ ((sigma_of R d f m phi a).1 ∙ sym (F.length-tabulate D s))
      (fun_ext same ∙ sym (F.at-tabulate R D s (λ k le. sym (same k) ∙ Q.small R d f m (sigma_of R d f m phi a).0 (sigma_of R d f m phi a).1 k le)))
    where
      s : ℕ → A
      s k = sum_of R.ops D (λ i. at R.ops a.0 i ⊗ at R.ops (power (quotient_ops R.ops D f) phi.0 i) k)

      same : (k : ℕ) → at R.ops (sigma_of R d f m phi a).0 k ≡ s k
      same k = sum-coefficients (length a.0) (at R.ops a.0) (power E.ops phi) k
          ∙ ap (λ n. sum_of R.ops n (λ i. at R.ops a.0 i ⊗ at R.ops (power E.ops phi i).0 k)) a.1
          ∙ sum-same R D _ _ (λ i lt. ap (λ v. at R.ops a.0 i ⊗ at R.ops v k) (power-list phi i))

  value-horner : (phi : Ext R d f m) (c : List A) → value_at R.ops D f phi.0 c ≡ (horner R E (emb R d f m) (Sg.hom R d f m) phi (length c) (at R.ops c)).0
  value-horner phi [] = refl
  value-horner phi (x ∷ c) = ap (λ r. quotient_add R.ops D (embed R.ops D x) (quotient_mul R.ops D f phi.0 r)) (value-horner phi c)

  pub sigma_embedded : (phi : Ext R d f m) (x : A) → sigma_of R d f m phi (emb R d f m x) ≡ emb R d f m x
  sigma_embedded phi x = Sg.sigma-horner R d f m phi (emb R d f m x)
      ∙ ap (horner R E (emb R d f m) (Sg.hom R d f m) phi D) (X.at-embed R d f m x)
      ∙ ap (λ y. E.add (emb R d f m x) (E.mul phi y)) (V.horner-zero R E (emb R d f m) (Sg.hom R d f m) phi d)
      ∙ ap (E.add (emb R d f m x)) (Basics.mul-zero E phi) ∙ E.add_zero _

  -- a map that keeps sums, products, the base and X fixes every value
  module _ (g : Ext R d f m → Ext R d f m) (g-add : (a b : Ext R d f m) → g (E.add a b) ≡ E.add (g a) (g b))
      (g-mul : (a b : Ext R d f m) → g (E.mul a b) ≡ E.mul (g a) (g b)) (g-emb : (x : A) → g (emb R d f m x) ≡ emb R d f m x) where
    g-horner : (p : Ext R d f m) (n : ℕ) (s : ℕ → A)
        → g (horner R E (emb R d f m) (Sg.hom R d f m) p n s) ≡ horner R E (emb R d f m) (Sg.hom R d f m) (g p) n s
    g-horner p zero s = g-emb 𝟎
    g-horner p (suc n) s = g-add _ _ ∙ ap₂ E.add (g-emb (s zero)) (g-mul _ _ ∙ ap (E.mul (g p)) (g-horner p n (tail R s)))

    fixes : g (Sg.var R d f m) ≡ Sg.var R d f m → (a : Ext R d f m) → g a ≡ a
    fixes e a = ap g (sym is) ∙ g-horner (Sg.var R d f m) (length a.0) (at R.ops a.0)
        ∙ ap (λ p. horner R E (emb R d f m) (Sg.hom R d f m) p (length a.0) (at R.ops a.0)) e ∙ is
      where
        is : horner R E (emb R d f m) (Sg.hom R d f m) (Sg.var R d f m) (length a.0) (at R.ops a.0) ≡ a
        is = X.Ext-path R d f m _ _ (Sg.at_var R d f m a.0 ∙ Sg.remainder-small R d f m a.0 a.1)

  module _ (s : Ext R d f m → Ext R d f m) (s-add : (a b : Ext R d f m) → s (E.add a b) ≡ E.add (s a) (s b))
      (s-mul : (a b : Ext R d f m) → s (E.mul a b) ≡ E.mul (s a) (s b)) (s-emb : (x : A) → s (emb R d f m x) ≡ emb R d f m x) where
    it-add : (n : ℕ) (a b : Ext R d f m) → iterate s n (E.add a b) ≡ E.add (iterate s n a) (iterate s n b)
    it-add zero a b = refl
    it-add (suc n) a b = ap (iterate s n) (s-add a b) ∙ it-add n (s a) (s b)

    it-mul : (n : ℕ) (a b : Ext R d f m) → iterate s n (E.mul a b) ≡ E.mul (iterate s n a) (iterate s n b)
    it-mul zero a b = refl
    it-mul (suc n) a b = ap (iterate s n) (s-mul a b) ∙ it-mul n (s a) (s b)

    it-emb : (n : ℕ) (x : A) → iterate s n (emb R d f m x) ≡ emb R d f m x
    it-emb zero x = refl
    it-emb (suc n) x = ap (iterate s n) (s-emb x) ∙ it-emb n x

    pub iterate-fixes : (n : ℕ) → iterate s n (Sg.var R d f m) ≡ Sg.var R d f m → (a : Ext R d f m) → iterate s n a ≡ a
    iterate-fixes n = fixes (iterate s n) (it-add n) (it-mul n) (it-emb n)

  module _ (phi : List A) (table dual : List (List A)) (T : TableProof R.ops D f phi table dual) where
    abbrev p : Ext R d f m
    p = (phi, T.width)

    abbrev sig : Ext R d f m → Ext R d f m
    sig = sigma_of R d f m p

    is-root : eval R.ops E.ops (emb R d f m) p f ≡ E.zero
    is-root = V.sum-horner R E (emb R d f m) (Sg.hom R d f m) p (length f) (at R.ops f) ∙ X.Ext-path R d f m _ _ (sym (value-horner p f) ∙ T.root)

    row-power : (i : ℕ) → i < D → row table i ≡ power (quotient_ops R.ops D f) phi i
    row-power i lt = ap (λ t. get_or t i []) (sym T.rows) ∙ orbit-at (quotient_mul R.ops D f phi) (power (quotient_ops R.ops D f) phi) (λ j. refl) D i lt []

    by-table : (a : List A) → row_sum R.ops D (row table) a ≡ frobenius_list R.ops D f phi a
    by-table = row_sum-same R D _ _ row-power

    iterate-list : (n : ℕ) (a : Ext R d f m) → (iterate sig n a).0 ≡ iterate (frobenius_list R.ops D f phi) n a.0
    iterate-list zero a = refl
    iterate-list (suc n) a = iterate-list n (sig a) ∙ ap (iterate (frobenius_list R.ops D f phi) n) (frobenius-list p a)

    var-back : iterate sig D (Sg.var R d f m) ≡ Sg.var R d f m
    var-back = X.Ext-path R d f m _ _ (iterate-list D (Sg.var R d f m)
        ∙ sym (iterate-same (row_sum R.ops D (row table)) (frobenius_list R.ops D f phi) by-table D (unknown R.ops D f)) ∙ T.order)

    mul-list : (a b : Ext R d f m) → sig (E.mul a b) ≡ E.mul (sig a) (sig b)
    mul-list = Sg.sigma_mul R d f m p is-root

    pub table_laws : IsFrobeniusTable R.ops D f phi
    table_laws = record {
      width = T.width;
      add = λ a b la lb. sym (frobenius-list p (E.add (a, la) (b, lb))) ∙ ap (λ z. z.0) (Sg.sigma_add R d f m p (a, la) (b, lb))
          ∙ ap₂ (quotient_add R.ops D) (frobenius-list p (a, la)) (frobenius-list p (b, lb));
      mul = λ a b la lb. sym (frobenius-list p (E.mul (a, la) (b, lb))) ∙ ap (λ z. z.0) (mul-list (a, la) (b, lb))
          ∙ ap₂ (quotient_mul R.ops D f) (frobenius-list p (a, la)) (frobenius-list p (b, lb));
      embedded = λ x. sym (frobenius-list p (emb R d f m x)) ∙ ap (λ z. z.0) (sigma_embedded p x);
      order = λ a la. sym (iterate-list D (a, la)) ∙ ap (λ z. z.0) (iterate-fixes sig (Sg.sigma_add R d f m p) mul-list (sigma_embedded p) D var-back (a, la));
      fixed = λ a la e. (
        at R.ops a zero,
        F.ext R _ _ (la ∙ sym (X.length-embed R d f m (at R.ops a zero)))
            (fun_ext (each_coefficient a la e) ∙ sym (X.at-embed R d f m (at R.ops a zero))),
      );
    }
      where
        each_coefficient : (a : List A) → length a ≡ D → frobenius_list R.ops D f phi a ≡ a → (k : ℕ) → at R.ops a k ≡ at R.ops (at R.ops a zero ∷ []) k
        each_coefficient a la e zero = refl
        each_coefficient a la e (suc k) = elim (cases_lt (suc k) D) [
          | inl lt ↦ row-fixed R D (suc k) (row dual k) (row table) a lt
              (tabulate-entry D _ _ (tabulate-entry d _ _ T.apart k (omega arith))) (by-table a ∙ e)
          | inr ge ↦ Q.small R d f m a la (suc k) ge
        ]
