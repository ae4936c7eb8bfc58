-- Lists of a given length, index by index.
use Rattle.std.specs.Prelude.{◌≡◌, ◌<◌, ◌∷◌, ℕ, List, [], length, replicate, refl, get_or}
use Rattle.std.proofs.Common.{ap, ap₂, arith, ◌∙◌, sym, zero, suc}
use Rattle.std.proofs.Math.ListN.{set}
use Rattle.std.proofs.lemmas.List.{ext_get_or, get_or_default}
use Rattle.p3_theory.specs.Rings.Ring.{Ops}
use Rattle.p3_theory.specs.Polynomials.Polynomial as P
use Rattle.p3_theory.specs.Polynomials.Coefficients.{length-tabulate}

module _ {A : Type 0} where
  pub length-remainder : (o : Ops A) (D : ℕ) (f c : List A) → length (P.remainder o D f c) ≡ D
  length-remainder o D f [] = length-tabulate D _
  length-remainder o D f (x ∷ c) = length-tabulate D _

  pub get-tabulate : (D : ℕ) (s : ℕ → A) (k : ℕ) (d : A) → k < D → get_or (P.tabulate D s) k d ≡ s k
  get-tabulate zero s k d h = absurd (omega arith)
  get-tabulate (suc D) s zero d h = refl
  get-tabulate (suc D) s (suc k) d h = get-tabulate D (λ i. s (suc i)) k d (omega arith)

  -- tabulated lists are alike where their entries are
  pub tabulate-same : (n : ℕ) (s t : ℕ → A) → ((k : ℕ) → k < n → s k ≡ t k) → P.tabulate n s ≡ P.tabulate n t
  tabulate-same zero s t h = refl
  tabulate-same (suc n) s t h = ap₂ (λ x l. x ∷ l) (h zero (omega arith)) (tabulate-same n (λ i. s (suc i)) (λ i. t (suc i)) (λ k lt. h (suc k) (omega (arith, lt))))

  pub tabulate-entry : (n : ℕ) (s t : ℕ → A) → P.tabulate n s ≡ P.tabulate n t → (k : ℕ) → k < n → s k ≡ t k
  tabulate-entry n s t e k lt = sym (get-tabulate n s k (s k) lt) ∙ ap (λ l. get_or l k (s k)) e ∙ get-tabulate n t k (s k) lt

  pub to-tabulate : (d : A) (D : ℕ) (s : ℕ → A) (r : List A) → length r ≡ D → ((k : ℕ) → k < D → get_or r k d ≡ s k) → r ≡ P.tabulate D s
  to-tabulate d D s r l h =
      ext_get_or d r (P.tabulate D s) (l ∙ sym (length-tabulate D s)) (λ k w. h k (omega (arith, l)) ∙ sym (get-tabulate D s k d (omega (arith, l))))

  nothing : (D : ℕ) (o : A) → replicate D o ≡ P.tabulate D (λ k. get_or [] k o)
  nothing zero o = refl
  nothing (suc D) o = ap (λ l. o ∷ l) (nothing D o)

  pub zero-list : (o : Ops A) (D : ℕ) (z : A) → z ≡ o.zero → replicate D z ≡ P.embed o D o.zero
  zero-list o zero z h = refl
  zero-list o (suc D) z h = ap (λ y. y ∷ replicate D y) h ∙ ap (λ l. o.zero ∷ l) (nothing D o.zero)

  pub constant-list : (o : Ops A) (D : ℕ) (x : A) → 0 < D → set (replicate D o.zero) 0 x ≡ P.embed o D x
  constant-list o zero x h = absurd (omega arith)
  constant-list o (suc D) x h = ap (λ l. x ∷ l) (nothing D o.zero)

  pub read_at : (xs : List A) (i : ℕ) (x d : A) → i < length xs → x ≡ get_or xs i x → get_or xs i d ≡ x
  read_at xs i x d h e = sym (e ∙ get_or_default xs i x d h)
