-- Expressions found by search from the terms that they stand for.
use Rattle.std.proofs.Common.{◌≡◌, ℕ, zero, suc, List, ◌∷◌, refl, sym, ap, ap₂, ◌∙◌, true}
use Rattle.p3_theory.specs.Rings.Ring.{Ops, RingLaws}
use Rattle.p3_theory.specs.RingSolver.Solver.{Expr, ◌⊕◌, ◌⊗◌, ⊝◌, V, K, at, eval, same}
use Rattle.p3_theory.specs.RingSolver.SolverSound.{ring_eq}

-- that the test of two expressions computes to true: for `refl`, whose argument antt would write out
abbrev pub yes : true ≡ true
yes = refl

-- t stands in the list
pub data Stands {A : Type 0} (d : A) : List A → A → Type 0 where
  here : {env : List A} {t : A} → Stands d (t ∷ env) t
  there : {env : List A} {x t : A} → Stands d env t → Stands d (x ∷ env) t

-- t is written in the operations o and values with P
pub data Reads {A : Type 0} (o : Ops A) (P : A → Type 0) : A → Type 0 where
  reads_var : {t : A} → P t → Reads o P t
  reads_zero : Reads o P o.zero
  reads_one : Reads o P o.one
  reads_add : {t u : A} → Reads o P t → Reads o P u → Reads o P (o.add t u)
  reads_mul : {t u : A} → Reads o P t → Reads o P u → Reads o P (o.mul t u)
  reads_neg : {t : A} → Reads o P t → Reads o P (o.neg t)
  reads_by : {t u : A} → t ≡ u → Reads o P u → Reads o P t

pub ruleset reads = (reads_zero, reads_one, reads_add, reads_mul, reads_neg, reads_var, here, there)

-- the index at which a value stands in the environment
abbrev pub place : {A : Type 0} {d : A} {env : List A} {t : A} → Stands d env t → ℕ
place here = zero
place (there s) = suc (place s)

pub at-index : {A : Type 0} (d : A) {env : List A} {t : A} (s : Stands d env t) → at d env (place s) ≡ t
at-index d here = refl
at-index d (there s) = at-index d s

-- the expression that a value was read as
abbrev pub expr : {A : Type 0} {o : Ops A} {env : List A} {t : A} → Reads o (Stands o.zero env) t → Expr
expr (reads_var s) = V (place s)
expr reads_zero = K 0
expr reads_one = K 1
expr (reads_add r s) = expr r ⊕ expr s
expr (reads_mul r s) = expr r ⊗ expr s
expr (reads_neg r) = ⊝ expr r
expr (reads_by e r) = expr r

pub eval-expr : {A : Type 0} (o : Ops A) (env : List A) {t : A} (r : Reads o (Stands o.zero env) t) → eval o env (expr r) ≡ t
eval-expr o env (reads_var s) = at-index o.zero s
eval-expr o env reads_zero = refl
eval-expr o env reads_one = refl
eval-expr o env (reads_add r s) = ap₂ o.add (eval-expr o env r) (eval-expr o env s)
eval-expr o env (reads_mul r s) = ap₂ o.mul (eval-expr o env r) (eval-expr o env s)
eval-expr o env (reads_neg r) = ap o.neg (eval-expr o env r)
eval-expr o env (reads_by e r) = eval-expr o env r ∙ sym e

-- l ≡ r in each ring: `by_laws o laws (a ∷ b ∷ []) (search reads depth 99 fits 99999) (search reads depth 99 fits 99999) yes`
pub by_laws : {A : Type 0} (o : Ops A) (L : RingLaws o) (env : List A) {l r : A} → (a : Reads o (Stands o.zero env) l) (b : Reads o (Stands o.zero env) r) → same (expr a) (expr b) ≡ true → l ≡ r
by_laws o L env a b h =
    sym (eval-expr o env a) ∙ ring_eq o L (expr a) (expr b) env h ∙ eval-expr o env b
