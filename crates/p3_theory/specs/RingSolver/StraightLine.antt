-- What straight-line code computed, read from the equations of its calls.
use Rattle.std.proofs.Common.{◌≡◌, ℕ, ◌+◌, List, [], ◌∷◌, true, sym, ap₂, ◌∙◌}
use Rattle.p3_theory.specs.Rings.Ring.{Ops, RingLaws, ring_of, subtract}
use Rattle.p3_theory.specs.Rings.Operators.{Gives, GivesOne}
use Rattle.p3_theory.specs.Polynomials.Polynomial.{tabulate}
use Rattle.p3_theory.specs.RingSolver.Solver.{Expr, V}
use Rattle.p3_theory.specs.RingSolver.Formula.{den, all_same, by_ring}
use Rattle.p3_theory.specs.RingSolver.Reify.{Stands, here, there, Reads, reads_add, reads_mul, reads_neg, reads_by, reads, expr, eval-expr}

-- each item of the list is written in the operations o and values with P
pub data AllRead {A : Type 0} (o : Ops A) (P : A → Type 0) : List A → Type 0 where
  none : AllRead o P []
  and : {t : A} {ts : List A} → Reads o P t → AllRead o P ts → AllRead o P (t ∷ ts)

-- a list is read item by item
pub ruleset reads_list = (reads, none, and)

abbrev exprs : {A : Type 0} {o : Ops A} {env ts : List A} → AllRead o (Stands o.zero env) ts → List Expr
exprs none = []
exprs (and r rs) = expr r ∷ exprs rs

-- T follows from P of each item
abbrev FromEach : {A : Type 0} → (A → Type 0) → List A → Type 0 → Type 0
FromEach P [] T = T
FromEach P (x ∷ xs) T = P x → FromEach P xs T

abbrev from_each : {A : Type 0} (d : A) (P : A → Type 0) (env : List A) {T : Type 0} → ((t : A) → Stands d env t → P t) → FromEach P env T → T
from_each d P [] p r = r
from_each d P (x ∷ xs) p r = from_each d P xs (λ t s. p t (there s)) (r (p x here))

-- n variables from index i on
abbrev pub variables : ℕ → ℕ → List Expr
variables i n = tabulate n (λ k. V (i + k))

module _ {A : Type 0} (o : Ops A) (env ts : List A) where
  -- ts is written in the operations o and the items of env, whatever is known of those
  abbrev IsComputed : Type 1
  IsComputed = (P : A → Type 0) → FromEach P env (AllRead o P ts)

  abbrev computed : IsComputed → AllRead o (Stands o.zero env) ts
  computed rs = from_each o.zero (Stands o.zero env) env (λ t s. s) (rs (Stands o.zero env))

  -- then it is what expressions with one normal form stand for
  pub formula : (l : RingLaws o) (rs : IsComputed) (gs : List Expr) → all_same (exprs (computed rs)) gs ≡ true → ts ≡ den (ring_of l) env gs
  formula l rs gs h = sym (value ts (computed rs)) ∙ by_ring (ring_of l) env (exprs (computed rs)) gs h
    where
      value : (us : List A) (r : AllRead o (Stands o.zero env) us) → den (ring_of l) env (exprs r) ≡ us
      value us none = λ i. []
      value us (and r rs) = ap₂ (λ x xs. x ∷ xs) (eval-expr o env r) (value _ rs)

-- readings of what calls answer
module _ {A : Type 0} (o : Ops A) (P : A → Type 0) where
  -- by the operators + - * and the negation
  abbrev pub sum_read : {can : A → A → Type 0} {gives : A → A → A → Type 0} → Gives can gives o.add → {x y r : A} → gives x y r
      → Reads o P x → Reads o P y → Reads o P r
  sum_read k {x} {y} {r} h a b = reads_by (k.exact x y r h) (reads_add a b)

  -- a call that answers a difference, read as an expression
  abbrev pub difference_read : {can : A → A → Type 0} {gives : A → A → A → Type 0} → Gives can gives (subtract o) → {x y r : A} → gives x y r
      → Reads o P x → Reads o P y → Reads o P r
  difference_read k {x} {y} {r} h a b = reads_by (k.exact x y r h) (reads_add a (reads_neg b))

  -- a call that answers a product, read as an expression
  abbrev pub product_read : {can : A → A → Type 0} {gives : A → A → A → Type 0} → Gives can gives o.mul → {x y r : A} → gives x y r
      → Reads o P x → Reads o P y → Reads o P r
  product_read k {x} {y} {r} h a b = reads_by (k.exact x y r h) (reads_mul a b)

  -- a call that answers a negation, read as an expression
  abbrev pub negation_read : {can : A → Type 0} {gives : A → A → Type 0} → GivesOne can gives o.neg → {x r : A} → gives x r → Reads o P x → Reads o P r
  negation_read k {x} {r} h a = reads_by (k.exact x r h) (reads_neg a)

  -- by the product with an element of the base
  abbrev pub scaled_read : {F : Type 0} {can : A → F → Type 0} {gives : A → F → A → Type 0} {e : F → A} → Gives can gives (λ x f. o.mul x (e f)) → {x : A} {f : F} {r : A}
      → gives x f r → Reads o P x → Reads o P (e f) → Reads o P r
  scaled_read k {x} {f} {r} h a b = reads_by (k.exact x f r h) (reads_mul a b)

  -- by a clause that is an equation
  abbrev pub answer_read : {r t : A} → r ≡ t → Reads o P t → Reads o P r
  answer_read e a = reads_by e a
