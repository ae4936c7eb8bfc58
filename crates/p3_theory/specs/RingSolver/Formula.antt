-- A fixed formula is the product, by the ring's normal form, index by index.
use Rattle.std.proofs.Common.{◌≡◌, Bool, true, false, ◌&&◌, List, [], ◌∷◌, refl, map, ap₂}
use native.Mathlib.Omega.{arith}
use Rattle.p3_theory.specs.Rings.Ring.{Ring}
use Rattle.p3_theory.specs.RingSolver.Solver as S
use Rattle.p3_theory.specs.RingSolver.Solver.{Expr, same}
use Rattle.p3_theory.specs.RingSolver.SolverSound.{ring_eq, and_true}

-- the two lists have the same expressions up to the laws of a ring, entry by entry
abbrev pub all_same : List Expr → List Expr → Bool
all_same [] [] = true
all_same [] (y ∷ ys) = false
all_same (x ∷ xs) [] = false
all_same (x ∷ xs) (y ∷ ys) = same x y && all_same xs ys

module _ {A : Type 0} (R : Ring A) where
  -- the values of expressions
  abbrev pub den : List A → List Expr → List A
  den env es = map (S.eval R.ops env) es

  pub by_ring : (env : List A) (es gs : List Expr) → all_same es gs ≡ true → den env es ≡ den env gs
  by_ring env [] [] h = refl
  by_ring env [] (g ∷ gs) h = absurd (h' h)
    where
      h' : false ≡ true → ⊥
      h' e = grind arith
  by_ring env (e ∷ es) [] h = absurd (h' h)
    where
      h' : false ≡ true → ⊥
      h' e = grind arith
  by_ring env (e ∷ es) (g ∷ gs) h = ap₂ (λ x xs. x ∷ xs) (ring_eq R.ops R.laws e g env (and_true _ _ h).0) (by_ring env es gs (and_true _ _ h).1)
