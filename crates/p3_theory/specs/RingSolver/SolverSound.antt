-- The normal form of an expression has its value.
use Rattle.std.proofs.Common.{◌≡◌, ℕ, zero, suc, ◌+◌, ◌*◌, Bool, true, false, ◌&&◌, eqb, ltb, List, refl, sym, ap, ap₂, ◌∙◌, eqb-true, arith, add-suc, add-zero, mul-zero}
use Rattle.p3_theory.specs.Rings.Ring.{Ops, RingLaws, Ring, ring_of}
use Rattle.p3_theory.specs.Rings.Basics as Basics
use Rattle.p3_theory.specs.RingSolver.Solver.{Expr, ◌⊕◌, ◌⊗◌, ⊝◌, ◌⊖◌, V, K, Poly, C, X, at, nat, eval, node, add_const, add_node, add_poly, neg_poly, scale, mul_var, mul_poly, norm, is_zero, same}

pub and_true : (a b : Bool) → a && b ≡ true → (a ≡ true) × (b ≡ true)
and_true true true h = (refl, refl)
and_true true false h = (refl, h)
and_true false true h = (h, refl)
and_true false false h = (h, h)

module _ {A : Type 0} (o : Ops A) (L : RingLaws o) where
  open o use {zero as 𝟎, one as 𝟏, add, neg, mul}
  open L use {add_assoc, add_comm, add_zero, add_neg, mul_assoc, mul_comm, mul_one, mul_add}

  abbrev R : Ring A
  R = ring_of L

  expand : (p q r s : A) → mul (add p (neg q)) (add r (neg s)) ≡ add (add (mul p r) (mul q s)) (add (neg (mul p s)) (neg (mul q r)))
  expand p q r s =
      let add-mul : (x y z : A) → mul (add x y) z ≡ add (mul x z) (mul y z) = Basics.add-mul R in
      let mul-neg : (x y : A) → mul x (neg y) ≡ neg (mul x y) = Basics.mul-neg R in
      let neg-mul : (x y : A) → mul (neg x) y ≡ neg (mul x y) = Basics.neg-mul R in
      let neg-neg : (x : A) → neg (neg x) ≡ x = Basics.neg-neg R in
      let add_left_comm : (x y z : A) → add x (add y z) ≡ add y (add x z) = Basics.add_left_comm R in
      simp (mul_add, add-mul, mul-neg, neg-mul, neg-neg, add_assoc, add_comm, add_left_comm)

  nat_suc : (n : ℕ) → nat o (suc n) ≡ add (nat o n) 𝟏
  nat_suc zero = sym (Basics.zero-add R 𝟏)
  nat_suc (suc n) = refl

  nat_add : (m n : ℕ) → nat o (m + n) ≡ add (nat o m) (nat o n)
  nat_add m zero = ap (nat o) (add-zero m) ∙ sym (add_zero (nat o m))
  nat_add m (suc n) =
      ap (nat o) (add-suc m n) ∙ nat_suc (m + n) ∙ ap (λ w. add w 𝟏) (nat_add m n) ∙ add_assoc (nat o m) (nat o n) 𝟏 ∙ ap (add (nat o m)) (sym (nat_suc n))

  nat_mul : (m n : ℕ) → nat o (m * n) ≡ mul (nat o m) (nat o n)
  nat_mul m zero = ap (nat o) (mul-zero m) ∙ sym (Basics.mul-zero R (nat o m))
  nat_mul m (suc n) =
      (let e : m * suc n ≡ m * n + m = omega arith in ap (nat o) e) ∙ nat_add (m * n) m ∙ ap₂ add (nat_mul m n) (sym (mul_one (nat o m))) ∙ sym (mul_add (nat o m) (nat o n) 𝟏) ∙ ap (mul (nat o m)) (sym (nat_suc n))

  -- the value of the constant a - b
  con : ℕ → ℕ → A
  con a b = add (nat o a) (neg (nat o b))

  con_add : (a b c d : ℕ) → con (a + c) (b + d) ≡ add (con a b) (con c d)
  unfolding con
  con_add a b c d =
      ap₂ add (nat_add a c) (ap neg (nat_add b d) ∙ Basics.neg-add R (nat o b) (nat o d)) ∙ Basics.swap_four R (nat o a) (nat o c) (neg (nat o b)) (neg (nat o d))

  con_neg : (a b : ℕ) → con b a ≡ neg (con a b)
  unfolding con
  con_neg a b =
      add_comm (nat o b) (neg (nat o a)) ∙ ap (add (neg (nat o a))) (sym (Basics.neg-neg R (nat o b))) ∙ sym (Basics.neg-add R (nat o a) (neg (nat o b)))

  con_mul : (a b c d : ℕ) → con (a * c + b * d) (a * d + b * c) ≡ mul (con a b) (con c d)
  unfolding con
  con_mul a b c d =
      ap₂ add (nat_add (a * c) (b * d) ∙ ap₂ add (nat_mul a c) (nat_mul b d)) (ap neg (nat_add (a * d) (b * c)) ∙ Basics.neg-add R (nat o (a * d)) (nat o (b * c)) ∙ ap₂ (λ x y. add (neg x) (neg y)) (nat_mul a d) (nat_mul b c)) ∙ sym (expand (nat o a) (nat o b) (nat o c) (nat o d))

  con_zero : (a b : ℕ) → a ≡ b → con a b ≡ 𝟎
  unfolding con
  con_zero a b e = ap (λ w. add (nat o a) (neg (nat o w))) (sym e) ∙ add_neg (nat o a)

  con_zero' : con 0 0 ≡ 𝟎
  con_zero' = con_zero 0 0 refl

  con_nat : (n : ℕ) → con n 0 ≡ nat o n
  unfolding con
  con_nat n = ap (add (nat o n)) (Basics.neg-zero R) ∙ add_zero (nat o n)

  -- the value of a polynomial
  abbrev value : List A → Poly → A
  value env (C a b) = con a b
  value env (X i p q) = add (mul (at 𝟎 env i) (value env p)) (value env q)

  value-node : (env : List A) (i : ℕ) (p q : Poly) → value env (node i p q) ≡ add (mul (at 𝟎 env i) (value env p)) (value env q)
  value-node env i (X j r s) q = refl
  value-node env i (C a b) q = go (eqb a b) refl
    where
      go : (t : Bool) → eqb a b ≡ t → value env (elim t [ true ↦ q | false ↦ X i (C a b) q ]) ≡ add (mul (at 𝟎 env i) (con a b)) (value env q)
      go false e = refl
      go true e =
          sym (ap (λ w. add (mul (at 𝟎 env i) w) (value env q)) (con_zero a b (eqb-true a b e)) ∙ Basics.add_from_zero R _ (value env q) (Basics.mul-zero R (at 𝟎 env i)))

  value-add_const : (env : List A) (a b : ℕ) (g : Poly) → value env (add_const a b g) ≡ add (con a b) (value env g)
  value-add_const env a b (C c d) = con_add a b c d
  value-add_const env a b (X j r s) =
      ap (add (mul (at 𝟎 env j) (value env r))) (value-add_const env a b s) ∙ Basics.add_left_comm R (mul (at 𝟎 env j) (value env r)) (con a b) (value env s)

  value-add_node : (env : List A) (fp fq : Poly → Poly) (i : ℕ) (p q : Poly) → ((g : Poly) → value env (fp g) ≡ add (value env p) (value env g)) → ((g : Poly) → value env (fq g) ≡ add (value env q) (value env g)) → (g : Poly) → value env (add_node fp fq i p q g) ≡ add (value env (X i p q)) (value env g)
  value-add_node env fp fq i p q hp hq (C a b) =
      ap (add (mul (at 𝟎 env i) (value env p))) (hq (C a b)) ∙ sym (add_assoc (mul (at 𝟎 env i) (value env p)) (value env q) (con a b))
  value-add_node env fp fq i p q hp hq (X j r s) =
      same_var (eqb i j) refl (value-add_node env fp fq i p q hp hq s)
    where
      less_var : (t : Bool) → value env (add_node fp fq i p q s) ≡ add (value env (X i p q)) (value env s) → value env (elim t [ true ↦ X i p (fq (X j r s)) | false ↦ X j r (add_node fp fq i p q s) ]) ≡ add (value env (X i p q)) (value env (X j r s))
      less_var true h =
          ap (add (mul (at 𝟎 env i) (value env p))) (hq (X j r s)) ∙ sym (add_assoc (mul (at 𝟎 env i) (value env p)) (value env q) (value env (X j r s)))
      less_var false h =
          ap (add (mul (at 𝟎 env j) (value env r))) h ∙ Basics.add_left_comm R (mul (at 𝟎 env j) (value env r)) (value env (X i p q)) (value env s)

      same_var : (t : Bool) → eqb i j ≡ t → value env (add_node fp fq i p q s) ≡ add (value env (X i p q)) (value env s) → value env (elim t [ true ↦ node i (fp r) (fq s) | false ↦ elim (ltb i j) [ true ↦ X i p (fq (X j r s)) | false ↦ X j r (add_node fp fq i p q s) ] ]) ≡ add (value env (X i p q)) (value env (X j r s))
      same_var false e h = less_var (ltb i j) h
      same_var true e h =
          value-node env i (fp r) (fq s) ∙ ap₂ (λ u v. add (mul (at 𝟎 env i) u) v) (hp r) (hq s) ∙ ap (λ u. add u (add (value env q) (value env s))) (mul_add (at 𝟎 env i) (value env p) (value env r)) ∙ ap (λ k. add (add (mul (at 𝟎 env i) (value env p)) (mul (at 𝟎 env k) (value env r))) (add (value env q) (value env s))) (eqb-true i j e) ∙ Basics.swap_four R (mul (at 𝟎 env i) (value env p)) (mul (at 𝟎 env j) (value env r)) (value env q) (value env s)

  value-add : (env : List A) (p g : Poly) → value env (add_poly p g) ≡ add (value env p) (value env g)
  value-add env (C a b) g = value-add_const env a b g
  value-add env (X i p q) g =
      value-add_node env (add_poly p) (add_poly q) i p q (value-add env p) (value-add env q) g

  value-neg : (env : List A) (p : Poly) → value env (neg_poly p) ≡ neg (value env p)
  value-neg env (C a b) = con_neg a b
  value-neg env (X i p q) =
      ap₂ (λ u v. add (mul (at 𝟎 env i) u) v) (value-neg env p) (value-neg env q) ∙ ap (λ u. add u (neg (value env q))) (Basics.mul-neg R (at 𝟎 env i) (value env p)) ∙ sym (Basics.neg-add R (mul (at 𝟎 env i) (value env p)) (value env q))

  value-scale : (env : List A) (a b : ℕ) (p : Poly) → value env (scale a b p) ≡ mul (con a b) (value env p)
  value-scale env a b (C c d) = con_mul a b c d
  value-scale env a b (X i p q) =
      ap₂ (λ u v. add (mul (at 𝟎 env i) u) v) (value-scale env a b p) (value-scale env a b q) ∙ ap (λ u. add u (mul (con a b) (value env q))) (Basics.mul_left_comm R (at 𝟎 env i) (con a b) (value env p)) ∙ sym (mul_add (con a b) (mul (at 𝟎 env i) (value env p)) (value env q))

  value-mul_var : (env : List A) (i : ℕ) (p : Poly) → value env (mul_var i p) ≡ mul (at 𝟎 env i) (value env p)
  value-mul_var env i (C a b) =
      value-node env i (C a b) (C 0 0) ∙ ap (add (mul (at 𝟎 env i) (con a b))) con_zero' ∙ add_zero (mul (at 𝟎 env i) (con a b))
  value-mul_var env i (X j r s) =
      go (ltb j i) (value-mul_var env i r) (value-mul_var env i s)
    where
      go : (t : Bool) → value env (mul_var i r) ≡ mul (at 𝟎 env i) (value env r) → value env (mul_var i s) ≡ mul (at 𝟎 env i) (value env s) → value env (elim t [ true ↦ X j (mul_var i r) (mul_var i s) | false ↦ X i (X j r s) (C 0 0) ]) ≡ mul (at 𝟎 env i) (value env (X j r s))
      go true hr hs =
          ap₂ (λ u v. add (mul (at 𝟎 env j) u) v) hr hs ∙ ap (λ u. add u (mul (at 𝟎 env i) (value env s))) (Basics.mul_left_comm R (at 𝟎 env j) (at 𝟎 env i) (value env r)) ∙ sym (mul_add (at 𝟎 env i) (mul (at 𝟎 env j) (value env r)) (value env s))
      go false hr hs =
          ap (add (mul (at 𝟎 env i) (value env (X j r s)))) con_zero' ∙ add_zero (mul (at 𝟎 env i) (value env (X j r s)))

  value-mul : (env : List A) (p g : Poly) → value env (mul_poly p g) ≡ mul (value env p) (value env g)
  value-mul env (C a b) g = go (eqb a b) refl
    where
      go : (t : Bool) → eqb a b ≡ t → value env (elim t [ true ↦ C 0 0 | false ↦ scale a b g ]) ≡ mul (con a b) (value env g)
      go false e = value-scale env a b g
      go true e =
          con_zero' ∙ sym (Basics.zero-mul R (value env g)) ∙ sym (ap (λ u. mul u (value env g)) (con_zero a b (eqb-true a b e)))
  value-mul env (X i p q) g =
      value-add env (mul_var i (mul_poly p g)) (mul_poly q g) ∙ ap₂ add (value-mul_var env i (mul_poly p g) ∙ ap (mul (at 𝟎 env i)) (value-mul env p g) ∙ sym (mul_assoc (at 𝟎 env i) (value env p) (value env g))) (value-mul env q g) ∙ sym (Basics.add-mul R (mul (at 𝟎 env i) (value env p)) (value env q) (value env g))

  value-norm : (env : List A) (e : Expr) → value env (norm e) ≡ eval o env e
  value-norm env (V i) =
      ap₂ (λ u v. add (mul (at 𝟎 env i) u) v) (con_nat 1) con_zero' ∙ add_zero (mul (at 𝟎 env i) 𝟏) ∙ mul_one (at 𝟎 env i)
  value-norm env (K n) = con_nat n
  value-norm env (a ⊕ b) = value-add env (norm a) (norm b) ∙ ap₂ add (value-norm env a) (value-norm env b)
  value-norm env (a ⊗ b) = value-mul env (norm a) (norm b) ∙ ap₂ mul (value-norm env a) (value-norm env b)
  value-norm env (⊝ a) = value-neg env (norm a) ∙ ap neg (value-norm env a)

  value-zero : (env : List A) (p : Poly) → is_zero p ≡ true → value env p ≡ 𝟎
  value-zero env (C a b) h = con_zero a b (eqb-true a b h)
  value-zero env (X i p q) h =
      let b = and_true (is_zero p) (is_zero q) h in
      ap₂ (λ u v. add (mul (at 𝟎 env i) u) v) (value-zero env p b.0) (value-zero env q b.1) ∙ add_zero (mul (at 𝟎 env i) 𝟎) ∙ Basics.mul-zero R (at 𝟎 env i)

  -- two expressions with one normal form have one value
  pub ring_eq : (a b : Expr) (env : List A) → same a b ≡ true → eval o env a ≡ eval o env b
  ring_eq a b env h =
      let both : add (eval o env a) (neg (eval o env b)) ≡ add (eval o env b) (neg (eval o env b)) =
      sym (value-norm env (a ⊖ b)) ∙ value-zero env (norm (a ⊖ b)) h ∙ sym (add_neg (eval o env b)) in
      Basics.cancel R (neg (eval o env b)) (eval o env a) (eval o env b) (add_comm _ _ ∙ both ∙ add_comm _ _)
