-- Inverses modulo X^4 = w and X^8 = w, from the norm of their halves.
use Rattle.std.proofs.Common.{◌≡◌, ◌+◌, ℕ, suc, List, [], ◌∷◌, length, refl, sym, ap, ap₂, ◌∙◌}
use Rattle.p3_theory.specs.Rings.Ring.{Ops, Ring, subtract}
use Rattle.p3_theory.specs.Polynomials.Polynomial.{at, convolution, quotient_mul, quotient_add, quotient_neg, binomial, embed}
use Rattle.p3_theory.specs.Lists.ByIndex.{to-tabulate, length-remainder}
use Rattle.p3_theory.specs.RingSolver.Solver.{Expr, V, free}
use Rattle.p3_theory.specs.RingSolver.Formula.{by_ring}
use Rattle.p3_theory.specs.Inverses.EvenOdd.{interleave, HalvesAt, norm_by_halves, halves_at_two, halves_at_four, halves_found, halves_exact}
use Rattle.p3_theory.specs.Inverses.ListInverses.{HasNoInverse}

module _ {A : Type 0} (O : Ops A) where
  -- a less Y * b, modulo Y^4 = w
  abbrev pub less_shifted : A → List A → List A → List A
  less_shifted w a b =
      subtract O (at O a 0) (O.mul w (at O b 3)) ∷ subtract O (at O a 1) (at O b 0) ∷ subtract O (at O a 2) (at O b 1) ∷ subtract O (at O a 3) (at O b 2) ∷ []

module _ {A : Type 0} (R : Ring A) (w : A) where
  less_shifted_is : (e0 e1 e2 e3 o0 o1 o2 o3 : A) → less_shifted R.ops w (e0 ∷ e1 ∷ e2 ∷ e3 ∷ []) (o0 ∷ o1 ∷ o2 ∷ o3 ∷ [])
      ≡ quotient_add R.ops 4 (e0 ∷ e1 ∷ e2 ∷ e3 ∷ [])
      (quotient_neg R.ops 4 (quotient_mul R.ops 4 (binomial R.ops 4 w) (R.zero ∷ R.one ∷ R.zero ∷ R.zero ∷ []) (o0 ∷ o1 ∷ o2 ∷ o3 ∷ [])))
  less_shifted_is e0 e1 e2 e3 o0 o1 o2 o3 =
      let e : List Expr = V 0 ∷ V 1 ∷ V 2 ∷ V 3 ∷ [] in
      let o : List Expr = V 4 ∷ V 5 ∷ V 6 ∷ V 7 ∷ [] in
      by_ring R (e0 ∷ e1 ∷ e2 ∷ e3 ∷ o0 ∷ o1 ∷ o2 ∷ o3 ∷ w ∷ []) (less_shifted free (V 8) e o)
      (quotient_add free 4 e (quotient_neg free 4 (quotient_mul free 4 (binomial free 4 (V 8)) (free.zero ∷ free.one ∷ free.zero ∷ free.zero ∷ []) o))) refl

  -- the norm of even indices p and odd ones q, modulo Y^4 = w, from their squares
  octic_norm_is : (p q e o n : List A) → e ≡ quotient_mul R.ops 4 (binomial R.ops 4 w) p p → o ≡ quotient_mul R.ops 4 (binomial R.ops 4 w) q q
      → n ≡ less_shifted R.ops w e o → n ≡ norm_by_halves R.ops 4 w (R.zero ∷ R.one ∷ R.zero ∷ R.zero ∷ []) p q
  octic_norm_is p q e o n ee eo en =
      let f : List A = binomial R.ops 4 w in
      let x = at R.ops (quotient_mul R.ops 4 f p p) in
      let y = at R.ops (quotient_mul R.ops 4 f q q) in
      let ex = ee ∙ to-tabulate R.zero 4 x (quotient_mul R.ops 4 f p p) (length-remainder R.ops 4 f (convolution R.ops p p)) (λ k lt. refl) in
      let ey = eo ∙ to-tabulate R.zero 4 y (quotient_mul R.ops 4 f q q) (length-remainder R.ops 4 f (convolution R.ops q q)) (λ k lt. refl) in
      en ∙ (λ i. less_shifted R.ops w (ex i) (ey i)) ∙ less_shifted_is (x 0) (x 1) (x 2) (x 3) (y 0) (y 1) (y 2) (y 3)
      ∙ sym (λ i. quotient_add R.ops 4 (ex i) (quotient_neg R.ops 4 (quotient_mul R.ops 4 f (R.zero ∷ R.one ∷ R.zero ∷ R.zero ∷ []) (ey i))))
      ∙ (λ i. quotient_add R.ops 4 (ee i) (quotient_neg R.ops 4 (quotient_mul R.ops 4 f (R.zero ∷ R.one ∷ R.zero ∷ R.zero ∷ []) (eo i))))

  module _ (d : ℕ) (u : List A) (lu : length u ≡ suc d) (split : HalvesAt R w (suc d) u)
      (one : interleave (embed R.ops (suc d) R.one) (embed R.ops (suc d) R.zero) ≡ embed R.ops (suc d + suc d) R.one)
      (a p q n : List A) (lp : length p ≡ suc d) (lq : length q ≡ suc d) (ea : a ≡ interleave p q) (en : n ≡ norm_by_halves R.ops (suc d) w u p q) where
    abbrev f : List A
    f = binomial R.ops (suc d) w

    -- the conjugate divided by the norm is an inverse
    found_by_halves : (v even odd r : List A) → length v ≡ suc d → quotient_mul R.ops (suc d) f n v ≡ embed R.ops (suc d) R.one
        → even ≡ quotient_mul R.ops (suc d) f p v → odd ≡ quotient_mul R.ops (suc d) f q v → r ≡ interleave even (quotient_neg R.ops (suc d) odd)
        → quotient_mul R.ops (suc d + suc d) (binomial R.ops (suc d + suc d) w) a r ≡ embed R.ops (suc d + suc d) R.one
    found_by_halves v even odd r lv e ee eo er =
        ap₂ (quotient_mul R.ops (suc d + suc d) (binomial R.ops (suc d + suc d) w)) ea
        (er ∙ (λ i. interleave (ee i) (quotient_neg R.ops (suc d) (eo i))))
        ∙ halves_found R w d u p q lu lp lq split one v lv (ap (λ z. quotient_mul R.ops (suc d) f z v) (sym en) ∙ e)

    -- a value whose norm has no inverse has none
    absent_by_halves : HasNoInverse R.ops (suc d) f n → HasNoInverse R.ops (suc d + suc d) (binomial R.ops (suc d + suc d) w) a
    absent_by_halves none y ly e =
        let r = halves_exact R w d u p q lu lp lq split one y ly
        (ap (λ z. quotient_mul R.ops (suc d + suc d) (binomial R.ops (suc d + suc d) w) z y) (sym ea) ∙ e) in
        none r.0 r.1 (ap (λ z. quotient_mul R.ops (suc d) f z r.0) en ∙ r.2)

  module _ (a n : List A) (a0 a1 a2 a3 : A) (ea : a ≡ a0 ∷ a1 ∷ a2 ∷ a3 ∷ []) (en : n ≡ norm_by_halves R.ops 2 w (R.zero ∷ R.one ∷ []) (a0 ∷ a2 ∷ []) (a1 ∷ a3 ∷ [])) where
    abbrev f2 : List A
    f2 = binomial R.ops 2 w

    pub quartic_inverse : (v even odd r : List A) → length v ≡ 2 → quotient_mul R.ops 2 f2 n v ≡ embed R.ops 2 R.one
        → even ≡ quotient_mul R.ops 2 f2 (a0 ∷ a2 ∷ []) v → odd ≡ quotient_mul R.ops 2 f2 (a1 ∷ a3 ∷ []) v
        → r ≡ interleave even (quotient_neg R.ops 2 odd) → quotient_mul R.ops 4 (binomial R.ops 4 w) a r ≡ embed R.ops 4 R.one
    quartic_inverse =
        found_by_halves 1 (R.zero ∷ R.one ∷ []) refl (halves_at_two R w) refl a (a0 ∷ a2 ∷ []) (a1 ∷ a3 ∷ []) n refl refl ea en

    pub quartic_absent : HasNoInverse R.ops 2 f2 n → HasNoInverse R.ops 4 (binomial R.ops 4 w) a
    quartic_absent =
        absent_by_halves 1 (R.zero ∷ R.one ∷ []) refl (halves_at_two R w) refl a (a0 ∷ a2 ∷ []) (a1 ∷ a3 ∷ []) n refl refl ea en

  module _ (a n : List A) (a0 a1 a2 a3 a4 a5 a6 a7 : A) (ea : a ≡ a0 ∷ a1 ∷ a2 ∷ a3 ∷ a4 ∷ a5 ∷ a6 ∷ a7 ∷ []) (e o : List A)
      (ee : e ≡ quotient_mul R.ops 4 (binomial R.ops 4 w) (a0 ∷ a2 ∷ a4 ∷ a6 ∷ []) (a0 ∷ a2 ∷ a4 ∷ a6 ∷ []))
      (eo : o ≡ quotient_mul R.ops 4 (binomial R.ops 4 w) (a1 ∷ a3 ∷ a5 ∷ a7 ∷ []) (a1 ∷ a3 ∷ a5 ∷ a7 ∷ [])) (en : n ≡ less_shifted R.ops w e o) where
    abbrev f4 : List A
    f4 = binomial R.ops 4 w

    abbrev p4 : List A
    p4 = a0 ∷ a2 ∷ a4 ∷ a6 ∷ []

    abbrev q4 : List A
    q4 = a1 ∷ a3 ∷ a5 ∷ a7 ∷ []

    pub octic_inverse : (v even odd r : List A) → length v ≡ 4 → quotient_mul R.ops 4 f4 n v ≡ embed R.ops 4 R.one
        → even ≡ quotient_mul R.ops 4 f4 p4 v → odd ≡ quotient_mul R.ops 4 f4 q4 v
        → r ≡ interleave even (quotient_neg R.ops 4 odd) → quotient_mul R.ops 8 (binomial R.ops 8 w) a r ≡ embed R.ops 8 R.one
    octic_inverse =
        found_by_halves 3 (R.zero ∷ R.one ∷ R.zero ∷ R.zero ∷ []) refl (halves_at_four R w) refl a p4 q4 n refl refl ea (octic_norm_is p4 q4 e o n ee eo en)

    pub octic_absent : HasNoInverse R.ops 4 f4 n → HasNoInverse R.ops 8 (binomial R.ops 8 w) a
    octic_absent =
        absent_by_halves 3 (R.zero ∷ R.one ∷ R.zero ∷ R.zero ∷ []) refl (halves_at_four R w) refl a p4 q4 n refl refl ea (octic_norm_is p4 q4 e o n ee eo en)
