-- Values modulo X^(2h) = w as pairs of values modulo Y^h = w, with X * X = Y: h of 2 and of 4.
use Rattle.std.proofs.Common.{◌≡◌, ◌+◌, ℕ, zero, suc, List, [], ◌∷◌, length, refl, sym, ap, ap₂, ◌∙◌, arith}
use Rattle.p3_theory.specs.Rings.Ring.{Ops, Ring}
use Rattle.p3_theory.specs.Lists.ByIndex.{to-tabulate}
use Rattle.p3_theory.specs.Polynomials.Polynomial.{tabulate, at, quotient_mul, quotient_add, quotient_neg, binomial, embed, IsMonic}
use Rattle.p3_theory.specs.RingSolver.Solver.{V, free}
use Rattle.p3_theory.specs.RingSolver.Formula.{by_ring}
use Rattle.p3_theory.specs.FrobeniusMaps.BinomialFrobenius.{binomial_monic}
use Rattle.p3_theory.specs.Polynomials.QuotientRing.{Ext, extension, Ext-path, length-mul, length-neg}
use Rattle.p3_theory.specs.Inverses.QuadraticTower.{pair_low, pair_high, pair_norm, pair_found, pair_exact, high_is_zero}

module _ {A : Type 0} where
  -- the items of two lists in turn
  abbrev pub interleave : List A → List A → List A
  interleave [] ys = []
  interleave (x ∷ xs) [] = []
  interleave (x ∷ xs) (y ∷ ys) = x ∷ y ∷ interleave xs ys

  -- the items at even indices, and at odd ones
  abbrev pub evens : List A → List A
  evens [] = []
  evens (x ∷ []) = x ∷ []
  evens (x ∷ y ∷ l) = x ∷ evens l

  -- the entries at odd indices
  abbrev pub odds : List A → List A
  odds [] = []
  odds (x ∷ []) = []
  odds (x ∷ y ∷ l) = y ∷ odds l

  evens-interleave : (xs ys : List A) → length xs ≡ length ys → evens (interleave xs ys) ≡ xs
  evens-interleave [] ys h = refl
  evens-interleave (x ∷ xs) [] h = absurd (omega arith)
  evens-interleave (x ∷ xs) (y ∷ ys) h = let e : length xs ≡ length ys = omega arith in ap (λ l. x ∷ l) (evens-interleave xs ys e)

  odds-interleave : (xs ys : List A) → length xs ≡ length ys → odds (interleave xs ys) ≡ ys
  odds-interleave [] [] h = refl
  odds-interleave [] (y ∷ ys) h = absurd (omega arith)
  odds-interleave (x ∷ xs) [] h = absurd (omega arith)
  odds-interleave (x ∷ xs) (y ∷ ys) h = let e : length xs ≡ length ys = omega arith in ap (λ l. y ∷ l) (odds-interleave xs ys e)

  halves : (n : ℕ) (l : List A) → length l ≡ n + n → (length (evens l) ≡ n) × (length (odds l) ≡ n) × (interleave (evens l) (odds l) ≡ l)
  halves zero [] h = (refl, refl, refl)
  halves zero (x ∷ l) h = absurd (omega arith)
  halves (suc n) [] h = absurd (omega arith)
  halves (suc n) (x ∷ []) h = absurd (omega arith)
  halves (suc n) (x ∷ y ∷ l) h =
      let e : length l ≡ n + n = omega arith in
      let r = halves n l e in
      (ap suc r.0, ap suc r.1, ap (λ z. x ∷ y ∷ z) r.2)

module _ {A : Type 0} (O : Ops A) where
  -- the product by halves, where u is Y
  abbrev pub product_by_halves : ℕ → A → List A → List A → List A → List A → List A → List A
  product_by_halves h w u p q r s =
      interleave
      (quotient_add O h (quotient_mul O h (binomial O h w) p r) (quotient_mul O h (binomial O h w) u (quotient_mul O h (binomial O h w) q s)))
      (quotient_add O h (quotient_mul O h (binomial O h w) p s) (quotient_mul O h (binomial O h w) q r))

  -- the norm of p + q * X, modulo Y^h = w
  abbrev pub norm_by_halves : ℕ → A → List A → List A → List A → List A
  norm_by_halves h w u p q =
      let f : List A = binomial O h w in
      quotient_add O h (quotient_mul O h f p p) (quotient_neg O h (quotient_mul O h f u (quotient_mul O h f q q)))

module _ {A : Type 0} (R : Ring A) (w : A) where
  -- the product modulo X^(2 h) - w of two lists whose even and odd entries are given, by products modulo Y^h - w
  abbrev pub HalvesAt : ℕ → List A → Type 0
  HalvesAt h u = (p q r s : List A) → length p ≡ h → length q ≡ h → length r ≡ h → length s ≡ h
      → quotient_mul R.ops (h + h) (binomial R.ops (h + h) w) (interleave p q) (interleave r s) ≡ product_by_halves R.ops h w u p q r s

  listed : (n : ℕ) (l : List A) → length l ≡ n → l ≡ tabulate n (at R.ops l)
  listed n l h = to-tabulate R.zero n (at R.ops l) l h (λ k lt. refl)

  quartic_by_halves : (a0 a1 a2 a3 b0 b1 b2 b3 : A) → quotient_mul R.ops 4 (binomial R.ops 4 w) (a0 ∷ a1 ∷ a2 ∷ a3 ∷ []) (b0 ∷ b1 ∷ b2 ∷ b3 ∷ [])
      ≡ product_by_halves R.ops 2 w (R.zero ∷ R.one ∷ []) (a0 ∷ a2 ∷ []) (a1 ∷ a3 ∷ []) (b0 ∷ b2 ∷ []) (b1 ∷ b3 ∷ [])
  quartic_by_halves a0 a1 a2 a3 b0 b1 b2 b3 =
      by_ring R (a0 ∷ a1 ∷ a2 ∷ a3 ∷ b0 ∷ b1 ∷ b2 ∷ b3 ∷ w ∷ [])
      (quotient_mul free 4 (binomial free 4 (V 8)) (V 0 ∷ V 1 ∷ V 2 ∷ V 3 ∷ []) (V 4 ∷ V 5 ∷ V 6 ∷ V 7 ∷ []))
      (product_by_halves free 2 (V 8) (free.zero ∷ free.one ∷ []) (V 0 ∷ V 2 ∷ []) (V 1 ∷ V 3 ∷ []) (V 4 ∷ V 6 ∷ []) (V 5 ∷ V 7 ∷ [])) refl

  octic_by_halves : (a0 a1 a2 a3 a4 a5 a6 a7 b0 b1 b2 b3 b4 b5 b6 b7 : A)
      → quotient_mul R.ops 8 (binomial R.ops 8 w) (a0 ∷ a1 ∷ a2 ∷ a3 ∷ a4 ∷ a5 ∷ a6 ∷ a7 ∷ []) (b0 ∷ b1 ∷ b2 ∷ b3 ∷ b4 ∷ b5 ∷ b6 ∷ b7 ∷ [])
      ≡ product_by_halves R.ops 4 w (R.zero ∷ R.one ∷ R.zero ∷ R.zero ∷ []) (a0 ∷ a2 ∷ a4 ∷ a6 ∷ []) (a1 ∷ a3 ∷ a5 ∷ a7 ∷ []) (b0 ∷ b2 ∷ b4 ∷ b6 ∷ []) (b1 ∷ b3 ∷ b5 ∷ b7 ∷ [])
  octic_by_halves a0 a1 a2 a3 a4 a5 a6 a7 b0 b1 b2 b3 b4 b5 b6 b7 =
      by_ring R (a0 ∷ a1 ∷ a2 ∷ a3 ∷ a4 ∷ a5 ∷ a6 ∷ a7 ∷ b0 ∷ b1 ∷ b2 ∷ b3 ∷ b4 ∷ b5 ∷ b6 ∷ b7 ∷ w ∷ [])
      (quotient_mul free 8 (binomial free 8 (V 16)) (V 0 ∷ V 1 ∷ V 2 ∷ V 3 ∷ V 4 ∷ V 5 ∷ V 6 ∷ V 7 ∷ []) (V 8 ∷ V 9 ∷ V 10 ∷ V 11 ∷ V 12 ∷ V 13 ∷ V 14 ∷ V 15 ∷ []))
      (product_by_halves free 4 (V 16) (free.zero ∷ free.one ∷ free.zero ∷ free.zero ∷ []) (V 0 ∷ V 2 ∷ V 4 ∷ V 6 ∷ []) (V 1 ∷ V 3 ∷ V 5 ∷ V 7 ∷ [])
      (V 8 ∷ V 10 ∷ V 12 ∷ V 14 ∷ []) (V 9 ∷ V 11 ∷ V 13 ∷ V 15 ∷ [])) refl

  pub halves_at_two : HalvesAt 2 (R.zero ∷ R.one ∷ [])
  halves_at_two p q r s lp lq lr ls =
      let a = at R.ops p in
      let b = at R.ops q in
      let c = at R.ops r in
      let d = at R.ops s in
      let ep : p ≡ a 0 ∷ a 1 ∷ [] = listed 2 p lp in
      let eq : q ≡ b 0 ∷ b 1 ∷ [] = listed 2 q lq in
      let er : r ≡ c 0 ∷ c 1 ∷ [] = listed 2 r lr in
      let es : s ≡ d 0 ∷ d 1 ∷ [] = listed 2 s ls in
      (λ i. quotient_mul R.ops 4 (binomial R.ops 4 w) (interleave (ep i) (eq i)) (interleave (er i) (es i)))
      ∙ quartic_by_halves (a 0) (b 0) (a 1) (b 1) (c 0) (d 0) (c 1) (d 1)
      ∙ sym (λ i. product_by_halves R.ops 2 w (R.zero ∷ R.one ∷ []) (ep i) (eq i) (er i) (es i))

  pub halves_at_four : HalvesAt 4 (R.zero ∷ R.one ∷ R.zero ∷ R.zero ∷ [])
  halves_at_four p q r s lp lq lr ls =
      let a = at R.ops p in
      let b = at R.ops q in
      let c = at R.ops r in
      let d = at R.ops s in
      let ep : p ≡ a 0 ∷ a 1 ∷ a 2 ∷ a 3 ∷ [] = listed 4 p lp in
      let eq : q ≡ b 0 ∷ b 1 ∷ b 2 ∷ b 3 ∷ [] = listed 4 q lq in
      let er : r ≡ c 0 ∷ c 1 ∷ c 2 ∷ c 3 ∷ [] = listed 4 r lr in
      let es : s ≡ d 0 ∷ d 1 ∷ d 2 ∷ d 3 ∷ [] = listed 4 s ls in
      (λ i. quotient_mul R.ops 8 (binomial R.ops 8 w) (interleave (ep i) (eq i)) (interleave (er i) (es i)))
      ∙ octic_by_halves (a 0) (b 0) (a 1) (b 1) (a 2) (b 2) (a 3) (b 3) (c 0) (d 0) (c 1) (d 1) (c 2) (d 2) (c 3) (d 3)
      ∙ sym (λ i. product_by_halves R.ops 4 w (R.zero ∷ R.one ∷ R.zero ∷ R.zero ∷ []) (ep i) (eq i) (er i) (es i))

  module _ (d : ℕ) (u p q : List A) (lu : length u ≡ suc d) (lp : length p ≡ suc d) (lq : length q ≡ suc d) (split : HalvesAt (suc d) u)
      (one : interleave (embed R.ops (suc d) R.one) (embed R.ops (suc d) R.zero) ≡ embed R.ops (suc d + suc d) R.one) where
    abbrev f : List A
    f = binomial R.ops (suc d) w

    abbrev m : IsMonic R.ops (suc d) f
    m = binomial_monic R d w

    abbrev E : Ring (Ext R d f m)
    E = extension R d f m

    -- the conjugate divided by the norm is an inverse
    pub halves_found : (v : List A) → length v ≡ suc d → quotient_mul R.ops (suc d) f (norm_by_halves R.ops (suc d) w u p q) v ≡ embed R.ops (suc d) R.one
        → quotient_mul R.ops (suc d + suc d) (binomial R.ops (suc d + suc d) w) (interleave p q)
        (interleave (quotient_mul R.ops (suc d) f p v) (quotient_neg R.ops (suc d) (quotient_mul R.ops (suc d) f q v))) ≡ embed R.ops (suc d + suc d) R.one
    halves_found v lv e =
        split p q (quotient_mul R.ops (suc d) f p v) (quotient_neg R.ops (suc d) (quotient_mul R.ops (suc d) f q v)) lp lq
        (length-mul R d f m p v) (length-neg R d f m (quotient_mul R.ops (suc d) f q v))
        ∙ ap₂ interleave
        (ap (λ z. z.0) (pair_found E (u, lu) (p, lp) (q, lq) (v, lv) (Ext-path R d f m _ _ e)))
        (ap (λ z. z.0) (high_is_zero E (u, lu) (p, lp) (q, lq) (v, lv)))
        ∙ one

    -- the norm of what has an inverse has one
    pub halves_exact : (b : List A) → length b ≡ suc d + suc d
        → quotient_mul R.ops (suc d + suc d) (binomial R.ops (suc d + suc d) w) (interleave p q) b ≡ embed R.ops (suc d + suc d) R.one
        → (v : List A) × (length v ≡ suc d) × (quotient_mul R.ops (suc d) f (norm_by_halves R.ops (suc d) w u p q) v ≡ embed R.ops (suc d) R.one)
    halves_exact b lb e =
        let t = halves (suc d) b lb in
        let r : Ext R d f m = (evens b, t.0) in
        let s : Ext R d f m = (odds b, t.1) in
        let low : Ext R d f m = pair_low E.ops (u, lu) (p, lp) (q, lq) r s in
        let high : Ext R d f m = pair_high E.ops (u, lu) (p, lp) (q, lq) r s in
        let both : interleave low.0 high.0 ≡ interleave (embed R.ops (suc d) R.one) (embed R.ops (suc d) R.zero) =
        sym (split p q (evens b) (odds b) lp lq t.0 t.1)
        ∙ ap (quotient_mul R.ops (suc d + suc d) (binomial R.ops (suc d + suc d) w) (interleave p q)) t.2 ∙ e ∙ sym one in
        let n : Ext R d f m = pair_norm E.ops (u, lu) r s in (
          n.0,
          n.1,
          ap (λ z. z.0) (pair_exact E (u, lu) (p, lp) (q, lq) r s
              (Ext-path R d f m _ _ (sym (evens-interleave low.0 high.0 (low.1 ∙ sym high.1)) ∙ ap evens both ∙ evens-interleave E.one.0 E.zero.0 (E.one.1 ∙ sym E.zero.1)))
              (Ext-path R d f m _ _ (sym (odds-interleave low.0 high.0 (low.1 ∙ sym high.1)) ∙ ap odds both ∙ odds-interleave E.one.0 E.zero.0 (E.one.1 ∙ sym E.zero.1)))),
        )
