-- The Frobenius map of values, their norm, and which of them have an inverse.
use Rattle.std.specs.Prelude.{◌≡◌, ◌↔◌, ◌≤◌, ◌-◌, ◌≢◌, ℕ, List, refl, get_or}
use Rattle.std.proofs.Common.{ap, arith, ◌∙◌, sym, zero, suc, subst}
use Rattle.p3_theory.specs.Rings.Ring.{Ops, Ring, Invertible}
use Rattle.p3_theory.specs.Polynomials.Polynomial as P
use Rattle.p3_theory.specs.Polynomials.Polynomial.{IsMonic}
use Rattle.p3_theory.specs.Polynomials.QuotientRing.{Ext, extension, Ext-path}
use Rattle.p3_theory.specs.FrobeniusMaps.Frobenius.{orbit_product, iterate}
use Rattle.p3_theory.specs.Polynomials.Substitution as Sg
use Rattle.p3_theory.specs.FrobeniusMaps.FrobeniusTable.{frobenius_list, orbit_list, IsFrobeniusTable}
use Rattle.p3_theory.specs.Rings.Operators.{product_list}
use Rattle.p3_theory.specs.FrobeniusMaps.OrbitLists.{product-orbit_list}
use Rattle.p3_theory.specs.FrobeniusMaps.FrobeniusTableLaws.{length-frobenius_list}
use Rattle.p3_theory.specs.FrobeniusMaps.FrobeniusNorm as T
use Rattle.p3_theory.specs.FrobeniusMaps.Iteration.{orbit}
use Rattle.p3_theory.specs.Inverses.ListInverses.{HasNoInverse}
use Rattle.p3_extension.specs.Values.{value_of, constant, ext_ops, same_value, ext_laws}
use Rattle.p3_extension.specs.declared.extension.ext_field.ExtField.{ExtField}

module _ {F S A : Type 0} {D : ℕ} (o : Ops A) (f phi : List A) where
  -- the Frobenius map: X becomes phi
  abbrev pub frobenius_map : ExtField F D S A → ExtField F D S A
  frobenius_map x = value_of (frobenius_list o D f phi x.value) (length-frobenius_list o D f phi x.value)

  -- the product of the images after 1 to D - 1 times
  abbrev pub conjugate_product : ExtField F D S A → ExtField F D S A
  conjugate_product x = orbit (ext_ops o f) frobenius_map (D - 1) (frobenius_map x)

  -- the norm: the constant coefficient of the value times the product of its conjugates
  abbrev pub norm_of : ExtField F D S A → A
  norm_of x = get_or ((ext_ops o f).mul x (conjugate_product x)).value 0 o.zero

module _ (F S : Type 0) {A : Type 0} (R : Ring A) where
  module _ (d : ℕ) (f : List A) (m : IsMonic R.ops (suc d) f) (phi : List A) (L : IsFrobeniusTable R.ops (suc d) f phi) where
    abbrev B : Type 0
    B = ExtField F (suc d) S A

    abbrev E : Ring (Ext R d f m)
    E = extension R d f m

    abbrev to : B → Ext R d f m
    to x = (x.value, x.sized)

    abbrev M : B → B → B
    M = (ext_ops R.ops f).mul

    abbrev e : B
    e = constant R.ops R.one

    orbit-to : (n : ℕ) (x : B) → to (orbit (ext_ops R.ops f) (frobenius_map R.ops f phi) n x) ≡ orbit_product R.ops E.ops (Sg.emb R d f m) n (T.sig R d f m phi L) (to x)
    orbit-to zero x = Ext-path R d f m _ _ refl
    orbit-to (suc n) x = Ext-path R d f m _ _ refl ∙ ap (E.mul (to x)) (orbit-to n (frobenius_map R.ops f phi x))

    norm-to : (x : B) → P.quotient_mul R.ops (suc d) f x.value (orbit (ext_ops R.ops f) (frobenius_map R.ops f phi) d (frobenius_map R.ops f phi x)).value
        ≡ P.embed R.ops (suc d) (T.norm R d f m phi L (to x))
    norm-to x = ap (λ z. z.0) (orbit-to (suc d) x ∙ T.norm_is R d f m phi L (to x))

    exact-suc : (x : B) (n : A) → M x (orbit (ext_ops R.ops f) (frobenius_map R.ops f phi) d (frobenius_map R.ops f phi x)) ≡ constant R.ops n
        → ((y : B) × (M x y ≡ e)) → Invertible R.ops n
    exact-suc x n is (y, h) =
        let same : T.norm R d f m phi L (to x) ≡ n = ap (λ l. get_or l 0 R.zero) (sym (norm-to x) ∙ ap (λ (z : B). z.value) is) in
        subst (Invertible R.ops) same ((T.inverse_exact R d f m phi L (to x)).0 (to y, Ext-path R d f m _ _ (ap (λ (z : B). z.value) h)))

    is-constant-suc : (x : B) → M x (orbit (ext_ops R.ops f) (frobenius_map R.ops f phi) d (frobenius_map R.ops f phi x))
        ≡ constant R.ops (get_or (M x (orbit (ext_ops R.ops f) (frobenius_map R.ops f phi) d (frobenius_map R.ops f phi x))).value 0 R.zero)
    is-constant-suc x = same_value _ _ (norm-to x ∙ ap (P.embed R.ops (suc d)) (sym (ap (λ l. get_or l 0 R.zero) (norm-to x))))

  module _ (f phi : List A) where
    pub norm_is : (D : ℕ) → 2 ≤ D → IsMonic R.ops D f → IsFrobeniusTable R.ops D f phi
        → (x : ExtField F D S A) → (ext_ops R.ops f).mul x (conjugate_product R.ops f phi x) ≡ constant R.ops (norm_of R.ops f phi x)
    norm_is zero h m L x = absurd (omega arith)
    norm_is (suc d) h m L x =
        let n : suc d - 1 ≡ d = omega arith in
        subst (λ j. let r = orbit (ext_ops R.ops f) (frobenius_map R.ops f phi) j (frobenius_map R.ops f phi x) in
        (ext_ops R.ops f).mul x r ≡ constant R.ops (get_or ((ext_ops R.ops f).mul x r).value 0 R.zero)) (sym n) (is-constant-suc d f m phi L x)

    pub norm_decides : (D : ℕ) → 2 ≤ D → IsMonic R.ops D f → IsFrobeniusTable R.ops D f phi
        → (x : ExtField F D S A) → ((y : ExtField F D S A) × ((ext_ops R.ops f).mul x y ≡ constant R.ops R.one)) → Invertible R.ops (norm_of R.ops f phi x)
    norm_decides zero h m L x i = absurd (omega arith)
    norm_decides (suc d) h m L x i =
        let n : suc d - 1 ≡ d = omega arith in
        exact-suc d f m phi L x (norm_of R.ops f phi x)
        (ap (λ j. (ext_ops R.ops f).mul x (orbit (ext_ops R.ops f) (frobenius_map R.ops f phi) j (frobenius_map R.ops f phi x))) (sym n)
        ∙ norm_is (suc d) h m L x) i

    constant_mul : (D : ℕ) → 2 ≤ D → IsMonic R.ops D f → (x y : A)
        → (ext_ops {F = F} {D = D} {S = S} R.ops f).mul (constant R.ops x) (constant R.ops y) ≡ constant R.ops (R.mul x y)
    constant_mul zero h m x y = absurd (omega arith)
    constant_mul (suc d) h m x y = same_value _ _ (sym (ap (λ z. z.0) ((Sg.hom R d f m).mul x y)))

    module _ (D : ℕ) (h : 2 ≤ D) (m : IsMonic R.ops D f) (L : IsFrobeniusTable R.ops D f phi) (x : ExtField F D S A) where
      found : (i : A) → R.mul (norm_of R.ops f phi x) i ≡ R.one
          → (ext_ops R.ops f).mul x ((ext_ops R.ops f).mul (conjugate_product R.ops f phi x) (constant R.ops i)) ≡ constant R.ops R.one
      found i is =
          let l = ext_laws {F = F} {S = S} R D h f m in
          let M : ExtField F D S A → ExtField F D S A → ExtField F D S A = (ext_ops R.ops f).mul in
          sym (l.mul_assoc x (conjugate_product R.ops f phi x) (constant R.ops i))
          ∙ ap (λ z. M z (constant R.ops i)) (norm_is D h m L x)
          ∙ constant_mul D h m (norm_of R.ops f phi x) i ∙ ap (constant R.ops) is

      norm-by : (rest : ExtField F D S A) (n : A) → rest ≡ conjugate_product R.ops f phi x → n ≡ P.at R.ops (P.quotient_mul R.ops D f x.value rest.value) 0
          → n ≡ norm_of R.ops f phi x
      norm-by rest n er en = en ∙ ap (λ (r : ExtField F D S A). P.at R.ops (P.quotient_mul R.ops D f x.value r.value) 0) er

      -- from the steps of the code
      pub found_by : (rest y : ExtField F D S A) (n i : A) → rest ≡ conjugate_product R.ops f phi x → n ≡ P.at R.ops (P.quotient_mul R.ops D f x.value rest.value) 0
          → R.mul n i ≡ R.one → y.value ≡ P.quotient_mul R.ops D f rest.value (P.embed R.ops D i) → (ext_ops R.ops f).mul x y ≡ constant R.ops R.one
      found_by rest y n i er en ei ey =
          ap ((ext_ops R.ops f).mul x) (same_value y ((ext_ops R.ops f).mul rest (constant R.ops i)) ey ∙ ap (λ r. (ext_ops R.ops f).mul r (constant R.ops i)) er)
          ∙ found i (ap (λ k. R.mul k i) (sym (norm-by rest n er en)) ∙ ei)

      pub absent_by : (rest : ExtField F D S A) (n : A) → rest ≡ conjugate_product R.ops f phi x → n ≡ P.at R.ops (P.quotient_mul R.ops D f x.value rest.value) 0
          → ((i : A) → R.mul n i ≢ R.one) → (y : ExtField F D S A) → (ext_ops R.ops f).mul x y ≢ constant R.ops R.one
      absent_by rest n er en none y e =
          let v = norm_decides D h m L x (y, e) in none v.0 (ap (λ k. R.mul k v.0) (norm-by rest n er en) ∙ v.1)

      -- the norm has an inverse exactly where the value has one
      pub norm_exact : Invertible {A = ExtField F D S A} (ext_ops R.ops f) x ↔ Invertible R.ops (norm_of R.ops f phi x)
      norm_exact = (
        norm_decides D h m L x,
        λ (i, is). ((ext_ops R.ops f).mul (conjugate_product R.ops f phi x) (constant R.ops i), found i is),
      )

      -- the orbit's product is the norm, embedded
      pub orbit_is_norm : product_list (ext_ops R.ops f) (orbit_list (frobenius_map R.ops f phi) D x) ≡ constant R.ops (norm_of R.ops f phi x)
      orbit_is_norm =
          let first : D ≡ suc (D - 1) = omega (arith, h) in
          product-orbit_list (frobenius_map R.ops f phi) (ext_ops R.ops f) D x
          ∙ ap (λ n. orbit (ext_ops R.ops f) (frobenius_map R.ops f phi) n x) first
          ∙ norm_is D h m L x

-- the Frobenius map taken D times is the identity
module _ {F S A : Type 0} {D : ℕ} (o : Ops A) (f phi : List A) where
  pub iterate-value : (n : ℕ) (x : ExtField F D S A) → (iterate (frobenius_map o f phi) n x).value ≡ iterate (frobenius_list o D f phi) n x.value
  iterate-value zero x = refl
  iterate-value (suc n) x = iterate-value n (frobenius_map o f phi x)

  pub whole_turn : IsFrobeniusTable o D f phi → (x : ExtField F D S A) → iterate (frobenius_map o f phi) D x ≡ x
  whole_turn L x = same_value _ _ (iterate-value D x ∙ L.order x.value x.sized)

-- an inverse as a list is one as a value, and where no list is one no value is
module _ {F S A : Type 0} {D : ℕ} (o : Ops A) (f : List A) (x : ExtField F D S A) where
  pub inverse_as_list : (y : ExtField F D S A) (v : List A) → y.value ≡ v → P.quotient_mul o D f x.value v ≡ P.embed o D o.one
      → (ext_ops o f).mul x y ≡ constant o o.one
  inverse_as_list y v ey e = same_value _ _ (ap (P.quotient_mul o D f x.value) ey ∙ e)

  pub none_as_list : HasNoInverse o D f x.value → (y : ExtField F D S A) → (ext_ops o f).mul x y ≢ constant o o.one
  none_as_list none y e = none y.value y.sized (ap (λ (z : ExtField F D S A). z.value) e)
