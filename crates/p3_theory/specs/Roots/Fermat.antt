-- Where there are n values and no zero divisors, each value but zero to the power n - 1 is one:
-- multiplying by it permutes the values but zero, and their product may be taken away.
use Rattle.std.specs.Prelude.{◌≡◌, ◌≢◌, ◌⊎◌, ◌-◌, ℕ, suc, List, [], ◌∷◌, length, map, refl}
use Rattle.std.proofs.Common.{ap, arith, ◌∙◌, sym, subst, inl, inr}
use Rattle.p3_theory.specs.Rings.Ring.{Ops, RingLaws, ring_of}
use Rattle.p3_theory.specs.Rings.Powers.{power}
use Rattle.p3_theory.specs.Rings.Operators.{product_list}
use Rattle.p3_theory.specs.Rings.Homomorphism.{length-map}
use Rattle.p3_theory.specs.Rings.Basics.{mul-zero, mul_left_comm}
use Rattle.p3_theory.specs.Roots.ValueLists.{IsIn, HasNoRepeats, ValueList, from-map, no_repeats-map}
use Rattle.p3_theory.specs.Rings.ZeroDivisors.{HasNoZeroDivisors, mul_cancel}

module _ {A : Type 0} {O : Ops A} (l : RingLaws O) where
  -- what is left of a list where its item x is taken out
  record TakenOut (x : A) (xs : List A) : Type 0 where
    rest : List A
    counted : length xs ≡ suc (length rest)
    product : product_list O xs ≡ O.mul x (product_list O rest)
    other : (y : A) → IsIn y xs → (y ≡ x) ⊎ IsIn y rest
    back : (y : A) → IsIn y rest → IsIn y xs
    once : HasNoRepeats xs → HasNoRepeats rest × (IsIn x rest → ⊥)

  take_out : (x : A) (xs : List A) → IsIn x xs → TakenOut x xs
  take_out x [] h = absurd h
  take_out x (y ∷ ys) (inl p) = record {
    rest = ys;
    counted = refl;
    product = ap (λ v. O.mul v (product_list O ys)) (sym p);
    other = λ z h. elim h [ inl q ↦ inl (q ∙ sym p) | inr q ↦ inr q ];
    back = λ z h. inr h;
    once = λ d. (d.1, λ h. d.0 (subst (λ v. IsIn v ys) p h));
  }
  take_out x (y ∷ ys) (inr p) =
      let r = take_out x ys p in
      record {
        rest = y ∷ r.rest;
        counted = ap suc r.counted;
        product = ap (O.mul y) r.product ∙ mul_left_comm (ring_of l) y x (product_list O r.rest);
        other = λ z h. elim h [ inl q ↦ inr (inl q) | inr q ↦ elim (r.other z q) [ inl u ↦ inl u | inr v ↦ inr (inr v) ] ];
        back = λ z h. elim h [ inl q ↦ inl q | inr q ↦ inr (r.back z q) ];
        once = λ d. (
          (λ h. d.0 (r.back y h), (r.once d.1).0),
          λ h. elim h [ inl q ↦ d.0 (subst (λ v. IsIn v ys) q p) | inr q ↦ (r.once d.1).1 q ],
        );
      }

  -- lists of one length without repeats have one product where the items of the first are items of the second
  same_product : (ys xs : List A) → HasNoRepeats ys → ((y : A) → IsIn y ys → IsIn y xs) → length ys ≡ length xs → product_list O ys ≡ product_list O xs
  same_product [] [] d within e = refl
  same_product [] (x ∷ xs) d within e = absurd (omega (arith, e))
  same_product (y ∷ ys) xs d within e =
      let t = take_out y xs (within y (inl refl)) in
      let others : (z : A) → IsIn z ys → IsIn z t.rest = λ z h. elim (t.other z (within z (inr h))) [
        | inl q ↦ absurd (d.0 (subst (λ v. IsIn v ys) q h))
        | inr k ↦ k
      ] in
      ap (O.mul y) (same_product ys t.rest d.1 others (omega (arith, e, t.counted))) ∙ sym t.product

  product-times : (x : A) (ys : List A) → product_list O (map (O.mul x) ys) ≡ O.mul (power O x (length ys)) (product_list O ys)
  product-times x [] = sym (l.mul_one O.one)
  product-times x (y ∷ ys) =
      ap (O.mul (O.mul x y)) (product-times x ys) ∙ l.mul_assoc x y _ ∙ ap (O.mul x) (mul_left_comm (ring_of l) y (power O x (length ys)) (product_list O ys))
      ∙ sym (l.mul_assoc x (power O x (length ys)) (O.mul y (product_list O ys)))

  module _ (domain : HasNoZeroDivisors O) where
    product_is_not_zero : O.zero ≢ O.one → (ys : List A) → ((y : A) → IsIn y ys → y ≢ O.zero) → product_list O ys ≢ O.zero
    product_is_not_zero apart [] h = λ p. apart (sym p)
    product_is_not_zero apart (y ∷ ys) h = λ p. elim (domain y (product_list O ys) p) [
      | inl q ↦ h y (inl refl) q
      | inr q ↦ product_is_not_zero apart ys (λ z k. h z (inr k)) q
    ]

    -- a value that is not zero, times the values but zero, has one of those again
    times_within : (xs : List A) → ((y : A) → IsIn y xs) → (t : TakenOut O.zero xs) → (IsIn O.zero t.rest → ⊥) → (x : A) → x ≢ O.zero
        → (z : A) → IsIn z (map (O.mul x) t.rest) → IsIn z t.rest
    times_within xs every t without x nonzero z h =
        let w = from-map (O.mul x) z t.rest h in
        elim (t.other z (every z)) [
          | inl q ↦ absurd (elim (domain x w.0 (sym w.2 ∙ q)) [ inl u ↦ nonzero u | inr v ↦ without (subst (λ y. IsIn y t.rest) v w.1) ])
          | inr k ↦ k
        ]

    pub fermat : {n : ℕ} → ValueList A n → (x : A) → x ≢ O.zero → power O x (n - 1) ≡ O.one
    fermat {n} values x nonzero =
        let t = take_out O.zero values.list (values.every O.zero) in
        let d = t.once values.once in
        let apart : O.zero ≢ O.one = λ e. nonzero (sym (l.mul_one x) ∙ ap (O.mul x) (sym e) ∙ mul-zero (ring_of l) x) in
        let product = product_list O t.rest in
        let distinct = no_repeats-map (O.mul x) (λ y z e. mul_cancel l domain x y z nonzero e) t.rest d.0 in
        let same : product_list O (map (O.mul x) t.rest) ≡ product =
        same_product (map (O.mul x) t.rest) t.rest distinct (times_within values.list values.every t d.1 x nonzero) (length-map (O.mul x) t.rest) in
        let kept : product ≢ O.zero = product_is_not_zero apart t.rest (λ y h q. d.1 (subst (λ v. IsIn v t.rest) q h)) in
        let count : n - 1 ≡ length t.rest = omega (arith, t.counted, values.counted) in
        ap (power O x) count
        ∙ mul_cancel l domain product _ O.one kept (l.mul_comm product _ ∙ sym (product-times x t.rest) ∙ same ∙ sym (l.mul_one product))
