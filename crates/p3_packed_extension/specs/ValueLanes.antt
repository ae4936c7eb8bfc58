-- Lanes of extension values side by side.
use Rattle.std.specs.Prelude.{◌≡◌, ◌<◌, ◌+◌, ℕ, List, [], ◌∷◌, length, map, get_or, replicate, refl, Some, slice_get, slice_set}
use Rattle.std.proofs.Common.{ap, ap₂, ◌∙◌, sym, arith, inl, inr}
use Rattle.std.proofs.lemmas.Bool.{cases_eq}
use Rattle.std.proofs.lemmas.List.{ext_get_or, get_or-map, get_or-set_same, get_or-set_other, length-set}
use Rattle.std.proofs.lemmas.Option.{slice_get-get_or}
use borrow.Author.Count.{below_more}
use Rattle.p3_theory.specs.Rings.Ring.{Ops, Hom}
use Rattle.p3_theory.specs.Rings.Homomorphism as H
use Rattle.p3_theory.specs.Polynomials.Polynomial.{tabulate, quotient_mul}
use Rattle.p3_theory.specs.Polynomials.Coefficients.{length-tabulate}
use Rattle.p3_theory.specs.Lists.ByIndex.{get-tabulate, to-tabulate}
use Rattle.p3_theory.specs.Lanes.Lanes.{lane, KeepsLanes, at_replicate}
use Rattle.p3_theory.specs.Lanes.RowRing.{tabulated}
use Rattle.p3_extension.specs.Values.{ext_ops, value_of, same_value}
use Rattle.p3_extension.specs.declared.extension.ext_field.ExtField.{ExtField}
use Rattle.p3_packed_extension.specs.PackedValues.{packed_ops, same_packed, spread}
use Rattle.p3_packed_extension.specs.declared.packed_ext_field.PackedExtField.{PackedExtField}

-- what agrees with a map that keeps the operations keeps them
hom_same : {A B : Type 0} {O : Ops A} {P : Ops B} {g h : A → B} → Hom O P g → ((x : A) → h x ≡ g x) → Hom O P h
hom_same {O = O} {P = P} k e = record {
  zero = e O.zero ∙ k.zero;
  one = e O.one ∙ k.one;
  add = λ x y. e (O.add x y) ∙ k.add x y ∙ sym (ap₂ P.add (e x) (e y));
  neg = λ x. e (O.neg x) ∙ k.neg x ∙ sym (ap P.neg (e x));
  mul = λ x y. e (O.mul x y) ∙ k.mul x y ∙ sym (ap₂ P.mul (e x) (e y));
}

-- the coefficients of a value
abbrev pub coefficients_of : {F S A : Type 0} {D : ℕ} → ExtField F D S A → List A
coefficients_of v = v.value

module _ {F P S : Type 0} {D : ℕ} where
  -- a lane: that lane of each coefficient
  abbrev pub value_lane : (P → F) → PackedExtField F D S P → ExtField F D S F
  value_lane h x = value_of (map h x.value.value) (H.length-map h x.value.value ∙ x.value.sized)

  -- a map of coefficients that keeps the operations and takes one polynomial to the other keeps those of values
  value_lane_keeps : (O : Ops P) (Q : Ops F) (h : P → F) → Hom O Q h → (f : List P) (g : List F) → map h f ≡ g → Hom (packed_ops O f) (ext_ops Q g) (value_lane h)
  value_lane_keeps O Q h k f g e =
      let m = H.quotient-map O Q h k D f in
      record {
        zero = same_value _ _ m.zero;
        one = same_value _ _ m.one;
        add = λ x y. same_value _ _ (m.add x.value.value y.value.value);
        neg = λ x. same_value _ _ (m.neg x.value.value);
        mul = λ x y. same_value _ _ (m.mul x.value.value y.value.value ∙ ap (λ p. quotient_mul Q D p (map h x.value.value) (map h y.value.value)) e);
      }

module _ {F P : Type 0} (Q : Ops F) (lanes : P → List F) (w : ℕ) where
  -- lists of packings with the same lanes are the same
  lists_apart : ((p q : P) → lanes p ≡ lanes q → p ≡ q) → ((p : P) → length (lanes p) ≡ w) → (xs ys : List P) → length xs ≡ length ys
      → ((k : ℕ) → k < w → map (lane Q lanes k) xs ≡ map (lane Q lanes k) ys) → xs ≡ ys
  lists_apart same long [] [] l h = refl
  lists_apart same long [] (y ∷ ys) l h = absurd (omega (arith, l))
  lists_apart same long (x ∷ xs) [] l h = absurd (omega (arith, l))
  lists_apart same long (x ∷ xs) (y ∷ ys) l h =
      let head : lanes x ≡ lanes y = ext_get_or Q.zero (lanes x) (lanes y) (long x ∙ sym (long y)) (λ k b. ap (λ v. get_or v 0 Q.zero) (h k (omega (arith, b, long x)))) in
      ap₂ (λ u v. u ∷ v) (same x y head) (lists_apart same long xs ys (omega (arith, l)) (λ k b. ap tail (h k b)))
    where
      tail : List F → List F
      tail [] = []
      tail (u ∷ us) = us

  -- the lanes of what holds one value in all lanes
  pub lane_of_spread : (e : F → P) → ((f : F) → lanes (e f) ≡ replicate w f) → (k : ℕ) → k < w → (v : List F) → map (lane Q lanes k) (map e v) ≡ v
  lane_of_spread e inj k h [] = refl
  lane_of_spread e inj k h (x ∷ v) = ap₂ (λ u t. u ∷ t) (at_replicate w k x Q.zero _ h (inj x)) (lane_of_spread e inj k h v)

  -- lane l is written of one coefficient more
  pub one_more_written : (l : ℕ) (old xs : List P) (v : List F) (i : ℕ) (q : P) → i < length xs
      → ((p : P) (j : ℕ) → j < i → lanes (get_or xs j p) ≡ slice_set (lanes (get_or old j p)) l (get_or v j Q.zero))
      → ((p : P) → lanes q ≡ slice_set (lanes (get_or old i p)) l (get_or v i Q.zero))
      → (p : P) (j : ℕ) → j < i + 1 → lanes (get_or (slice_set xs i q) j p) ≡ slice_set (lanes (get_or old j p)) l (get_or v j Q.zero)
  one_more_written l old xs v i q b h e p =
      below_more (λ j. lanes (get_or (slice_set xs i q) j p) ≡ slice_set (lanes (get_or old j p)) l (get_or v j Q.zero)) i
      (λ j t. ap lanes (get_or-set_other xs i j q p (omega arith)) ∙ h p j t) (ap lanes (get_or-set_same xs i q p b) ∙ e p)

module _ {F P S : Type 0} {D : ℕ} (O : Ops P) (Q : Ops F) (lanes : P → List F) (w : ℕ) where
  -- the lanes of a value: lane k is the extension value of lane k of each coefficient
  abbrev pub value_lanes : PackedExtField F D S P → List (ExtField F D S F)
  value_lanes x = tabulate w (λ k. value_lane (lane Q lanes k) x)

  pub at_lane : (d : ExtField F D S F) (x : PackedExtField F D S P) (k : ℕ) → k < w → get_or (value_lanes x) k d ≡ value_lane (lane Q lanes k) x
  at_lane d x k h = get-tabulate w (λ k. value_lane (lane Q lanes k) x) k d h

  -- each lane keeps the operations
  pub lanes_keep : KeepsLanes O Q lanes w → (f : List P) (g : List F) → ((k : ℕ) → k < w → map (lane Q lanes k) f ≡ g)
      → KeepsLanes (packed_ops {F = F} {P = P} {S = S} {D = D} O f) (ext_ops Q g) value_lanes w
  lanes_keep keeps f g e k h = hom_same (value_lane_keeps O Q (lane Q lanes k) (keeps k h) f g (e k h)) (λ x. at_lane (ext_ops Q g).zero x k h)

  -- values with the same lanes are the same
  pub lanes_apart : ((p q : P) → lanes p ≡ lanes q → p ≡ q) → ((p : P) → length (lanes p) ≡ w) → (x y : PackedExtField F D S P)
      → value_lanes x ≡ value_lanes y → x ≡ y
  lanes_apart same long x y e =
      let each : (k : ℕ) → k < w → map (lane Q lanes k) x.value.value ≡ map (lane Q lanes k) y.value.value =
      λ k h. let d = value_lane (lane Q lanes k) x in ap (λ (v : ExtField F D S F). v.value) (sym (at_lane d x k h) ∙ ap (λ l. get_or l k d) e ∙ at_lane d y k h) in
      same_packed O [] x y (lists_apart Q lanes w same long x.value.value y.value.value (x.value.sized ∙ sym y.value.sized) each)

  -- an extension value in all lanes is each lane
  pub lanes_of_spread : (e : F → P) → ((f : F) → lanes (e f) ≡ replicate w f) → (v : ExtField F D S F) → value_lanes (spread e v) ≡ replicate w v
  lanes_of_spread e inj v =
      to-tabulate v w (λ _. v) (value_lanes (spread e v)) (length-tabulate w _)
      (λ k h. at_lane v (spread e v) k h ∙ same_value _ _ (lane_of_spread Q lanes w e inj k h v.value)) ∙ tabulated w v

  -- the lanes of a value whose coefficients were gathered from values
  pub gathered : (x : PackedExtField F D S P) (slice : List (ExtField F D S F)) → length slice ≡ w
      → ((p : P) (d : ExtField F D S F) (i k : ℕ) → i < D → k < w → lane Q lanes k (get_or x.value.value i p) ≡ get_or (get_or slice k d).value i Q.zero)
      → value_lanes x ≡ slice
  gathered x slice l h =
      let each : (k : ℕ) → k < w → get_or slice k (value_lane (lane Q lanes 0) x) ≡ value_lane (lane Q lanes k) x =
      λ k b. let s = value_lane (lane Q lanes 0) x in
      same_value _ _ (ext_get_or Q.zero (get_or slice k s).value (map (lane Q lanes k) x.value.value)
      ((get_or slice k s).sized ∙ sym (H.length-map (lane Q lanes k) x.value.value ∙ x.value.sized))
      (λ i c. sym (h O.zero s i k (omega (arith, c, (get_or slice k s).sized)) b)
      ∙ sym (get_or-map (lane Q lanes k) x.value.value i O.zero Q.zero (omega (arith, c, (get_or slice k s).sized, x.value.sized))))) in
      sym (to-tabulate (value_lane (lane Q lanes 0) x) w (λ k. value_lane (lane Q lanes k) x) slice l each)

  -- a value whose coefficients are those of a lane
  pub extracted : (x : PackedExtField F D S P) (r : ExtField F D S F) (k : ℕ) → k < w
      → ((p : P) (i : ℕ) → i < D → get_or (lanes (get_or x.value.value i p)) k Q.zero ≡ get_or r.value i Q.zero)
      → slice_get (value_lanes x) k ≡ Some r
  extracted x r k b h =
      slice_get-get_or (value_lanes x) k r (omega (arith, b, length-tabulate w (λ k. value_lane (lane Q lanes k) x)))
      ∙ ap Some (at_lane r x k b ∙ same_value _ _ (ext_get_or Q.zero (map (lane Q lanes k) x.value.value) r.value
      (H.length-map (lane Q lanes k) x.value.value ∙ x.value.sized ∙ sym r.sized)
      (λ i c. let inside : i < D = omega (arith, c, H.length-map (lane Q lanes k) x.value.value, x.value.sized) in
      get_or-map (lane Q lanes k) x.value.value i O.zero Q.zero (omega (arith, inside, x.value.sized)) ∙ h O.zero i inside)))

  -- a lane is written where it is written of each coefficient
  pub lane_written : ((p : P) → length (lanes p) ≡ w) → (x y : PackedExtField F D S P) (v : ExtField F D S F) (k : ℕ) → k < w
      → ((p : P) (i : ℕ) → i < D → lanes (get_or y.value.value i p) ≡ slice_set (lanes (get_or x.value.value i p)) k (get_or v.value i Q.zero))
      → value_lanes y ≡ slice_set (value_lanes x) k v
  lane_written long x y v k inside h =
      let coefficient : (z : PackedExtField F D S P) (j i : ℕ) → i < D → get_or (map (lane Q lanes j) z.value.value) i Q.zero ≡ lane Q lanes j (get_or z.value.value i O.zero) =
      λ z j i b. get_or-map (lane Q lanes j) z.value.value i O.zero Q.zero (omega (arith, b, z.value.sized)) in
      let below : (u : ExtField F D S F) (i : ℕ) → i < length u.value → i < D = λ u i b. omega (arith, b, u.sized) in
      let whole : length (value_lanes x) ≡ w = length-tabulate w _ in
      ext_get_or v (value_lanes y) (slice_set (value_lanes x) k v) (omega (arith, whole, length-tabulate w (λ j. value_lane (lane Q lanes j) y), length-set {A = ExtField F D S F}))
      (λ j b.
      let lt : j < w = omega (arith, b, length-tabulate w (λ j. value_lane (lane Q lanes j) y)) in
      at_lane v y j lt
      ∙ elim (cases_eq j k) [
        | inl same ↦
            same_value _ _ (ext_get_or Q.zero (map (lane Q lanes j) y.value.value) v.value (H.length-map (lane Q lanes j) y.value.value ∙ y.value.sized ∙ sym v.sized)
            (λ i c. let n : i < D = omega (arith, c, H.length-map (lane Q lanes j) y.value.value, y.value.sized) in
            coefficient y j i n ∙ ap (λ l. get_or l j Q.zero) (h O.zero i n) ∙ ap (λ m. get_or (slice_set (lanes (get_or x.value.value i O.zero)) k (get_or v.value i Q.zero)) m Q.zero) same
            ∙ get_or-set_same (lanes (get_or x.value.value i O.zero)) k (get_or v.value i Q.zero) Q.zero (omega (arith, inside, long (get_or x.value.value i O.zero)))))
            ∙ sym (ap (λ m. get_or (slice_set (value_lanes x) k v) m v) same ∙ get_or-set_same (value_lanes x) k v v (omega (arith, inside, whole)))
        | inr other ↦
            same_value _ _ (ext_get_or Q.zero (map (lane Q lanes j) y.value.value) (map (lane Q lanes j) x.value.value)
            (H.length-map (lane Q lanes j) y.value.value ∙ y.value.sized ∙ sym x.value.sized ∙ sym (H.length-map (lane Q lanes j) x.value.value))
            (λ i c. let n : i < D = omega (arith, c, H.length-map (lane Q lanes j) y.value.value, y.value.sized) in
            coefficient y j i n ∙ ap (λ l. get_or l j Q.zero) (h O.zero i n)
            ∙ get_or-set_other (lanes (get_or x.value.value i O.zero)) k j (get_or v.value i Q.zero) Q.zero other ∙ sym (coefficient x j i n)))
            ∙ sym (get_or-set_other (value_lanes x) k j v v other ∙ at_lane v x j lt)
      ])

  -- one more coefficient is written
  pub one_more_coefficient : (old : List P) (slice : List (ExtField F D S F)) (i : ℕ) (q : P) → i < length old
      → ((p : P) (d : ExtField F D S F) (j k : ℕ) → j < i → k < w → lane Q lanes k (get_or old j p) ≡ get_or (get_or slice k d).value j Q.zero)
      → ((d : ExtField F D S F) (k : ℕ) → k < w → lane Q lanes k q ≡ get_or (get_or slice k d).value i Q.zero)
      → (p : P) (d : ExtField F D S F) (j k : ℕ) → j < i + 1 → k < w → lane Q lanes k (get_or (slice_set old i q) j p) ≡ get_or (get_or slice k d).value j Q.zero
  one_more_coefficient old slice i q b h e p d j k u v =
      below_more (λ j. lane Q lanes k (get_or (slice_set old i q) j p) ≡ get_or (get_or slice k d).value j Q.zero) i
      (λ j t. ap (lane Q lanes k) (get_or-set_other old i j q p (omega arith)) ∙ h p d j k t v)
      (ap (lane Q lanes k) (get_or-set_same old i q p b) ∙ e d k v) j u
