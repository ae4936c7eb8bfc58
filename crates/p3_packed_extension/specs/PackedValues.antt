-- Extension values side by side: their operations and laws, from those of lists of coefficients.
use Rattle.std.specs.Prelude.{◌≡◌, ◌<◌, ◌≤◌, ℕ, List, length, map, get_or, replicate, refl}
use Rattle.std.proofs.Common.{ap, arith, ◌∙◌, sym}
use Rattle.std.proofs.lemmas.List.{get_or-map}
use Rattle.p3_theory.specs.Rings.Ring.{Ops, RingLaws, Ring, Hom, Invertible, subtract}
use Rattle.p3_theory.specs.Rings.Multiples.{of_nat, two}
use Rattle.p3_theory.specs.Rings.Powers.{power}
use Rattle.p3_theory.specs.Rings.Homomorphism as H
use Rattle.p3_theory.specs.Polynomials.Polynomial.{IsMonic, at, quotient_mul, embed}
use Rattle.p3_theory.specs.FrobeniusMaps.FrobeniusTransfer.{monic_along}
use Rattle.p3_extension.specs.Values.{constant, ext_ops, ext_laws, value_of, same_value, is_sum, is_difference, is_negation}
use Rattle.p3_extension.specs.ValueOrder.{zero_value}
use Rattle.p3_extension.specs.Bases.{characteristic_of, multiple_of_one, embedding}
use Rattle.p3_extension.specs.Scalars.{OnFirstCoefficient, is_scalar_sum, is_scalar_difference, is_scalar_product}
use Rattle.p3_extension.specs.Doublings.{half_of_base, half_by_coefficients, of_written, product_by_coefficients, quotient_by_coefficients}
use Rattle.p3_extension.specs.declared.extension.ext_field.ExtField.{ExtField}
use Rattle.p3_packed_extension.specs.declared.packed_ext_field.PackedExtField.{PackedExtField}

module _ {F P S : Type 0} {D : ℕ} where
  -- an extension value over packings as a packing of extension values
  abbrev pub packed : ExtField F D S P → PackedExtField F D S P
  packed v = record { value = v }

  -- the operations on lists of D packings modulo f
  abbrev pub packed_ops : Ops P → List P → Ops (PackedExtField F D S P)
  packed_ops o f =
      let e : Ops (ExtField F D S P) = ext_ops o f in
      record {
        zero = packed e.zero;
        one = packed e.one;
        add = λ x y. packed (e.add x.value y.value);
        neg = λ x. packed (e.neg x.value);
        mul = λ x y. packed (e.mul x.value y.value);
      }

  -- a packing as a value: x, 0, .., 0
  abbrev pub packed_constant : Ops P → P → PackedExtField F D S P
  packed_constant o x = packed (constant o x)

  -- an extension value in all lanes
  abbrev pub spread : (F → P) → ExtField F D S F → PackedExtField F D S P
  spread e v = packed (value_of (map e v.value) (H.length-map e v.value ∙ v.sized))

  -- the value with some D coefficients
  pub packed_with : (xs : List P) → length xs ≡ D → (x : PackedExtField F D S P) × (x.value.value ≡ xs)
  packed_with xs h = (packed (value_of xs h), refl)

  module _ (o : Ops P) (f : List P) where
    pub same_packed : (x y : PackedExtField F D S P) → x.value.value ≡ y.value.value → x ≡ y
    same_packed x y h = ap packed (same_value x.value y.value h)

    pub packed_zero : (x : PackedExtField F D S P) (z : P) → z ≡ o.zero → x.value.value ≡ replicate D z → x ≡ (packed_ops o f).zero
    packed_zero x z e h = ap packed (zero_value o f x.value (h ∙ ap (replicate D) e))

    -- what operators give coefficient by coefficient
    pub packed_sum : (gives : P → P → P → Type 0) → ((a b c : P) → gives a b c → c ≡ o.add a b) → (x y r : PackedExtField F D S P)
        → ((d : P) (k : ℕ) → k < D → gives (get_or x.value.value k d) (get_or y.value.value k d) (get_or r.value.value k d)) → r ≡ (packed_ops o f).add x y
    packed_sum gives is x y r h = ap packed (is_sum o f gives is x.value y.value r.value h)

    pub packed_difference : (gives : P → P → P → Type 0) → ((a b c : P) → gives a b c → c ≡ subtract o a b) → (x y r : PackedExtField F D S P)
        → ((d : P) (k : ℕ) → k < D → gives (get_or x.value.value k d) (get_or y.value.value k d) (get_or r.value.value k d)) → r ≡ subtract (packed_ops o f) x y
    packed_difference gives is x y r h = ap packed (is_difference o f gives is x.value y.value r.value h)

    pub packed_negation : (gives : P → P → Type 0) → ((a c : P) → gives a c → c ≡ o.neg a) → (x r : PackedExtField F D S P)
        → ((d : P) (k : ℕ) → k < D → gives (get_or x.value.value k d) (get_or r.value.value k d)) → r ≡ (packed_ops o f).neg x
    packed_negation gives is x r h = ap packed (is_negation o f gives is x.value r.value h)

    pub packed_product : (x y r : PackedExtField F D S P) → r.value.value ≡ quotient_mul o D f x.value.value y.value.value → r ≡ (packed_ops o f).mul x y
    packed_product x y r h = same_packed r ((packed_ops o f).mul x y) h

    -- packing keeps the operations
    pub packing_keeps : Hom (ext_ops {F = F} {D = D} {S = S} o f) (packed_ops o f) packed
    packing_keeps = record { zero = refl; one = refl; add = λ _ _. refl; neg = λ _. refl; mul = λ _ _. refl }

  -- a map of coefficients that keeps the operations keeps those of values
  pub spread_keeps : (O : Ops P) (Q : Ops F) (e : F → P) → Hom Q O e → (f : List F) → Hom (ext_ops {F = F} {D = D} {S = S} Q f) (packed_ops O (map e f)) (spread e)
  spread_keeps O Q e k f =
      let m = H.quotient-map Q O e k D f in
      let g = map e f in
      record {
        zero = same_packed O g _ _ m.zero;
        one = same_packed O g _ _ m.one;
        add = λ x y. same_packed O g _ _ (m.add x.value y.value);
        neg = λ x. same_packed O g _ _ (m.neg x.value);
        mul = λ x y. same_packed O g _ _ (m.mul x.value y.value);
      }

  -- what operators give of the coefficients of a value and an extension value
  module _ (o : Ops P) (f : List P) (e : F → P) (z : F) (gives : P → F → P → Type 0) where
    along : (v : ExtField F D S F) (d : P) (k : ℕ) → k < D → e (get_or v.value k z) ≡ get_or (map e v.value) k d
    along v d k w = sym (get_or-map e v.value k z d (omega (arith, v.sized, w)))

    pub spread_sum : ((a : P) (b : F) (c : P) → gives a b c → c ≡ o.add a (e b)) → (x : PackedExtField F D S P) (v : ExtField F D S F) (r : PackedExtField F D S P)
        → ((d : P) (b : F) (k : ℕ) → k < D → gives (get_or x.value.value k d) (get_or v.value k b) (get_or r.value.value k d)) → r ≡ (packed_ops o f).add x (spread e v)
    spread_sum is x v r h = packed_sum o f (λ a b c. c ≡ o.add a b) (λ _ _ _ c. c) x (spread e v) r
        (λ d k w. is _ _ _ (h d z k w) ∙ ap (o.add (get_or x.value.value k d)) (along v d k w))

    pub spread_difference : ((a : P) (b : F) (c : P) → gives a b c → c ≡ subtract o a (e b)) → (x : PackedExtField F D S P) (v : ExtField F D S F) (r : PackedExtField F D S P)
        → ((d : P) (b : F) (k : ℕ) → k < D → gives (get_or x.value.value k d) (get_or v.value k b) (get_or r.value.value k d)) → r ≡ subtract (packed_ops o f) x (spread e v)
    spread_difference is x v r h = packed_difference o f (λ a b c. c ≡ subtract o a b) (λ _ _ _ c. c) x (spread e v) r
        (λ d k w. is _ _ _ (h d z k w) ∙ ap (subtract o (get_or x.value.value k d)) (along v d k w))

  -- the product modulo f of a value and an extension value
  module _ (o : Ops P) (f : List P) (e : F → P) where
    pub spread_product : (x : PackedExtField F D S P) (v : ExtField F D S F) (r : PackedExtField F D S P)
        → r.value.value ≡ quotient_mul o D f x.value.value (map e v.value) → r ≡ (packed_ops o f).mul x (spread e v)
    spread_product x v r h = same_packed o f r ((packed_ops o f).mul x (spread e v)) h

-- the operations over P, modulo the image of m
abbrev over : (F S : Type 0) (D : ℕ) {P : Type 0} → Ops P → (F → P) → List F → Ops (PackedExtField F D S P)
over F S D o e m = packed_ops o (map e m)

-- for an algebra P by e, and a monic polynomial m
module _ {F P S : Type 0} {D : ℕ} (R : Ring P) {Q : Ops F} {e : F → P} (keeps : Hom Q R.ops e) (degree : 2 ≤ D) (m : List F) (monic : IsMonic Q D m) where
  pub packed_laws : RingLaws (over F S D R.ops e m)
  packed_laws =
      let l : RingLaws (ext_ops {F = F} {D = D} {S = S} R.ops (map e m)) = ext_laws R D degree (map e m) (monic_along Q R e keeps D m monic) in
      record {
        add_comm = λ x y. ap packed (l.add_comm x.value y.value);
        add_assoc = λ x y z. ap packed (l.add_assoc x.value y.value z.value);
        add_zero = λ x. ap packed (l.add_zero x.value);
        add_neg = λ x. ap packed (l.add_neg x.value);
        mul_comm = λ x y. ap packed (l.mul_comm x.value y.value);
        mul_assoc = λ x y z. ap packed (l.mul_assoc x.value y.value z.value);
        mul_one = λ x. ap packed (l.mul_one x.value);
        mul_add = λ x y z. ap packed (l.mul_add x.value y.value z.value);
      }

  pub packed_characteristic : (n : ℕ) → of_nat R.ops n ≡ R.zero → of_nat (over F S D R.ops e m) n ≡ (over F S D R.ops e m).zero
  packed_characteristic n h = sym (H.map-of_nat (packing_keeps R.ops (map e m)) n) ∙ ap packed (characteristic_of {F = F} {S = S} R D degree (map e m) (monic_along Q R e keeps D m monic) n h)

  pub packed_multiple : (r : PackedExtField F D S P) (x : P) (n : ℕ) → r.value.value ≡ embed R.ops D x → x ≡ of_nat R.ops n → r ≡ of_nat (over F S D R.ops e m) n
  packed_multiple r x n h k = ap packed (multiple_of_one R D degree (map e m) (monic_along Q R e keeps D m monic) r.value x n h k) ∙ H.map-of_nat (packing_keeps R.ops (map e m)) n

  pub packed_embedding : Hom R.ops (over F S D R.ops e m) (packed_constant R.ops)
  packed_embedding = H.compose (embedding {F = F} {S = S} R D degree (map e m) (monic_along Q R e keeps D m monic)) (packing_keeps R.ops (map e m))

  -- where two has an inverse in values, it has one in the coefficients
  pub packed_half_of_base : Invertible (over F S D R.ops e m) (two (over F S D R.ops e m)) → Invertible R.ops (two R.ops)
  packed_half_of_base h = half_of_base F S R D degree (map e m) (monic_along Q R e keeps D m monic) (h.0.value, ap (λ (v : PackedExtField F D S P). v.value) h.1)

  written : (W : P → P → Type 0) (x r : PackedExtField F D S P) (v : List P) (i : ℕ) → D ≤ i → r.value.value ≡ v
      → ((d : P) (k : ℕ) → k < i → W (get_or v k d) (get_or x.value.value k d)) → (k : ℕ) → k < D → W (at R.ops r.value.value k) (at R.ops x.value.value k)
  written W x r v i b h w = of_written F S R D degree (map e m) (monic_along Q R e keeps D m monic) W x.value r.value v i b h w

  -- halves, products with a power of two and quotients by it, written coefficient by coefficient
  pub packed_half : (x r : PackedExtField F D S P) (v : List P) (i : ℕ) → D ≤ i → r.value.value ≡ v
      → ((d : P) (k : ℕ) → k < i → R.add (get_or v k d) (get_or v k d) ≡ get_or x.value.value k d) → (over F S D R.ops e m).add r r ≡ x
  packed_half x r v i b h w = ap packed (half_by_coefficients F S R D degree (map e m) (monic_along Q R e keeps D m monic) x.value r.value (written (λ u t. R.add u u ≡ t) x r v i b h w))

  doubled : (n : ℕ) → packed (power (ext_ops {F = F} {D = D} {S = S} R.ops (map e m)) (two (ext_ops R.ops (map e m))) n) ≡ power (over F S D R.ops e m) (two (over F S D R.ops e m)) n
  doubled n = H.map-power (packing_keeps R.ops (map e m)) (two (ext_ops R.ops (map e m))) n

  pub packed_double : (x r : PackedExtField F D S P) (n : ℕ) (v : List P) (i : ℕ) → D ≤ i → r.value.value ≡ v
      → ((d : P) (k : ℕ) → k < i → get_or v k d ≡ R.mul (get_or x.value.value k d) (power R.ops (two R.ops) n)) → r ≡ (over F S D R.ops e m).mul x (power (over F S D R.ops e m) (two (over F S D R.ops e m)) n)
  packed_double x r n v i b h w =
      ap packed (product_by_coefficients F S R D degree (map e m) (monic_along Q R e keeps D m monic) x.value r.value n (written (λ u t. u ≡ R.mul t (power R.ops (two R.ops) n)) x r v i b h w))
      ∙ ap ((over F S D R.ops e m).mul x) (doubled n)

  pub packed_halved : (x r : PackedExtField F D S P) (n : ℕ) (v : List P) (i : ℕ) → D ≤ i → r.value.value ≡ v
      → ((d : P) (k : ℕ) → k < i → R.mul (get_or v k d) (power R.ops (two R.ops) n) ≡ get_or x.value.value k d) → (over F S D R.ops e m).mul r (power (over F S D R.ops e m) (two (over F S D R.ops e m)) n) ≡ x
  packed_halved x r n v i b h w =
      ap ((over F S D R.ops e m).mul r) (sym (doubled n))
      ∙ ap packed (quotient_by_coefficients F S R D degree (map e m) (monic_along Q R e keeps D m monic) x.value r.value n (written (λ u t. R.mul u (power R.ops (two R.ops) n) ≡ t) x r v i b h w))

  -- what operators between values and packings give
  pub packed_scalar_sum : (gives : P → P → P → Type 0) → ((a b c : P) → gives a b c → c ≡ R.add a b) → (x r : PackedExtField F D S P) (c : P)
      → OnFirstCoefficient D gives x.value.value c r.value.value → r ≡ (over F S D R.ops e m).add x (packed_constant R.ops c)
  packed_scalar_sum gives is x r c h = ap packed (is_scalar_sum R D degree (map e m) gives is x.value r.value c h)

  pub packed_scalar_difference : (gives : P → P → P → Type 0) → ((a b c : P) → gives a b c → c ≡ subtract R.ops a b) → (x r : PackedExtField F D S P) (c : P)
      → OnFirstCoefficient D gives x.value.value c r.value.value → r ≡ subtract (over F S D R.ops e m) x (packed_constant R.ops c)
  packed_scalar_difference gives is x r c h = ap packed (is_scalar_difference R D degree (map e m) gives is x.value r.value c h)

  pub packed_scalar_product : (gives : P → P → P → Type 0) → ((a b c : P) → gives a b c → c ≡ R.mul a b) → (x r : PackedExtField F D S P) (c : P)
      → ((d : P) (k : ℕ) → k < D → gives (get_or x.value.value k d) c (get_or r.value.value k d)) → r ≡ (over F S D R.ops e m).mul x (packed_constant R.ops c)
  packed_scalar_product gives is x r c h = ap packed (is_scalar_product R D degree (map e m) gives (monic_along Q R e keeps D m monic) is x.value r.value c h)
