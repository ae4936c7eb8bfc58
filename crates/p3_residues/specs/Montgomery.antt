-- Montgomery's form: a word holds a residue times r modulo p, where r times i is one modulo p.
use Rattle.std.specs.Prelude.{◌≡◌, ◌<◌, ◌+◌, ◌-◌, ◌*◌, ◌%◌, ◌^◌, ℕ, List, [], ◌∷◌}
use Rattle.std.proofs.Common.{ap, ap₂, arith, ◌∙◌, sym}
use Rattle.std.proofs.Math.Nat.{add-mul-mod_self_left, mod-lt, mod-eq_of_lt, mul_assoc, mul-one, add-mul, zero-mod}
use Rattle.std.proofs.lemmas.Nat.{mul-mod_first, mul-mod_second}
use Rattle.p3_theory.specs.ResidueRings.Modular.{add-mod_first, add-mod_second}
use Rattle.p3_theory.specs.ResidueRings.SumsOfProducts.{sum_of_products}
use Rattle.p3_residues.specs.Forms.{IsForm, remainder_below}

module _ (p r i : ℕ) where
  -- the residue that a word stands for
  abbrev pub montgomery_canon : ℕ → ℕ
  montgomery_canon w = (w * i) % p

  -- the word that stands for a residue
  abbrev pub montgomery_word : ℕ → ℕ
  montgomery_word n = (n * r) % p

  -- words add up as their residues do
  pub sum_of_words : (t w v : ℕ) → t ≡ (w + v) % p → montgomery_canon t ≡ (montgomery_canon w + montgomery_canon v) % p
  sum_of_words t w v e =
      ap montgomery_canon e ∙ mul-mod_first (w + v) i p ∙ ap (λ z. z % p) (add-mul w v i) ∙ sym (add-mod_first (w * i) (montgomery_canon v) p ∙ add-mod_second (w * i) (v * i) p)

  joined : (w v k : ℕ) → k + v ≡ p → (w + k) * i + v * i ≡ w * i + p * i
  joined w v k e = (let regrouped : (w + k) * i + v * i ≡ w * i + (k + v) * i = omega arith in regrouped) ∙ ap (λ z. w * i + z * i) e

  lessened : (w v : ℕ) → v < p → ((w + (p - v)) * i) % p ≡ (montgomery_canon w + (p - montgomery_canon v)) % p
  lessened w v h =
      let x = (w + (p - v)) * i in
      let b = (v * i) % p in
      let below : b < p = mod-lt (v * i) (omega (arith, h)) in
      let restored : x + p * 1 ≡ (x + b) + (p - b) = omega (arith, below) in
      let same : (x + b) % p ≡ (w * i) % p =
      add-mod_second x (v * i) p ∙ ap (λ z. z % p) (joined w v (p - v) (omega (arith, h))) ∙ add-mul-mod_self_left (w * i) p i in
      sym (add-mul-mod_self_left x p 1) ∙ ap (λ z. z % p) restored ∙ sym (add-mod_first (x + b) (p - b) p) ∙ ap (λ z. (z + (p - b)) % p) same

  pub difference_of_words : (t w v : ℕ) → v < p → t ≡ (w + (p - v)) % p → montgomery_canon t ≡ (montgomery_canon w + (p - montgomery_canon v)) % p
  difference_of_words t w v h e = ap montgomery_canon e ∙ mul-mod_first (w + (p - v)) i p ∙ lessened w v h

  pub negation_of_word : (t w : ℕ) → w < p → t ≡ (p - w) % p → montgomery_canon t ≡ (p - montgomery_canon w) % p
  negation_of_word t w h e =
      let none : montgomery_canon 0 ≡ 0 = ap (λ z. z % p) (let f : 0 * i ≡ 0 = omega arith in f) ∙ zero-mod p in
      let less : p - w ≡ 0 + (p - w) = omega arith in
      difference_of_words t 0 w h (e ∙ ap (λ z. z % p) less) ∙ ap (λ z. (z + (p - montgomery_canon w)) % p) none
      ∙ ap (λ z. z % p) (let f : 0 + (p - montgomery_canon w) ≡ p - montgomery_canon w = omega arith in f)

  pub half_of_word : (t w : ℕ) → (t + t) % p ≡ w → (montgomery_canon t + montgomery_canon t) % p ≡ montgomery_canon w
  half_of_word t w e = sym (sum_of_words w t t (sym e))

-- the square of r is taken modulo p
pub square_below : (p s r : ℕ) → 1 < p → s ≡ (r * r) % p → s < p
square_below p s r above e = let h = remainder_below p (r * r) above in omega (arith, e, h)

module _ (p r i : ℕ) (unit : (r * i) % p ≡ 1) where
  abbrev canon : ℕ → ℕ
  canon = montgomery_canon p r i

  once : (n : ℕ) → (n * (r * i)) % p ≡ n % p
  once n = sym (mul-mod_second n (r * i) p) ∙ ap (λ z. (n * z) % p) unit ∙ ap (λ z. z % p) (mul-one n)

  undone : (n : ℕ) → n < p → canon ((n * r) % p) ≡ n
  undone n h = mul-mod_first (n * r) i p ∙ ap (λ z. z % p) (mul_assoc n r i) ∙ once n ∙ mod-eq_of_lt h

  redone : (w : ℕ) → w < p → (canon w * r) % p ≡ w
  redone w h =
      let regrouped : w * i * r ≡ w * (r * i) = omega arith in
      mul-mod_first (w * i) r p ∙ ap (λ z. z % p) regrouped ∙ once w ∙ mod-eq_of_lt h

  -- the words below p are one to one onto the residues
  pub montgomery : 1 < p → p < 2 ^ 64 → IsForm p (λ w. w) (montgomery_canon p r i) (montgomery_word p r i)
  montgomery above f = record {
    above_one = above;
    fits = f;
    canon_below = λ w _. mod-lt (w * i) (omega (arith, above));
    word_below = λ n _. mod-lt (n * r) (omega (arith, above));
    canon_word = undone;
    word_canon = redone;
  }

  -- what times r is the number c
  divided : (t c : ℕ) → t < p → (t * r) % p ≡ c % p → t ≡ (c * i) % p
  divided t c h e = sym (undone t h) ∙ ap (λ z. (z * i) % p) e ∙ mul-mod_first c i p

  -- a reduction of a word is its residue
  pub residue_reduced : (t w : ℕ) → t < p → (t * r) % p ≡ w % p → t ≡ canon w
  residue_reduced t w h e = divided t w h e

  -- a reduction of a number times r^2 is the word of its residue
  pub word_reduced : (t n s : ℕ) → t < p → s ≡ (r * r) % p → (t * r) % p ≡ (s * n) % p → t ≡ (n * r) % p
  word_reduced t n s h square e =
      let regrouped : r * r * n * i ≡ n * r * (r * i) = omega arith in
      divided t (s * n) h e ∙ sym (mul-mod_first (s * n) i p) ∙ ap (λ z. (z * i) % p) (ap (λ z. (z * n) % p) square ∙ mul-mod_first (r * r) n p)
      ∙ mul-mod_first (r * r * n) i p ∙ ap (λ z. z % p) regrouped ∙ once (n * r)

  pub residue_of_word : (t n : ℕ) → t ≡ (n * r) % p → canon t ≡ n % p
  residue_of_word t n e = ap canon e ∙ mul-mod_first (n * r) i p ∙ ap (λ z. z % p) (mul_assoc n r i) ∙ once n

  -- a reduction of the product of words is the word of the product
  pub product_reduced : (t w v : ℕ) → t < p → (t * r) % p ≡ (w * v) % p → canon t ≡ (canon w * canon v) % p
  product_reduced t w v h e =
      let regrouped : w * v * i * i ≡ w * i * (v * i) = omega arith in
      ap canon (divided t (w * v) h e) ∙ mul-mod_first (w * v * i) i p ∙ ap (λ z. z % p) regrouped
      ∙ sym (mul-mod_first (w * i) (canon v) p ∙ mul-mod_second (w * i) (v * i) p)

  -- the sum of the products of words is that of their residues times r^2
  module _ {A : Type 0} (word : A → ℕ) where
    scaled : (xs ys : List A) → sum_of_products (λ x. canon (word x)) xs ys % p ≡ (sum_of_products word xs ys * (i * i)) % p
    scaled [] ys = ap (λ m. m % p) (let e : 0 ≡ 0 * (i * i) = omega arith in e)
    scaled (x ∷ xs) [] = ap (λ m. m % p) (let e : 0 ≡ 0 * (i * i) = omega arith in e)
    scaled (x ∷ xs) (y ∷ ys) =
        let w = word x in
        let v = word y in
        let s = sum_of_products word xs ys in
        let rest = sum_of_products (λ z. canon (word z)) xs ys in
        let regrouped : w * i * (v * i) ≡ w * v * (i * i) = omega arith in
        let whole : w * v * (i * i) + s * (i * i) ≡ (w * v + s) * (i * i) = omega arith in
        sym (add-mod_second ((canon w * canon v) % p) rest p ∙ add-mod_first (canon w * canon v) rest p)
        ∙ ap₂ (λ a b. (a + b) % p) (mul-mod_first (w * i) (canon v) p ∙ mul-mod_second (w * i) (v * i) p ∙ ap (λ z. z % p) regrouped) (scaled xs ys)
        ∙ add-mod_first (w * v * (i * i)) ((s * (i * i)) % p) p ∙ add-mod_second (w * v * (i * i)) (s * (i * i)) p ∙ ap (λ z. z % p) whole

    -- so a reduction of the former is the word of the latter
    pub sum_reduced : (t : ℕ) (xs ys : List A) → t < p → (t * r) % p ≡ sum_of_products word xs ys % p
        → canon t ≡ sum_of_products (λ x. canon (word x)) xs ys % p
    sum_reduced t xs ys h e =
        let s = sum_of_products word xs ys in
        ap canon (divided t s h e) ∙ mul-mod_first (s * i) i p ∙ ap (λ z. z % p) (mul_assoc s i i) ∙ sym (scaled xs ys)
