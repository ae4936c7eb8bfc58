-- Lagrange's formula at zero, over every commutative ring.
use Rattle.std.proofs.Common.{◌≡◌, ◌≤◌, suc, List, [], ◌∷◌, length, map, refl, sym, ap, ap₂, subst, ◌∙◌, arith}
use mathlib.Core.Path.{fun_ext}
use Rattle.p3_theory.specs.Rings.Ring.{Ops, Ring, subtract}
use Rattle.p3_theory.specs.Rings.Basics.{mul_from_one}
use Rattle.p3_theory.specs.Rings.Operators.{product_list}
use Rattle.p3_theory.specs.Rings.Homomorphism.{identity}
use Rattle.p3_theory.specs.Polynomials.Polynomial.{at}
use Rattle.p3_theory.specs.Polynomials.HornerFold.{eval-cons}
use Rattle.p3_theory.specs.Lists.PairedLists.{zip_with}
use Rattle.p3_theory.specs.RingSolver.Reify.{by_laws, reads, yes}
use Rattle.example_shares.specs.Secrets.{value_at, IsSecret}

module _ {A : Type 0} (O : Ops A) where
  open O use {zero as 𝟎, one as 𝟏, add as ◌⊕◌, mul as ◌⊗◌, neg}

  infixl 60 ◌⊕◌
  infixl 70 ◌⊗◌
  -- the product of the differences of the points and a
  abbrev pub differences : A → List A → A
  differences a xs = product_list O (map (λ x. subtract O x a) xs)

  -- the sum over the points of the value times the weight times the product of the other points
  abbrev pub lagrange : List A → List A → List A → A
  lagrange [] ys ws = 𝟎
  lagrange (x ∷ xs) [] ws = 𝟎
  lagrange (x ∷ xs) (y ∷ ys) [] = 𝟎
  lagrange (x ∷ xs) (y ∷ ys) (w ∷ ws) = y ⊗ w ⊗ product_list O xs ⊕ x ⊗ lagrange xs ys ws

  -- the weights of the other points once a is taken away
  abbrev pub reduced : A → List A → List A → List A
  reduced a xs ws = zip_with (λ x w. w ⊗ subtract O a x) xs ws

  -- each weight is an inverse of the product of the differences of the other points and its own
  abbrev pub AreWeights : List A → List A → Type 0
  AreWeights [] ws = ws ≡ []
  AreWeights (x ∷ xs) [] = ⊥
  AreWeights (x ∷ xs) (w ∷ ws) = (w ⊗ differences x xs ≡ 𝟏) × AreWeights xs (reduced x xs ws)

  -- the polynomial of lower degree by which c0 + X * c at t is its value at a, and t less a times it
  abbrev pub quotient : A → List A → List A
  quotient a [] = []
  quotient a (d ∷ ds) = value_at O (d ∷ ds) a ∷ quotient a ds

module _ {A : Type 0} (R : Ring A) where
  open R use {zero as 𝟎, one as 𝟏, add as ◌⊕◌, mul as ◌⊗◌, neg}

  infixl 60 ◌⊕◌
  infixl 70 ◌⊗◌
  abbrev less : A → A → A
  less x y = x ⊕ neg y

  abbrev L : List A → List A → List A → A
  L = lagrange R.ops

  abbrev V : List A → A → A
  V = value_at R.ops

  reduced-swap : (a b : A) (xs ws : List A) → reduced R.ops a xs (reduced R.ops b xs ws) ≡ reduced R.ops b xs (reduced R.ops a xs ws)
  reduced-swap a b [] ws = refl
  reduced-swap a b (x ∷ xs) [] = refl
  reduced-swap a b (x ∷ xs) (w ∷ ws) = ap₂ (λ y ys. y ∷ ys) one (reduced-swap a b xs ws)
    where
      one : w ⊗ less b x ⊗ less a x ≡ w ⊗ less a x ⊗ less b x
      one = by_laws R.ops R.laws (a ∷ b ∷ x ∷ w ∷ []) (search reads depth 99 fits 99999) (search reads depth 99 fits 99999) yes

  -- the formula is linear in the values
  linear : (g h : A → A) (k : A) (xs ws : List A)
      → L xs (map (λ t. g t ⊕ k ⊗ h t) xs) ws ≡ L xs (map g xs) ws ⊕ k ⊗ L xs (map h xs) ws
  linear g h k [] ws = by_laws R.ops R.laws (k ∷ []) (search reads depth 99 fits 99999) (search reads depth 99 fits 99999) yes
  linear g h k (x ∷ xs) [] = by_laws R.ops R.laws (k ∷ []) (search reads depth 99 fits 99999) (search reads depth 99 fits 99999) yes
  linear g h k (x ∷ xs) (w ∷ ws) =
      ap (λ z. (g x ⊕ k ⊗ h x) ⊗ w ⊗ product_list R.ops xs ⊕ x ⊗ z) (linear g h k xs ws)
      ∙ join (g x) (h x) w (product_list R.ops xs) (L xs (map g xs) ws) (L xs (map h xs) ws)
    where
      join : (y z w p s t : A) → (y ⊕ k ⊗ z) ⊗ w ⊗ p ⊕ x ⊗ (s ⊕ k ⊗ t) ≡ (y ⊗ w ⊗ p ⊕ x ⊗ s) ⊕ k ⊗ (z ⊗ w ⊗ p ⊕ x ⊗ t)
      join y z w p s t = by_laws R.ops R.laws (k ∷ x ∷ y ∷ z ∷ w ∷ p ∷ s ∷ t ∷ []) (search reads depth 99 fits 99999) (search reads depth 99 fits 99999) yes

  -- values with the factor t - a, at points but a
  scaled : (g : A → A) (a : A) (xs ws : List A) → L xs (map (λ t. less t a ⊗ g t) xs) ws ≡ neg (L xs (map g xs) (reduced R.ops a xs ws))
  scaled g a [] ws = by_laws R.ops R.laws [] (search reads depth 99 fits 99999) (search reads depth 99 fits 99999) yes
  scaled g a (x ∷ xs) [] = by_laws R.ops R.laws [] (search reads depth 99 fits 99999) (search reads depth 99 fits 99999) yes
  scaled g a (x ∷ xs) (w ∷ ws) =
      ap (λ z. less x a ⊗ g x ⊗ w ⊗ product_list R.ops xs ⊕ x ⊗ z) (scaled g a xs ws)
      ∙ join (g x) w (product_list R.ops xs) (L xs (map g xs) (reduced R.ops a xs ws))
    where
      join : (y w p s : A) → less x a ⊗ y ⊗ w ⊗ p ⊕ x ⊗ neg s ≡ neg (y ⊗ (w ⊗ less a x) ⊗ p ⊕ x ⊗ s)
      join y w p s = by_laws R.ops R.laws (a ∷ x ∷ y ∷ w ∷ p ∷ s ∷ []) (search reads depth 99 fits 99999) (search reads depth 99 fits 99999) yes

  -- at points with a, that one drops out
  removed : (g : A → A) (a w : A) (xs ws : List A)
      → L (a ∷ xs) (map (λ t. less t a ⊗ g t) (a ∷ xs)) (w ∷ ws) ≡ neg (a ⊗ L xs (map g xs) (reduced R.ops a xs ws))
  removed g a w xs ws =
      ap (λ z. less a a ⊗ g a ⊗ w ⊗ product_list R.ops xs ⊕ a ⊗ z) (scaled g a xs ws)
      ∙ join (g a) (product_list R.ops xs) (L xs (map g xs) (reduced R.ops a xs ws))
    where
      join : (y p s : A) → less a a ⊗ y ⊗ w ⊗ p ⊕ a ⊗ neg s ≡ neg (a ⊗ s)
      join y p s = by_laws R.ops R.laws (a ∷ y ∷ w ∷ p ∷ s ∷ []) (search reads depth 99 fits 99999) (search reads depth 99 fits 99999) yes

  -- the first two points are exchanged
  swapped : (g : A → A) (a b u v : A) (xs ws : List A) → L (a ∷ b ∷ xs) (map g (a ∷ b ∷ xs)) (u ∷ v ∷ ws) ≡ L (b ∷ a ∷ xs) (map g (b ∷ a ∷ xs)) (v ∷ u ∷ ws)
  swapped g a b u v xs ws = join (g a) (g b) (product_list R.ops xs) (L xs (map g xs) ws)
    where
      join : (y z p s : A) → y ⊗ u ⊗ (b ⊗ p) ⊕ a ⊗ (z ⊗ v ⊗ p ⊕ b ⊗ s) ≡ z ⊗ v ⊗ (a ⊗ p) ⊕ b ⊗ (y ⊗ u ⊗ p ⊕ a ⊗ s)
      join y z p s = by_laws R.ops R.laws (a ∷ b ∷ u ∷ v ∷ y ∷ z ∷ p ∷ s ∷ []) (search reads depth 99 fits 99999) (search reads depth 99 fits 99999) yes

  weights-swapped : (a b u v : A) (xs ws : List A) → AreWeights R.ops (a ∷ b ∷ xs) (u ∷ v ∷ ws) → AreWeights R.ops (b ∷ a ∷ xs) (v ∷ u ∷ ws)
  weights-swapped a b u v xs ws h = (
    sym (R.mul_assoc v (less a b) (differences R.ops b xs)) ∙ h.1.0,
    (
      R.mul_assoc u (less b a) (differences R.ops a xs) ∙ h.0,
      (let P : List A → Type 0 = λ l. AreWeights R.ops xs l in subst P (reduced-swap b a xs ws) h.1.1),
    ),
  )

  -- a factor with an inverse may be taken away
  undone : (u d t s : A) → u ⊗ d ≡ 𝟏 → d ⊗ t ≡ d ⊗ s → t ≡ s
  undone u d t s h e = back t ∙ ap (λ z. u ⊗ z) e ∙ sym (back s)
    where
      back : (z : A) → z ≡ u ⊗ (d ⊗ z)
      back z = sym (mul_from_one R _ z h) ∙ R.mul_assoc u d z

  -- the formula is one where all values are
  unity : (a : A) (xs : List A) (w : A) (ws : List A) → AreWeights R.ops (a ∷ xs) (w ∷ ws) → L (a ∷ xs) (map (λ t. 𝟏) (a ∷ xs)) (w ∷ ws) ≡ 𝟏
  unity a [] w ws h = join ∙ h.0
    where
      join : 𝟏 ⊗ w ⊗ 𝟏 ⊕ a ⊗ 𝟎 ≡ w ⊗ 𝟏
      join = by_laws R.ops R.laws (a ∷ w ∷ []) (search reads depth 99 fits 99999) (search reads depth 99 fits 99999) yes
  unity a (b ∷ xs) w [] h = absurd h.1
  unity a (b ∷ xs) w (v ∷ ws) h =
      undone (v ⊗ differences R.ops b xs) (less a b) ones 𝟏 unit
      (apart ones (L zs (map (λ t. less t a ⊗ 𝟏) zs) us) (L zs (map (λ t. less t b ⊗ 𝟏) zs) us) shifted
      (removed (λ t. 𝟏) a w (b ∷ xs) (v ∷ ws) ∙ ap (λ z. neg (a ⊗ z)) (unity b xs _ _ h.1))
      (swapped (λ t. less t b ⊗ 𝟏) a b w v xs ws
      ∙ removed (λ t. 𝟏) b v (a ∷ xs) (w ∷ ws) ∙ ap (λ z. neg (b ⊗ z)) (unity a xs _ _ other.1)))
    where
      zs : List A
      zs = a ∷ b ∷ xs

      us : List A
      us = w ∷ v ∷ ws

      ones : A
      ones = L zs (map (λ t. 𝟏) zs) us

      other : AreWeights R.ops (b ∷ a ∷ xs) (v ∷ w ∷ ws)
      other = weights-swapped a b w v xs ws h

      unit : v ⊗ differences R.ops b xs ⊗ less a b ≡ 𝟏
      unit = turn v (differences R.ops b xs) ∙ other.0
        where
          turn : (x y : A) → x ⊗ y ⊗ less a b ≡ x ⊗ (less a b ⊗ y)
          turn x y = by_laws R.ops R.laws (a ∷ b ∷ x ∷ y ∷ []) (search reads depth 99 fits 99999) (search reads depth 99 fits 99999) yes

      shifted : L zs (map (λ t. less t b ⊗ 𝟏) zs) us ≡ L zs (map (λ t. less t a ⊗ 𝟏) zs) us ⊕ less a b ⊗ ones
      shifted =
          ap (λ g. L zs (map g zs) us) (fun_ext point) ∙ linear (λ t. less t a ⊗ 𝟏) (λ t. 𝟏) (less a b) zs us
        where
          point : (t : A) → less t b ⊗ 𝟏 ≡ less t a ⊗ 𝟏 ⊕ less a b ⊗ 𝟏
          point t = by_laws R.ops R.laws (a ∷ b ∷ t ∷ []) (search reads depth 99 fits 99999) (search reads depth 99 fits 99999) yes

      apart : (one at_a at_b : A) → at_b ≡ at_a ⊕ less a b ⊗ one → at_a ≡ neg (a ⊗ 𝟏) → at_b ≡ neg (b ⊗ 𝟏) → less a b ⊗ one ≡ less a b ⊗ 𝟏
      apart one at_a at_b e p q =
          out at_a (less a b ⊗ one) ∙ ap₂ (λ x y. less x y) (sym e ∙ q) p ∙ turn
        where
          out : (x y : A) → y ≡ less (x ⊕ y) x
          out x y = by_laws R.ops R.laws (x ∷ y ∷ []) (search reads depth 99 fits 99999) (search reads depth 99 fits 99999) yes

          turn : less (neg (b ⊗ 𝟏)) (neg (a ⊗ 𝟏)) ≡ less a b ⊗ 𝟏
          turn = by_laws R.ops R.laws (a ∷ b ∷ []) (search reads depth 99 fits 99999) (search reads depth 99 fits 99999) yes

  value-cons : (c : A) (cs : List A) (t : A) → V (c ∷ cs) t ≡ c ⊕ t ⊗ V cs t
  value-cons c cs t = eval-cons R R (λ x. x) (identity R.ops) t c cs

  pub value-zero : (c : List A) → V c 𝟎 ≡ at R.ops c 0
  value-zero [] = refl
  value-zero (c ∷ cs) = value-cons c cs 𝟎 ∙ join c (V cs 𝟎)
    where
      join : (x y : A) → x ⊕ 𝟎 ⊗ y ≡ x
      join x y = by_laws R.ops R.laws (x ∷ y ∷ []) (search reads depth 99 fits 99999) (search reads depth 99 fits 99999) yes

  length-quotient : (a : A) (c : List A) → length (quotient R.ops a c) ≡ length c
  length-quotient a [] = refl
  length-quotient a (d ∷ ds) = ap suc (length-quotient a ds)

  quotient-value : (a t : A) (c : List A) → less t a ⊗ V (quotient R.ops a c) t ≡ less (t ⊗ V c t) (a ⊗ V c a)
  quotient-value a t [] = by_laws R.ops R.laws (a ∷ t ∷ []) (search reads depth 99 fits 99999) (search reads depth 99 fits 99999) yes
  quotient-value a t (d ∷ ds) =
      ap (λ z. less t a ⊗ z) (value-cons (V (d ∷ ds) a) (quotient R.ops a ds) t)
      ∙ out (V (d ∷ ds) a) (V (quotient R.ops a ds) t)
      ∙ ap₂ (λ y z. less t a ⊗ y ⊕ t ⊗ z) (value-cons d ds a) (quotient-value a t ds)
      ∙ join d (V ds t) (V ds a)
      ∙ ap₂ (λ y z. less (t ⊗ y) (a ⊗ z)) (sym (value-cons d ds t)) (sym (value-cons d ds a))
    where
      out : (x y : A) → less t a ⊗ (x ⊕ t ⊗ y) ≡ less t a ⊗ x ⊕ t ⊗ (less t a ⊗ y)
      out x y = by_laws R.ops R.laws (a ∷ t ∷ x ∷ y ∷ []) (search reads depth 99 fits 99999) (search reads depth 99 fits 99999) yes

      join : (x y z : A) → less t a ⊗ (x ⊕ a ⊗ z) ⊕ t ⊗ less (t ⊗ y) (a ⊗ z) ≡ less (t ⊗ (x ⊕ t ⊗ y)) (a ⊗ (x ⊕ a ⊗ z))
      join x y z = by_laws R.ops R.laws (a ∷ t ∷ x ∷ y ∷ z ∷ []) (search reads depth 99 fits 99999) (search reads depth 99 fits 99999) yes

  -- a polynomial at t is its value at a, and t - a times one of lower degree
  divided : (a t c : A) (cs : List A) → V (c ∷ cs) t ≡ less t a ⊗ V (quotient R.ops a cs) t ⊕ V (c ∷ cs) a ⊗ 𝟏
  divided a t c cs =
      value-cons c cs t ∙ join c (V cs t) (V cs a) ∙ ap₂ (λ y z. y ⊕ z ⊗ 𝟏) (sym (quotient-value a t cs)) (sym (value-cons c cs a))
    where
      join : (x y z : A) → x ⊕ t ⊗ y ≡ less (t ⊗ y) (a ⊗ z) ⊕ (x ⊕ a ⊗ z) ⊗ 𝟏
      join x y z = by_laws R.ops R.laws (a ∷ t ∷ x ∷ y ∷ z ∷ []) (search reads depth 99 fits 99999) (search reads depth 99 fits 99999) yes

  zeros : (xs ws : List A) → L xs (map (V []) xs) ws ≡ 𝟎
  zeros [] ws = refl
  zeros (x ∷ xs) [] = refl
  zeros (x ∷ xs) (w ∷ ws) = ap (λ z. 𝟎 ⊗ w ⊗ product_list R.ops xs ⊕ x ⊗ z) (zeros xs ws) ∙ join (product_list R.ops xs)
    where
      join : (p : A) → 𝟎 ⊗ w ⊗ p ⊕ x ⊗ 𝟎 ≡ 𝟎
      join p = by_laws R.ops R.laws (x ∷ w ∷ p ∷ []) (search reads depth 99 fits 99999) (search reads depth 99 fits 99999) yes

  -- the formula at the values of a polynomial, with no more coefficients than there are points, is its value at zero
  pub interpolates : (xs ws : List A) → AreWeights R.ops xs ws → (c : List A) → length c ≤ length xs → L xs (map (V c) xs) ws ≡ V c 𝟎
  interpolates xs ws h [] le = zeros xs ws
  interpolates [] ws h (c ∷ cs) le = absurd (omega (arith, le))
  interpolates (a ∷ xs) [] h (c ∷ cs) le = absurd h
  interpolates (a ∷ xs) (w ∷ ws) h (c ∷ cs) le =
      ap (λ g. L (a ∷ xs) (map g (a ∷ xs)) (w ∷ ws)) (fun_ext (λ t. divided a t c cs))
      ∙ linear (λ t. less t a ⊗ V q t) (λ t. 𝟏) (V (c ∷ cs) a) (a ∷ xs) (w ∷ ws)
      ∙ ap₂ (λ y z. y ⊕ V (c ∷ cs) a ⊗ z) (removed (V q) a w xs ws ∙ ap (λ z. neg (a ⊗ z)) (interpolates xs (reduced R.ops a xs ws) h.1 q shorter)) (unity a xs w ws h)
      ∙ join (V q 𝟎) (V (c ∷ cs) a)
      ∙ sym (divided a 𝟎 c cs)
    where
      q : List A
      q = quotient R.ops a cs

      shorter : length q ≤ length xs
      shorter = omega (arith, length-quotient a cs, le)

      join : (y z : A) → neg (a ⊗ y) ⊕ z ⊗ 𝟏 ≡ less 𝟎 a ⊗ y ⊕ z ⊗ 𝟏
      join y z = by_laws R.ops R.laws (a ∷ y ∷ z ∷ []) (search reads depth 99 fits 99999) (search reads depth 99 fits 99999) yes

  -- so the formula is the secret
  pub secret : (xs ys ws : List A) (s : A) → AreWeights R.ops xs ws → s ≡ L xs ys ws → IsSecret R.ops xs ys s
  secret xs ys ws s h e c le known = e ∙ ap (λ l. L xs l ws) known ∙ interpolates xs ws h c le ∙ value-zero c
