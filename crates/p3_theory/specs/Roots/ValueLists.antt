-- Lists that have every value of a type just once.
use Rattle.std.specs.Prelude.{◌≡◌, ◌⊎◌, ◌<◌, ◌*◌, ◌^◌, ◌++◌, ℕ, zero, suc, List, [], ◌∷◌, length, map, Some, refl}
use Rattle.std.proofs.Common.{ap, ap₂, arith, ◌∙◌, sym, subst, inl, inr, length-append}
use Rattle.std.proofs.Math.Nat.{pow-suc, pow-zero, ℕ_set, mod-eq_of_lt}
use Rattle.p3_theory.specs.Polynomials.Polynomial.{tabulate}
use Rattle.p3_theory.specs.Polynomials.Coefficients.{length-tabulate}
use Rattle.p3_theory.specs.Rings.Homomorphism.{length-map}
use Rattle.p3_theory.specs.ResidueRings.Residues.{IsResidues, canon-below}

-- x is an item of the list
abbrev pub IsIn : {A : Type 0} → A → List A → Type 0
IsIn x [] = ⊥
IsIn x (y ∷ ys) = (x ≡ y) ⊎ IsIn x ys

-- no item stands in the list twice
abbrev pub HasNoRepeats : {A : Type 0} → List A → Type 0
HasNoRepeats [] = Unit {0}
HasNoRepeats (y ∷ ys) = (IsIn y ys → ⊥) × HasNoRepeats ys

-- a list of n items that has every value of the type just once: there are n values
pub record ValueList (A : Type 0) (n : ℕ) : Type 0 where
  pub list : List A
  pub counted : length list ≡ n
  pub every : (x : A) → IsIn x list
  pub once : HasNoRepeats list

-- the list of a type whose count is given as n
pub values_where_given : {A : Type 0} {n : ℕ} → ValueList A n → (m : ℕ) → Some n ≡ Some m → ValueList A m
values_where_given {A} l m e = subst (ValueList A) (cc e) l

-- the items of a list under a map
module _ {A B : Type 0} (f : A → B) where
  pub in-map : (x : A) (xs : List A) → IsIn x xs → IsIn (f x) (map f xs)
  in-map x [] h = absurd h
  in-map x (y ∷ ys) (inl p) = inl (ap f p)
  in-map x (y ∷ ys) (inr p) = inr (in-map x ys p)

  pub from-map : (z : B) (xs : List A) → IsIn z (map f xs) → (x : A) × IsIn x xs × (z ≡ f x)
  from-map z [] h = absurd h
  from-map z (y ∷ ys) (inl p) = (y, inl refl, p)
  from-map z (y ∷ ys) (inr p) = let w = from-map z ys p in (w.0, inr w.1, w.2)

  pub no_repeats-map : ((x y : A) → f x ≡ f y → x ≡ y) → (xs : List A) → HasNoRepeats xs → HasNoRepeats (map f xs)
  no_repeats-map same [] d = tt
  no_repeats-map same (y ∷ ys) d =
      (λ h. let w = from-map (f y) ys h in d.0 (subst (λ v. IsIn v ys) (sym (same y w.0 w.2)) w.1), no_repeats-map same ys d.1)

  -- the values of a type that is one to one onto another
  pub values-map : {n : ℕ} → ((x y : A) → f x ≡ f y → x ≡ y) → ((z : B) → (x : A) × (f x ≡ z)) → ValueList A n → ValueList B n
  values-map same onto l = record {
    list = map f l.list;
    counted = length-map f l.list ∙ l.counted;
    every = λ z. let w = onto z in subst (λ v. IsIn v (map f l.list)) w.1 (in-map w.0 l.list (l.every w.0));
    once = no_repeats-map same l.list l.once;
  }

-- the items of two lists, one after the other
module _ {A : Type 0} where
  in-append : (x : A) (xs ys : List A) → IsIn x (xs ++ ys) → IsIn x xs ⊎ IsIn x ys
  in-append x [] ys h = inr h
  in-append x (y ∷ xs) ys (inl p) = inl (inl p)
  in-append x (y ∷ xs) ys (inr p) = elim (in-append x xs ys p) [ inl q ↦ inl (inr q) | inr q ↦ inr q ]

  in-left : (x : A) (xs ys : List A) → IsIn x xs → IsIn x (xs ++ ys)
  in-left x [] ys h = absurd h
  in-left x (y ∷ xs) ys (inl p) = inl p
  in-left x (y ∷ xs) ys (inr p) = inr (in-left x xs ys p)

  in-right : (x : A) (xs ys : List A) → IsIn x ys → IsIn x (xs ++ ys)
  in-right x [] ys h = h
  in-right x (y ∷ xs) ys h = inr (in-right x xs ys h)

  no_repeats-append : (xs ys : List A) → HasNoRepeats xs → HasNoRepeats ys → ((x : A) → IsIn x xs → IsIn x ys → ⊥) → HasNoRepeats (xs ++ ys)
  no_repeats-append [] ys d e apart = e
  no_repeats-append (x ∷ xs) ys d e apart =
      (λ h. elim (in-append x xs ys h) [ inl p ↦ d.0 p | inr p ↦ apart x (inl refl) p ], no_repeats-append xs ys d.1 e (λ z p q. apart z (inr p) q))

-- pairs
module _ {A B : Type 0} where
  abbrev pair : A → B → A × B
  pair x y = (x, y)

  abbrev pairs : List A → List B → List (A × B)
  pairs [] ys = []
  pairs (x ∷ xs) ys = map (pair x) ys ++ pairs xs ys

  length-pairs : (xs : List A) (ys : List B) → length (pairs xs ys) ≡ length xs * length ys
  length-pairs [] ys = omega arith
  length-pairs (x ∷ xs) ys = omega (arith, length-append (map (pair x) ys) (pairs xs ys), length-map (pair x) ys, length-pairs xs ys)

  in-pairs : (x : A) (y : B) (xs : List A) (ys : List B) → IsIn x xs → IsIn y ys → IsIn (pair x y) (pairs xs ys)
  in-pairs x y [] ys h k = absurd h
  in-pairs x y (z ∷ xs) ys (inl p) k =
      in-left _ (map (pair z) ys) (pairs xs ys) (subst (λ v. IsIn (pair v y) (map (pair z) ys)) (sym p) (in-map (pair z) y ys k))
  in-pairs x y (z ∷ xs) ys (inr p) k = in-right _ (map (pair z) ys) (pairs xs ys) (in-pairs x y xs ys p k)

  from-pairs : (c : A × B) (xs : List A) (ys : List B) → IsIn c (pairs xs ys) → IsIn c.0 xs
  from-pairs c [] ys h = absurd h
  from-pairs c (x ∷ xs) ys h = elim (in-append c (map (pair x) ys) (pairs xs ys) h) [
    | inl p ↦ inl (ap (λ (w : A × B). w.0) (from-map (pair x) c ys p).2)
    | inr p ↦ inr (from-pairs c xs ys p)
  ]

  no_repeats-pairs : (xs : List A) (ys : List B) → HasNoRepeats xs → HasNoRepeats ys → HasNoRepeats (pairs xs ys)
  no_repeats-pairs [] ys d e = tt
  no_repeats-pairs (x ∷ xs) ys d e =
      no_repeats-append (map (pair x) ys) (pairs xs ys) (no_repeats-map (pair x) (λ y z h. ap (λ (w : A × B). w.1) h) ys e) (no_repeats-pairs xs ys d.1 e)
      (λ c p q. d.0 (subst (λ v. IsIn v xs) (ap (λ (w : A × B). w.0) (from-map (pair x) c ys p).2) (from-pairs c xs ys q)))

  -- the pairs of m values and n values are m * n
  pub values-pairs : {m n : ℕ} → ValueList A m → ValueList B n → ValueList (A × B) (m * n)
  values-pairs l k = record {
    list = pairs l.list k.list;
    counted = length-pairs l.list k.list ∙ ap₂ (λ m n. m * n) l.counted k.counted;
    every = λ c. in-pairs c.0 c.1 l.list k.list (l.every c.0) (k.every c.1);
    once = no_repeats-pairs l.list k.list l.once k.once;
  }

-- a list of D items
abbrev pub Sized : Type 0 → ℕ → Type 0
Sized A D = (v : List A) × (length v ≡ D)

module _ {A : Type 0} where
  pub same_sized : (D : ℕ) (x y : Sized A D) → x.0 ≡ y.0 → x ≡ y
  same_sized D x y e =
      let by : (v : List A) → length v ≡ D → Sized A D = λ v h. (v, h) in
      (subst (λ (v : List A). (k : length v ≡ D) → by x.0 x.1 ≡ by v k) e (λ k. ap (by x.0) (ℕ_set _ _ x.1 k))) y.1

  abbrev longer : (D : ℕ) → A × Sized A D → Sized A (suc D)
  longer D c = (c.0 ∷ c.1.0, ap suc c.1.1)

  same_longer : (D : ℕ) (c d : A × Sized A D) → longer D c ≡ longer D d → c ≡ d
  same_longer D c d e =
      let lists : c.0 ∷ c.1.0 ≡ d.0 ∷ d.1.0 = ap (λ (w : Sized A (suc D)). w.0) e in
      let heads : c.0 ≡ d.0 = cc lists in
      let tails : c.1.0 ≡ d.1.0 = cc lists in
      ap₂ pair heads (same_sized D c.1 d.1 tails)

  every_longer : (D : ℕ) (w : Sized A (suc D)) → (c : A × Sized A D) × (longer D c ≡ w)
  every_longer D w = split w.0 w.1
    where
      split : (v : List A) (h : length v ≡ suc D) → (c : A × Sized A D) × (longer D c ≡ (v, h))
      split [] h = absurd (omega arith)
      split (x ∷ v) h = ((x, (v, omega (arith, h))), same_sized (suc D) _ _ refl)

  -- the lists of D items, each one of n values, are n ^ D
  pub values-lists : {n : ℕ} → ValueList A n → (D : ℕ) → ValueList (Sized A D) (n ^ D)
  values-lists {n = n} l zero = record {
    list = ([], refl) ∷ [];
    counted = sym (pow-zero n);
    every = λ x. inl (only x.0 x.1);
    once = (λ h. h, tt);
  }
    where
      only : (v : List A) (h : length v ≡ 0) → let x : Sized A 0 = (v, h) in x ≡ ([], refl)
      only [] h = same_sized 0 _ _ refl
      only (x ∷ v) h = absurd (omega (arith, h))
  values-lists {n = n} l (suc D) =
      subst (ValueList (Sized A (suc D))) (omega (arith, pow-suc n D)) (values-map (longer D) (same_longer D) (every_longer D) (values-pairs l (values-lists l D)))

-- s 0 to s (n - 1)
module _ {A : Type 0} where
  in-tabulate : (n : ℕ) (s : ℕ → A) (k : ℕ) → k < n → IsIn (s k) (tabulate n s)
  in-tabulate zero s k h = absurd (omega arith)
  in-tabulate (suc n) s zero h = inl refl
  in-tabulate (suc n) s (suc k) h = inr (in-tabulate n (λ i. s (suc i)) k (omega arith))

  from-tabulate : (n : ℕ) (s : ℕ → A) (x : A) → IsIn x (tabulate n s) → (k : ℕ) × (k < n) × (x ≡ s k)
  from-tabulate zero s x h = absurd h
  from-tabulate (suc n) s x (inl p) = (0, omega arith, p)
  from-tabulate (suc n) s x (inr p) = let w = from-tabulate n (λ i. s (suc i)) x p in (suc w.0, omega (arith, w.1), w.2)

  no_repeats-tabulate : (n : ℕ) (s : ℕ → A) → ((i j : ℕ) → i < n → j < n → s i ≡ s j → i ≡ j) → HasNoRepeats (tabulate n s)
  no_repeats-tabulate zero s same = tt
  no_repeats-tabulate (suc n) s same = (
    λ h. let w = from-tabulate n (λ i. s (suc i)) (s 0) h in
        let e : 0 ≡ suc w.0 = same 0 (suc w.0) (omega arith) (omega (arith, w.1)) w.2 in
        absurd (omega (arith, e)),
    no_repeats-tabulate n (λ i. s (suc i)) (λ i j a b e. let p : suc i ≡ suc j = same (suc i) (suc j) (omega arith) (omega arith) e in omega (arith, p)),
  )

-- the residues modulo n are n
pub values-residues : {A : Type 0} {n : ℕ} {canon : A → ℕ} {of : ℕ → A} → IsResidues n canon of → ValueList A n
values-residues {A} {n} {canon} {of} is = record {
  list = tabulate n of;
  counted = length-tabulate n of;
  every = λ x. subst (λ v. IsIn v (tabulate n of)) (is.of_canon x) (in-tabulate n of (canon x) (canon-below is x));
  once = no_repeats-tabulate n of (λ i j a b e. sym (mod-eq_of_lt a) ∙ sym (is.canon_of i) ∙ ap canon e ∙ is.canon_of j ∙ mod-eq_of_lt b);
}
