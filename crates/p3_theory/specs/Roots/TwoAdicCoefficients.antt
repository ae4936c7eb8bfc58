-- Two-adic generators of an extension, told by their coefficients.
use Rattle.std.specs.Prelude.{◌≡◌, ◌<◌, ℕ, suc, List, [], ◌∷◌, map, get_or, refl}
use Rattle.std.proofs.Common.{ap, ap₂, sym, ◌∙◌, subst, drop}
use Rattle.p3_theory.specs.Rings.Ring.{Ops, Hom}
use Rattle.p3_theory.specs.Polynomials.Polynomial.{tabulate, embed, quotient_neg, quotient_mul, quotient_ops}
use Rattle.p3_theory.specs.Lists.ByIndex.{get-tabulate}
use Rattle.p3_theory.specs.Rings.Homomorphism.{map-tabulate, quotient-map}
use Rattle.p3_theory.specs.Roots.TwoAdic.{AreTwoAdicGenerators}

-- the element for so many bits has the coefficient c bits i at X^i
abbrev pub with_coefficients : {A : Type 0} → ℕ → (ℕ → ℕ → A) → ℕ → List A
with_coefficients D c bits = tabulate D (c bits)

-- the elements with these coefficients are two-adic generators modulo f
abbrev pub AreExtensionGenerators : {A : Type 0} → Ops A → ℕ → List A → ℕ → (ℕ → ℕ → A) → Type 0
AreExtensionGenerators O D f s c = AreTwoAdicGenerators (quotient_ops O D f) s (with_coefficients D c)

-- the number at index i of the row for so many bits, and 0 past the end
abbrev pub entry : List (List ℕ) → ℕ → ℕ → ℕ
entry table bits i = get_or (get_or table bits []) i 0

-- the equations that generators with computed coefficients owe, each of them decided at once: the one for
-- no bits is one, each one up to s squared is the one before it, and the one for one bit is minus one
pub record GeneratorEquations {A : Type 0} (O : Ops A) (D : ℕ) (f : List A) (s : ℕ) (c : ℕ → ℕ → A) : Type 0 where
  pub trivial : with_coefficients D c 0 ≡ embed O D O.one
  pub squares :
      tabulate s (λ k. let g : List A = with_coefficients D c (suc k) in quotient_mul O D f g g) ≡ tabulate s (with_coefficients D c)
  pub minus_one : 0 < s → with_coefficients D c 1 ≡ quotient_neg O D (embed O D O.one)

-- they make two-adic generators
pub equations_generate : {A : Type 0} (O : Ops A) (D : ℕ) (f : List A) (s : ℕ) (c : ℕ → ℕ → A) → GeneratorEquations O D f s c
    → AreExtensionGenerators O D f s c
equations_generate {A = A} O D f s c t =
    let g : ℕ → List A = with_coefficients D c in
    record {
      trivial = t.trivial;
      squares = λ k below.
          sym (get-tabulate s (λ k. quotient_mul O D f (g (suc k)) (g (suc k))) k [] below) ∙ ap (λ l. get_or l k []) t.squares ∙ get-tabulate s g k [] below;
      minus_one = t.minus_one;
    }

-- two-adic generators go along with the operations
pub generators-along : {A B : Type 0} {O : Ops A} {P : Ops B} {h : A → B} → Hom O P h → (s : ℕ) (g : ℕ → A) → AreTwoAdicGenerators O s g
    → AreTwoAdicGenerators P s (λ k. h (g k))
generators-along {O = O} {P = P} {h = h} H s g a = record {
  trivial = ap h a.trivial ∙ H.one;
  squares = λ k below. sym (H.mul (g (suc k)) (g (suc k))) ∙ ap h (a.squares k below);
  minus_one = λ some. ap h (a.minus_one some) ∙ H.neg O.one ∙ ap P.neg H.one;
}

-- the same elements in other words
pub same_generators : {A : Type 0} {O : Ops A} {s : ℕ} (g g' : ℕ → A) → ((k : ℕ) → g k ≡ g' k) → AreTwoAdicGenerators O s g → AreTwoAdicGenerators O s g'
same_generators {O = O} g g' e a = record {
  trivial = sym (e 0) ∙ a.trivial;
  squares = λ k below. sym (ap (λ x. O.mul x x) (e (suc k))) ∙ a.squares k below ∙ e k;
  minus_one = λ some. sym (e 1) ∙ a.minus_one some;
}

-- coefficients go along with a map of the coefficient rings
pub coefficients-along : {A B : Type 0} {O : Ops A} {P : Ops B} {h : A → B} → Hom O P h → (D : ℕ) (f : List A) (g : List B) → map h f ≡ g
    → (s : ℕ) (c : ℕ → ℕ → A) → AreExtensionGenerators O D f s c → AreExtensionGenerators P D g s (λ bits i. h (c bits i))
coefficients-along {B = B} {O = O} {P = P} {h = h} H D f g e s c a =
    let T : List B → Type 0 = λ l. AreExtensionGenerators P D l s (λ bits i. h (c bits i)) in
    subst T e (same_generators (λ k. map h (with_coefficients D c k)) (with_coefficients D (λ bits i. h (c bits i))) (λ k. map-tabulate h D (c k))
    (generators-along (quotient-map O P h H D f) s (with_coefficients D c) a))

-- and back along one that is one to one
pub generators-back : {A B : Type 0} {O : Ops A} {P : Ops B} {h : A → B} → Hom O P h → ((x y : A) → h x ≡ h y → x ≡ y) → (s : ℕ) (g : ℕ → A)
    → AreTwoAdicGenerators P s (λ k. h (g k)) → AreTwoAdicGenerators O s g
generators-back {O = O} {P = P} H same s g a = record {
  trivial = same (g 0) O.one (a.trivial ∙ sym H.one);
  squares = λ k below. same (O.mul (g (suc k)) (g (suc k))) (g k) (H.mul (g (suc k)) (g (suc k)) ∙ a.squares k below);
  minus_one = λ some. same (g 1) (O.neg O.one) (a.minus_one some ∙ sym (H.neg O.one ∙ ap P.neg H.one));
}

same_lists : {A B : Type 0} (h : A → B) → ((x y : A) → h x ≡ h y → x ≡ y) → (xs ys : List A) → map h xs ≡ map h ys → xs ≡ ys
same_lists h same [] [] e = refl
same_lists h same [] (y ∷ ys) e = absurd (cc e)
same_lists h same (x ∷ xs) [] e = absurd (cc e)
same_lists h same (x ∷ xs) (y ∷ ys) e =
    ap₂ (λ v vs. v ∷ vs) (same x y (ap (λ l. get_or l 0 (h x)) e)) (same_lists h same xs ys (ap (drop 1) e))

pub coefficients-back : {A B : Type 0} {O : Ops A} {P : Ops B} {h : A → B} → Hom O P h → ((x y : A) → h x ≡ h y → x ≡ y) → (D : ℕ) (f : List A) (g : List B)
    → map h f ≡ g → (s : ℕ) (c : ℕ → ℕ → A) → AreExtensionGenerators P D g s (λ bits i. h (c bits i)) → AreExtensionGenerators O D f s c
coefficients-back {B = B} {O = O} {P = P} {h = h} H same D f g e s c a =
    let T : List B → Type 0 = λ l. AreExtensionGenerators P D l s (λ bits i. h (c bits i)) in
    generators-back (quotient-map O P h H D f) (same_lists h same) s (with_coefficients D c)
    (same_generators (with_coefficients D (λ bits i. h (c bits i))) (λ k. map h (with_coefficients D c k)) (λ k. sym (map-tabulate h D (c k))) (subst T (sym e) a))
