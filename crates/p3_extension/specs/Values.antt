-- Values of an extension: lists of D coefficients, their operations and laws.
use Rattle.std.specs.Prelude.{◌≡◌, ◌≢◌, ◌<◌, ◌≤◌, ℕ, List, length, refl, get_or, Bool, Decides}
use Rattle.std.proofs.Common.{ap, arith, ◌∙◌, sym, zero, suc, subst}
use Rattle.std.proofs.lemmas.Slice.Eq.{slice_eq-Decides}
use Rattle.std.proofs.lemmas.Cmp.{lists_equiv}
use Rattle.std.proofs.Math.Nat.{ℕ_set}
use Rattle.p3_theory.specs.Rings.Ring.{Ops, RingLaws, Ring}
use Rattle.p3_theory.specs.Polynomials.Polynomial as P
use Rattle.p3_theory.specs.Polynomials.Polynomial.{IsMonic}
use Rattle.p3_theory.specs.Polynomials.Coefficients.{length-tabulate}
use Rattle.p3_theory.specs.Polynomials.QuotientRing.{Ext, extension}
use Rattle.std.specs.Cmp.{IsPartialEquivalence, IsEquivalence, on_per, on_equiv}
use Rattle.std.specs.Cmp.Lexicographic.{pointwise, lists_per}
use Rattle.p3_theory.specs.Lists.ByIndex.{length-remainder, to-tabulate, get-tabulate}
use Rattle.p3_extension.specs.declared.extension.ext_field.ExtField.{ExtField}

module _ {F : Type 0} {D : ℕ} {S A : Type 0} where
  -- the value with these D coefficients
  abbrev pub value_of : (v : List A) → length v ≡ D → ExtField F D S A
  value_of v h = record { value = v; of = record {}; sized = h }

  pub same_value : (x y : ExtField F D S A) → x.value ≡ y.value → x ≡ y
  same_value x y e =
      (subst (λ (v : List A). (k : length v ≡ D) → value_of x.value x.sized ≡ value_of v k) e (λ k. ap (value_of x.value) (ℕ_set _ _ x.sized k))) y.sized

  -- x, 0, .., 0: an element of the base as a value
  abbrev pub constant : Ops A → A → ExtField F D S A
  constant o x = value_of (P.embed o D x) (length-tabulate D _)

  -- sums and negations coefficient by coefficient, products modulo f
  abbrev pub ext_ops : Ops A → List A → Ops (ExtField F D S A)
  ext_ops o f = record {
    zero = constant o o.zero;
    one = constant o o.one;
    add = λ x y. value_of (P.quotient_add o D x.value y.value) (length-tabulate D _);
    neg = λ x. value_of (P.quotient_neg o D x.value) (length-tabulate D _);
    mul = λ x y. value_of (P.quotient_mul o D f x.value y.value) (length-remainder o D f _);
  }

  module _ (o : Ops A) (f : List A) where
    -- what operators give coefficient by coefficient is the sum, the negation, the difference
    pub is_sum : (gives : A → A → A → Type 0) → ((a b c : A) → gives a b c → c ≡ o.add a b) → (x y r : ExtField F D S A)
        → ((d : A) (k : ℕ) → k < D → gives (get_or x.value k d) (get_or y.value k d) (get_or r.value k d)) → r ≡ (ext_ops o f).add x y
    is_sum gives is x y r h = same_value r ((ext_ops o f).add x y) (to-tabulate o.zero D _ r.value r.sized (λ k w. is _ _ _ (h o.zero k w)))

    pub is_negation : (gives : A → A → Type 0) → ((a c : A) → gives a c → c ≡ o.neg a) → (x r : ExtField F D S A)
        → ((d : A) (k : ℕ) → k < D → gives (get_or x.value k d) (get_or r.value k d)) → r ≡ (ext_ops o f).neg x
    is_negation gives is x r h = same_value r ((ext_ops o f).neg x) (to-tabulate o.zero D _ r.value r.sized (λ k w. is _ _ (h o.zero k w)))

    pub is_difference : (gives : A → A → A → Type 0) → ((a b c : A) → gives a b c → c ≡ o.add a (o.neg b)) → (x y r : ExtField F D S A)
        → ((d : A) (k : ℕ) → k < D → gives (get_or x.value k d) (get_or y.value k d) (get_or r.value k d))
        → r ≡ (ext_ops o f).add x ((ext_ops o f).neg y)
    is_difference gives is x y r h = same_value r ((ext_ops o f).add x ((ext_ops o f).neg y)) (to-tabulate o.zero D _ r.value r.sized
        (λ k w. is _ _ _ (h o.zero k w) ∙ sym (ap (o.add (P.at o x.value k)) (get-tabulate D (λ i. o.neg (P.at o y.value i)) k o.zero w))))

  -- equality is that of the lists
  pub values_per : {E : A → A → Bool} → IsPartialEquivalence E → IsPartialEquivalence {K = ExtField F D S A} (λ x y. pointwise E x.value y.value)
  values_per p = on_per (λ (x : ExtField F D S A). x.value) (lists_per p)

  pub values_equiv : {E : A → A → Bool} → IsEquivalence E → IsEquivalence {K = ExtField F D S A} (λ x y. pointwise E x.value y.value)
  values_equiv p = on_equiv (λ (x : ExtField F D S A). x.value) (lists_equiv p)

  pub decides_equality : {E : A → A → Bool} → ((a b : A) → Decides (E a b) (a ≡ b)) → (x y : ExtField F D S A) → Decides (pointwise E x.value y.value) (x ≡ y)
  decides_equality {E} h x y =
      let d = slice_eq-Decides h x.value y.value (pointwise E x.value y.value) refl in
      (λ p. same_value x y (d.0 p), λ q. d.1 (ap (λ (r : ExtField F D S A). r.value) q))

-- the laws of a ring, from those of the quotient by a monic polynomial
pub ext_laws : {F S A : Type 0} (R : Ring A) (D : ℕ) → 2 ≤ D → (f : List A) → IsMonic R.ops D f → RingLaws {A = ExtField F D S A} (ext_ops R.ops f)
ext_laws R zero h f m = absurd (omega arith)
ext_laws {F = F} {S = S} {A = A} R (suc d) h f m = record {
  add_comm = λ x y. same_value _ _ (ap first (E.add_comm (to x) (to y)));
  add_assoc = λ x y z. same_value _ _ (ap first (E.add_assoc (to x) (to y) (to z)));
  add_zero = λ x. same_value _ _ (ap first (E.add_zero (to x)));
  add_neg = λ x. same_value _ _ (ap first (E.add_neg (to x)));
  mul_comm = λ x y. same_value _ _ (ap first (E.mul_comm (to x) (to y)));
  mul_assoc = λ x y z. same_value _ _ (ap first (E.mul_assoc (to x) (to y) (to z)));
  mul_one = λ x. same_value _ _ (ap first (E.mul_one (to x)));
  mul_add = λ x y z. same_value _ _ (ap first (E.mul_add (to x) (to y) (to z)));
}
  where
    E : Ring (Ext R d f m)
    E = extension R d f m

    first : Ext R d f m → List A
    first a = a.0

    to : ExtField F (suc d) S A → Ext R d f m
    to x = (x.value, x.sized)

-- zero and one of the base stay apart
pub constants_apart : {F S A : Type 0} (o : Ops A) (D : ℕ) → 2 ≤ D → o.zero ≢ o.one → constant {F = F} {D = D} {S = S} o o.zero ≢ constant o o.one
constants_apart o zero h n e = absurd (omega arith)
constants_apart {F = F} {S = S} {A = A} o (suc d) h n e = n (ap (λ (z : ExtField F (suc d) S A). get_or z.value 0 o.zero) e)
