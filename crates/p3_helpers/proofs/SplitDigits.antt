-- Digits split off a number one after the other, and the number that they make.
use Rattle.std.proofs.Common.{◌≡◌, ◌<◌, ◌≤◌, ◌+◌, ◌*◌, ◌/◌, ◌%◌, ◌^◌, ℕ, zero, suc, List, [], ◌∷◌, ◌++◌, map, add-one, arith, ap, ap₂, ◌∙◌, sym, refl}
use Rattle.std.proofs.lemmas.Nat.{div_below, pow_pos}
use Rattle.std.proofs.Math.Nat.{pow-zero, pow-suc, pow-succ', div-one, mod-lt, mod-eq_of_lt, mod-add-div, div-div-eq-div-mul, mul_comm}
use mathlib.Core.List.{map-map}
use Rattle.p3_theory.specs.Rings.Ring.{Ops, RingLaws, ring_of}
use Rattle.p3_theory.specs.Rings.Homomorphism.{map-tabulate}
use Rattle.p3_theory.specs.Rings.Multiples.{of_nat}
use Rattle.p3_theory.specs.Rings.Powers.{eval}
use Rattle.p3_theory.specs.ResidueRings.Residues.{AreResidues}
use Rattle.p3_theory.specs.Polynomials.Polynomial.{tabulate}
use Rattle.p3_theory.specs.Lists.ByIndex.{tabulate-same}
use Rattle.p3_helpers.specs.Digits.{num, digits}
use Rattle.p3_helpers.specs.Multiples.{eval-digits, residue-multiple}
use Rattle.p3_helpers.proofs.Sizes.{pow-mul}

pub rest_more : (rest v b k : ℕ) → rest ≡ v / b ^ k → rest / b ≡ v / b ^ (k + 1)
rest_more rest v b k h = rw add-one (ap (λ n. n / b) h ∙ div-div-eq-div-mul v (b ^ k) b ∙ ap (λ n. v / n) (sym (pow-suc b k)))

tabulate-last : {A : Type 0} (n : ℕ) (s : ℕ → A) → tabulate (suc n) s ≡ tabulate n s ++ (s n ∷ [])
tabulate-last zero s = refl
tabulate-last (suc n) s = ap (λ l. s zero ∷ l) (tabulate-last n (λ k. s (suc k)))

map-push : {R : Type 0} (f : R → ℕ) (xs : List R) (x : R) → map f (xs ++ (x ∷ [])) ≡ map f xs ++ (f x ∷ [])
map-push f [] x = refl
map-push f (y ∷ ys) x = ap (λ z. f y ∷ z) (map-push f ys x)

items_more : {R : Type 0} (f : R → ℕ) (s : ℕ → ℕ) (xs ys : List R) (x : R) (k : ℕ) → map f xs ≡ tabulate k s → ys ≡ xs ++ (x ∷ []) → f x ≡ s k → map f ys ≡ tabulate (k + 1) s
items_more f s xs ys x k i a e = rw add-one (ap (map f) a ∙ map-push f xs x ∙ ap₂ (λ l n. l ++ (n ∷ [])) i e ∙ sym (tabulate-last k s))

module _ {R : Type 0} (f : R → ℕ) (xs ys : List R) (x : R) (rest v b k p : ℕ) where
  -- the values have one digit more, each modulo p
  pub reduced_more : rest ≡ v / b ^ k → map f xs ≡ map (λ d. d % p) (digits v b k) → ys ≡ xs ++ (x ∷ []) → f x ≡ rest % b % p → map f ys ≡ map (λ d. d % p) (digits v b (k + 1))
  reduced_more e i a q =
      let s : ℕ → ℕ = λ j. v / b ^ j % b in
      items_more f (λ j. s j % p) xs ys x k (i ∙ map-tabulate (λ d. d % p) k s) a (q ∙ ap (λ n. n % b % p) e) ∙ sym (map-tabulate (λ d. d % p) (k + 1) s)

  -- the values have one digit more, where p is at least the radix
  pub digits_more : 0 < b → b ≤ p → rest ≡ v / b ^ k → map f xs ≡ digits v b k → ys ≡ xs ++ (x ∷ []) → f x ≡ rest % b % p → map f ys ≡ digits v b (k + 1)
  digits_more z h e i a q =
      let low : rest % b < b = mod-lt rest z in
      items_more f (λ j. v / b ^ j % b) xs ys x k i a (q ∙ mod-eq_of_lt (omega (arith, low, h)) ∙ ap (λ n. n % b) e)

-- the first digit, and the others of the quotient
digits-first : (v b k : ℕ) → digits v b (suc k) ≡ (v % b) ∷ digits (v / b) b k
digits-first v b k =
    ap₂ (λ n l. n % b ∷ l) (ap (λ n. v / n) (pow-zero b) ∙ div-one v)
    (tabulate-same k _ _ (λ i _. ap (λ n. n % b) (ap (λ n. v / n) (pow-succ' b i) ∙ sym (div-div-eq-div-mul v b (b ^ i)))))

-- enough digits give the number back
pub num-digits : (v b k : ℕ) → 0 < b → v < b ^ k → num (digits v b k) b ≡ v
num-digits v b zero z h = omega (arith, pow-zero b, h)
num-digits v b (suc k) z h =
    let q : v / b < b ^ k = div_below v b (b ^ k) z (omega (arith, h, pow-suc b k)) in
    ap (λ l. num l b) (digits-first v b k) ∙ ap (λ n. v % b + b * n) (num-digits (v / b) b k z q) ∙ mod-add-div v b

-- where n digits of r bits hold every number below the order, those of a canonical value give the value back
pub value-of-digits : {R A : Type 0} (f : R → ℕ) {O : Ops A} (laws : RingLaws O) {canon : A → ℕ} {order : ℕ} (are : AreResidues order O canon) (xs : List R) (x : A) (n r : ℕ)
    → order ≤ 2 ^ (n * r) → map f xs ≡ digits (canon x) (2 ^ r) n → eval O O (λ y. y) (of_nat O (2 ^ r)) (map (λ y. of_nat O (f y)) xs) ≡ x
value-of-digits f {O = O} laws {canon = canon} {order = order} are xs x n r o h =
    let e : (2 ^ r) ^ n ≡ 2 ^ (n * r) = sym (pow-mul 2 r n) ∙ ap (λ k. 2 ^ k) (mul_comm r n) in
    let l : canon x < (2 ^ r) ^ n = omega (arith, are.below x, o, e) in
    ap (eval O O (λ y. y) (of_nat O (2 ^ r))) (sym (map-map (of_nat O) f xs) ∙ ap (map (of_nat O)) h)
    ∙ eval-digits (ring_of laws) (digits (canon x) (2 ^ r) n) (2 ^ r) ∙ ap (of_nat O) (num-digits (canon x) (2 ^ r) n (pow_pos r) l)
    ∙ sym (residue-multiple are x (canon x) (sym (mod-eq_of_lt (are.below x))))
