-- Two-adic generators among the residues, told by computation on numbers.
use Rattle.std.specs.Prelude.{◌≡◌, ◌<◌, ◌≤◌, ◌+◌, ◌-◌, ◌*◌, ◌/◌, ◌%◌, ◌^◌, ◌==◌, ◌&&◌, Bool, true, ℕ, zero, suc, Option, Some}
use Rattle.std.proofs.Common.{ap, arith, ◌∙◌, sym, pow-add}
use Rattle.std.proofs.Math.Nat.{mod-add-div, pow-suc, div-le_self, mul-div_cancel_left, mul_comm, mul_assoc}
use Rattle.std.proofs.lemmas.Nat.{pow_pos}
use Rattle.std.proofs.lemmas.Bool.{eqb-true}
use Rattle.p3_theory.specs.Rings.Ring.{Ops, Hom, ring_of}
use Rattle.p3_theory.specs.Rings.Basics.{neg_one_squared}
use Rattle.p3_theory.specs.FrobeniusMaps.Frobenius.{iterate}
use Rattle.p3_theory.specs.Rings.Powers.{power}
use Rattle.p3_theory.specs.Rings.BinaryPowers.{binary_power, binary_power-is, map-binary_power}
use Rattle.p3_theory.specs.Rings.PowerLaws.{power-square, power-one}
use Rattle.p3_theory.specs.Rings.PowerChains.{power-power}
use Rattle.p3_theory.specs.RingSolver.SolverSound.{and_true}
use Rattle.p3_theory.specs.ResidueRings.Residues.{residues, IsResidues, residue_ops, of_keeps, residue_laws}
use Rattle.p3_theory.specs.Roots.TwoAdic.{AreTwoAdicGenerators, DividesOrder, repeated_squares, repeated_squares_generate}

-- the square of a residue modulo n
abbrev pub square : ℕ → ℕ → ℕ
square n x = (residues n).mul x x

-- where there are n values, each g k up to g s is the power (n - 1) / 2^k of x
abbrev pub ArePowersOf : {A : Type 0} → Ops A → A → Option ℕ → ℕ → (ℕ → A) → Type 0
ArePowersOf O x size s g = (n k : ℕ) → size ≡ Some n → k ≤ s → g k ≡ power O x ((n - 1) / 2 ^ k)

-- the power (n - 1) / 2^s of x modulo n, for n below 2^64
abbrev pub top_generator : ℕ → ℕ → ℕ → ℕ
top_generator n s x = binary_power (residues n) 64 x ((n - 1) / 2 ^ s)

-- top, squared s - 1 times, is minus one modulo n, and 2^s divides n - 1; or s is 0 and top is one
abbrev pub is_two_adic_generator : ℕ → ℕ → ℕ → Bool
is_two_adic_generator n zero top = top == 1
is_two_adic_generator n (suc s) top = iterate (square n) s top == (residues n).neg 1 && (n - 1) % 2 ^ suc s == 0

-- the test on numbers tells the laws of the values
module _ {A : Type 0} {n : ℕ} {canon : A → ℕ} {of : ℕ → A} (is : IsResidues n canon of) where
  abbrev O : Ops A
  O = residue_ops n canon of

  abbrev h : Hom (residues n) O of
  h = of_keeps is

  squared : (k x : ℕ) → of (iterate (square n) k x) ≡ power O (of x) (2 ^ k)
  squared zero x = sym (power-one (residue_laws is) (of x))
  squared (suc k) x =
      let twice : 2 ^ k + 2 ^ k ≡ 2 ^ suc k = omega (arith, pow-suc 2 k) in
      squared k (square n x) ∙ ap (λ y. power O y (2 ^ k)) (h.mul x x)
      ∙ power-square (residue_laws is) (of x) (2 ^ k) ∙ ap (power O (of x)) twice

  none : (s top : ℕ) → is_two_adic_generator n s top ≡ true → s ≡ 0 → of top ≡ O.one
  none zero top t e = ap of (eqb-true top 1 t)
  none (suc s) top t e = absurd (omega (arith, e))

  half : (s top : ℕ) → is_two_adic_generator n s top ≡ true → 0 < s → power O (of top) (2 ^ (s - 1)) ≡ O.neg O.one
  half zero top t l = absurd (omega (arith, l))
  half (suc s) top t l =
      let last : suc s - 1 ≡ s = omega arith in
      ap (λ k. power O (of top) (2 ^ k)) last ∙ sym (squared s top) ∙ ap of (eqb-true _ ((residues n).neg 1) (and_true _ _ t).0) ∙ h.neg 1

  pub residue_generators : (s top : ℕ) → is_two_adic_generator n s top ≡ true → AreTwoAdicGenerators O s (repeated_squares O s (of top))
  residue_generators s top t =
      repeated_squares_generate (residue_laws is) s (of top) (none s top t) (half s top t) (neg_one_squared (ring_of (residue_laws is)))

-- and that 2^s divides the order less one
pub divides_residue_order : (n s top : ℕ) → is_two_adic_generator n s top ≡ true → DividesOrder s (Some n)
divides_residue_order n zero top t = (n - 1, omega arith)
divides_residue_order n (suc s) top t =
    let left : (n - 1) % 2 ^ suc s ≡ 0 = eqb-true _ 0 (and_true _ _ t).1 in
    let q : ℕ = (n - 1) / 2 ^ suc s in
    let whole : (n - 1) % 2 ^ suc s + 2 ^ suc s * q ≡ n - 1 = mod-add-div (n - 1) (2 ^ suc s) in
    (q, sym whole ∙ ap (λ k. k + 2 ^ suc s * q) left ∙ zero-add (2 ^ suc s * q))
  where
    zero-add : (k : ℕ) → 0 + k ≡ k
    zero-add k = omega arith

-- where top is that power of x, each of its repeated squares is the power named
module _ {A : Type 0} {n : ℕ} {canon : A → ℕ} {of : ℕ → A} (is : IsResidues n canon of) where
  top_power : (s x : ℕ) → n < 2 ^ 64 → of (top_generator n s x) ≡ power (residue_ops n canon of) (of x) ((n - 1) / 2 ^ s)
  top_power s x b =
      let e : ℕ = (n - 1) / 2 ^ s in
      let below : e < 2 ^ 64 = omega (arith, div-le_self (n - 1) (2 ^ s), b) in
      map-binary_power (of_keeps is) 64 x e ∙ binary_power-is (residue_laws is) 64 (of x) e below

  pub generator_powers : (s x top : ℕ) → is_two_adic_generator n s top ≡ true → n < 2 ^ 64 → top ≡ top_generator n s x
      → ArePowersOf (residue_ops n canon of) (of x) (Some n) s (repeated_squares (residue_ops n canon of) s (of top))
  generator_powers s x top t b e m k same h =
      let O : Ops A = residue_ops n canon of in
      let order : n ≡ m = cc same in
      let divides = divides_residue_order n s top t in
      ap (λ y. power O (of y) (2 ^ (s - k))) e ∙ ap (λ y. power O y (2 ^ (s - k))) (top_power s x b)
      ∙ power-power (residue_laws is) (of x) ((n - 1) / 2 ^ s) (2 ^ (s - k))
      ∙ ap (power O (of x)) (exponent (n - 1) divides.0 s k divides.1 h) ∙ ap (λ j. power O (of x) ((j - 1) / 2 ^ k)) order
    where
      exponent : (a q s k : ℕ) → a ≡ 2 ^ s * q → k ≤ s → a / 2 ^ s * 2 ^ (s - k) ≡ a / 2 ^ k
      exponent a q s k e h =
          let parts : k + (s - k) ≡ s = omega (arith, h) in
          let split : a ≡ 2 ^ k * (2 ^ (s - k) * q) = e ∙ ap (λ j. 2 ^ j * q) (sym parts) ∙ ap (λ j. j * q) (pow-add 2 k (s - k)) ∙ mul_assoc (2 ^ k) (2 ^ (s - k)) q in
          ap (λ j. j / 2 ^ s * 2 ^ (s - k)) e ∙ ap (λ j. j * 2 ^ (s - k)) (mul-div_cancel_left q (pow_pos s)) ∙ mul_comm q (2 ^ (s - k))
          ∙ sym (ap (λ j. j / 2 ^ k) split ∙ mul-div_cancel_left (2 ^ (s - k) * q) (pow_pos k))
