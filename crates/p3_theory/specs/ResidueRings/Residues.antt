-- The residues modulo n: as numbers, and as the values of a type that stores them in any form.
use Rattle.std.specs.Prelude.{◌≡◌, ◌<◌, ◌+◌, ◌-◌, ◌*◌, ◌%◌, ℕ, refl}
use Rattle.std.proofs.Common.{ap, ap₂, arith, ◌∙◌, sym}
use Rattle.std.proofs.Math.Nat.{mod-lt, mod-eq_of_lt, mul_comm, mul-one}
use Rattle.std.proofs.lemmas.Nat.{mul-mod_first, mul-mod_second}
use Rattle.p3_theory.specs.Rings.Ring.{Ops, RingLaws, Hom}
use Rattle.p3_theory.specs.ResidueRings.Modular.{add_assoc_mod, mul_assoc_mod, mul_add_mod, add_neg_mod, add-mod_first, add-mod_second}

-- the residues modulo n as the numbers below n
abbrev pub residues : ℕ → Ops ℕ
residues n = record { zero = 0; one = 1; add = λ a b. (a + b) % n; neg = λ a. (n - a % n) % n; mul = λ a b. (a * b) % n }

-- `canon` is one to one onto the numbers below n, and takes the operations to those of the residues
pub record AreResidues {A : Type 0} (n : ℕ) (O : Ops A) (canon : A → ℕ) : Type 0 where
  pub above_one : 1 < n
  pub below : (x : A) → canon x < n
  pub every : (w : ℕ) → w < n → (x : A) × (canon x ≡ w)
  pub same : (x y : A) → canon x ≡ canon y → x ≡ y
  pub keeps : Hom O (residues n) canon

-- `canon` takes a value to its residue, and `of` takes a number to the value of its residue
pub record IsResidues {A : Type 0} (n : ℕ) (canon : A → ℕ) (of : ℕ → A) : Type 0 where
  pub above_one : 1 < n
  pub canon_of : (m : ℕ) → canon (of m) ≡ m % n
  pub of_canon : (x : A) → of (canon x) ≡ x

-- the operations of residues, whatever form they are stored in
abbrev pub residue_ops : {A : Type 0} → ℕ → (A → ℕ) → (ℕ → A) → Ops A
residue_ops n canon of = record {
  zero = of 0;
  one = of 1;
  add = λ x y. of (canon x + canon y);
  neg = λ x. of (n - canon x);
  mul = λ x y. of (canon x * canon y);
}

module _ {A : Type 0} {n : ℕ} {canon : A → ℕ} {of : ℕ → A} (is : IsResidues n canon of) where
  pub canon-below : (x : A) → canon x < n
  canon-below x =
      let h : canon x ≡ canon x % n = sym (ap canon (is.of_canon x)) ∙ is.canon_of (canon x) in
      let k : canon x % n < n = mod-lt (canon x) (omega (arith, is.above_one)) in
      omega (arith, h, k)

  pub same_canon : (x y : A) → canon x ≡ canon y → x ≡ y
  same_canon x y h = sym (is.of_canon x) ∙ ap of h ∙ is.of_canon y

  -- a value with the residue of m is `of m`
  pub is_of : (r : A) (m : ℕ) → canon r ≡ m % n → r ≡ of m
  is_of r m h = same_canon r (of m) (h ∙ sym (is.canon_of m))

  -- a value with the residue of a difference is the difference
  pub is_difference : (x y r : A) → canon r ≡ (canon x + (n - canon y)) % n
      → r ≡ (residue_ops n canon of).add x ((residue_ops n canon of).neg y)
  is_difference x y r h = same_canon _ _ (h ∙ simp is.canon_of (sym (add-mod_second (canon x) (n - canon y) n)))

  -- residues in any form are a commutative ring
  pub residue_laws : RingLaws (residue_ops n canon of)
  residue_laws = record {
    add_comm = λ x y. ap of (omega arith);
    add_assoc = λ x y z. same_canon _ _ (simp is.canon_of (add_assoc_mod (canon x) (canon y) (canon z) n));
    add_zero = λ x. same_canon _ _ (simp is.canon_of (add-mod_second (canon x) 0 n ∙ ap (λ k. k % n) (omega arith) ∙ mod-eq_of_lt (canon-below x)));
    add_neg = λ x. same_canon _ _ (simp is.canon_of (add_neg_mod (canon x) n (canon-below x)));
    mul_comm = λ x y. ap of (mul_comm (canon x) (canon y));
    mul_assoc = λ x y z. same_canon _ _ (simp is.canon_of (mul_assoc_mod (canon x) (canon y) (canon z) n));
    mul_one = λ x. let e : canon (of 1) ≡ 1 = is.canon_of 1 ∙ mod-eq_of_lt is.above_one in ap of (rw e (mul-one (canon x))) ∙ is.of_canon x;
    mul_add = λ x y z. same_canon _ _ (simp is.canon_of (mul_add_mod (canon x) (canon y) (canon z) n));
  }

  pub are_residues : AreResidues n (residue_ops n canon of) canon
  are_residues = record {
    above_one = is.above_one;
    below = canon-below;
    every = λ w h. (of w, is.canon_of w ∙ mod-eq_of_lt h);
    same = same_canon;
    keeps = record {
      zero = is.canon_of 0 ∙ mod-eq_of_lt (omega (arith, is.above_one));
      one = is.canon_of 1 ∙ mod-eq_of_lt is.above_one;
      add = λ x y. is.canon_of (canon x + canon y);
      neg = λ x. is.canon_of (n - canon x) ∙ ap (λ k. (n - k) % n) (sym (mod-eq_of_lt (canon-below x)));
      mul = λ x y. is.canon_of (canon x * canon y);
    };
  }

  of-remainder : (m : ℕ) → of (m % n) ≡ of m
  of-remainder m = ap of (sym (is.canon_of m)) ∙ is.of_canon (of m)

  -- numbers as residues keep the operations
  pub of_keeps : Hom (residues n) (residue_ops n canon of) of
  of_keeps = record {
    zero = refl;
    one = refl;
    add = λ a b. of-remainder (a + b) ∙ sym (ap₂ (λ x y. of (x + y)) (is.canon_of a) (is.canon_of b)
        ∙ sym (of-remainder (a % n + b % n)) ∙ ap of (add-mod_first a (b % n) n ∙ add-mod_second a b n) ∙ of-remainder (a + b));
    neg = λ a. of-remainder (n - a % n) ∙ ap (λ k. of (n - k)) (sym (is.canon_of a));
    mul = λ a b. of-remainder (a * b) ∙ sym (ap₂ (λ x y. of (x * y)) (is.canon_of a) (is.canon_of b)
        ∙ sym (of-remainder (a % n * (b % n))) ∙ ap of (mul-mod_first a (b % n) n ∙ mul-mod_second a b n) ∙ of-remainder (a * b));
  }
