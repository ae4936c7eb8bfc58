-- The residues modulo 1031 as a ring.
use Rattle.std.specs.Prelude.{◌≡◌, ◌<◌, ◌+◌, ◌%◌, ℕ, zero, suc, refl}
use Rattle.std.proofs.Common.{ap, sym, ◌∙◌, subst, lit<, arith}
use Rattle.std.proofs.Math.Nat.{mod-lt, mod-eq_of_lt}
use Rattle.std.proofs.Math.Bridge.{le_prop}
use Rattle.p3_theory.specs.Rings.Ring.{Ops, RingLaws}
use Rattle.p3_theory.specs.ResidueRings.Residues.{IsResidues, residue_ops, same_canon, residue_laws, of_keeps}
use Rattle.p3_theory.specs.Rings.Multiples.{of_nat}
use Rattle.test_depths.specs.declared.residue.Residue.{Residue}

-- the canonical value
abbrev pub canon : Residue → ℕ
canon x = x.word

-- the value of a number's residue
abbrev pub of : ℕ → Residue
of n = record { word = n % 1031; below = mod-lt n (lit< tt) }

-- the operations of residues
abbrev pub ops : Ops Residue
ops = residue_ops 1031 canon of

-- the word settles the value
pub same_word : (x y : Residue) → x.word ≡ y.word → x ≡ y
same_word x y e =
    let by : (w : ℕ) → w < 1031 → Residue = λ w h. record { word = w; below = h } in
    (subst (λ (v : ℕ). (k : v < 1031) → by x.word x.below ≡ by v k) e (λ k. ap (by x.word) (le_prop x.below k))) y.below

-- the values are the residues of the order
pub is : IsResidues 1031 canon of
is = record {
  above_one = lit< tt;
  canon_of = λ n. refl;
  of_canon = λ x. same_word _ _ (mod-eq_of_lt x.below);
}

-- the laws of a ring
pub laws : RingLaws ops
laws = residue_laws is

-- 516 is the half of one
pub doubled_half : (x : Residue) → ops.add (ops.mul x (of 516)) (ops.mul x (of 516)) ≡ x
doubled_half x =
    let one : ops.add (of 516) (of 516) ≡ ops.one = same_canon is _ _ refl in
    sym (laws.mul_add x (of 516) (of 516)) ∙ ap (ops.mul x) one ∙ laws.mul_one x

-- one taken m times is the residue of m
pub of_nat-is_of : (m : ℕ) → of_nat ops m ≡ of m
of_nat-is_of zero = refl
of_nat-is_of (suc m) =
    ap (ops.add (of 1)) (of_nat-is_of m) ∙ sym ((of_keeps is).add 1 m) ∙ same_canon is _ _ (is.canon_of ((1 + m) % 1031) ∙ twice (1 + m) ∙ (let e : 1 + m ≡ suc m = omega arith in ap (λ k. k % 1031) e))
  where
    twice : (k : ℕ) → k % 1031 % 1031 ≡ k % 1031
    twice k = mod-eq_of_lt (mod-lt k (lit< tt))

-- the residue of the order is zero
pub of_order : of 1031 ≡ ops.zero
of_order = same_canon is _ _ refl
