-- Pairs of residues as a ring.
use Rattle.std.specs.Prelude.{◌≡◌, ◌<◌, ℕ, zero, suc, Option, refl}
use Rattle.std.specs.Borrow.{Bor}
use Rattle.std.specs.Coded.{coded_option}
use Rattle.std.proofs.Common.{ap, ap₂, ◌∙◌, sym, lit<}
use Rattle.std.proofs.Math.Path.{subst₃}
use base.Stored.{Coded-set, coded_unit}
use denote.Bor.{shr_coded}
use Rattle.p3_theory.specs.Rings.Ring.{Ops, RingLaws, Hom}
use Rattle.p3_theory.specs.Rings.Multiples.{of_nat}
use Rattle.p3_theory.specs.Rings.Homomorphism.{map-of_nat}
use Rattle.p3_theory.specs.Lanes.LaneLaws.{laws_by_lanes}
use Rattle.test_depths.specs.Held.{held}
use Rattle.test_depths.specs.Residues.{of, ops, is, laws, doubled_half, of_nat-is_of, of_order}
use Rattle.test_depths.specs.declared.residue.Residue.{Residue}
use Rattle.test_depths.specs.declared.deep.Deep.{Deep}
use Rattle.test_depths.specs.declared.deep.Place as places

-- two references that are held are equal in one way
held_once : (a b : Option (Bor (Unit {0}))) (p q : a ≡ b) → p ≡ q
held_once = Coded-set (coded_option (shr_coded coded_unit))

module _ {P : Type 0} (at : places.Ghosts P) where
  -- the value with two sides
  abbrev pub pair : Residue → Residue → Deep P at
  pair x y = record { x = x; y = y; depths = held x.word y.word at.place; of = record {}; noted = refl }

  -- the sides settle the value
  pub same_sides : (a b : Deep P at) → a.x ≡ b.x → a.y ≡ b.y → a ≡ b
  same_sides a b e f =
      let by : (x y : Residue) (d : Option (Bor (Unit {0}))) → d ≡ held x.word y.word at.place → Deep P at
      = λ x y d h. record { x = x; y = y; depths = d; of = record {}; noted = h } in
      let d : a.depths ≡ b.depths = a.noted ∙ ap₂ (λ (u : Residue) (v : Residue). held u.word v.word at.place) e f ∙ sym b.noted in
      (subst₃ (λ x y t. (k : t ≡ held x.word y.word at.place) → by a.x a.y a.depths a.noted ≡ by x y t k) e f d
      (λ k. ap (by a.x a.y a.depths) (held_once _ _ a.noted k))) b.noted

  -- each operation side by side
  abbrev pub pair_ops : Ops (Deep P at)
  pair_ops = record {
    zero = pair ops.zero ops.zero;
    one = pair ops.one ops.one;
    add = λ a b. pair (ops.add a.x b.x) (ops.add a.y b.y);
    neg = λ a. pair (ops.neg a.x) (ops.neg a.y);
    mul = λ a b. pair (ops.mul a.x b.x) (ops.mul a.y b.y);
  }

  keeps_x : Hom pair_ops ops (λ a. a.x)
  keeps_x = record { zero = refl; one = refl; add = λ _ _. refl; neg = λ _. refl; mul = λ _ _. refl }

  keeps_y : Hom pair_ops ops (λ a. a.y)
  keeps_y = record { zero = refl; one = refl; add = λ _ _. refl; neg = λ _. refl; mul = λ _ _. refl }

  -- side 0 is x, and every other is y
  abbrev side : ℕ → Deep P at → Residue
  side zero a = a.x
  side (suc k) a = a.y

  keeps_sides : (k : ℕ) → k < 2 → Hom pair_ops ops (side k)
  keeps_sides zero h = keeps_x
  keeps_sides (suc k) h = keeps_y

  -- the laws of a ring
  pub pair_laws : RingLaws pair_ops
  pair_laws = laws_by_lanes pair_ops ops 2 side keeps_sides (λ a b h. same_sides a b (h 0 (lit< tt)) (h 1 (lit< tt))) laws

  -- one taken m times has both sides so
  pub pair-of_nat : (m : ℕ) → of_nat pair_ops m ≡ pair (of m) (of m)
  pair-of_nat m = same_sides _ _ (map-of_nat keeps_x m ∙ of_nat-is_of m) (map-of_nat keeps_y m ∙ of_nat-is_of m)

  -- one taken as many times as the order is zero
  pub pair-order : of_nat pair_ops 1031 ≡ pair_ops.zero
  pair-order = pair-of_nat 1031 ∙ ap (λ (r : Residue). pair r r) of_order

  -- a residue on both sides is one, taken as many times as its number says
  pub pair-canon : (r : Residue) → pair r r ≡ of_nat pair_ops r.word
  pair-canon r = sym (pair-of_nat r.word ∙ ap₂ pair (is.of_canon r) (is.of_canon r))

  -- 516 on both sides is the half of one
  pub pair-doubled_half : (a : Deep P at) →
      (let h = pair (ops.mul a.x (of 516)) (ops.mul a.y (of 516)) in pair_ops.add h h ≡ a)
  pair-doubled_half a = same_sides _ _ (doubled_half a.x) (doubled_half a.y)
