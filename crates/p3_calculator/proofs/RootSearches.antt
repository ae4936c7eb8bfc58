-- What the searches for square roots answer.
use Rattle.std.proofs.Common.{◌≡◌, ◌<◌, ◌-◌, ◌*◌, ◌^◌, ◌∙◌, ℕ, sym, ap, subst, arith, Option, Some, None, refl}
use Rattle.std.specs.Prelude.{IfSome, IsSome, if◌then◌else◌}
use Rattle.std.proofs.Math.Nat.{pow-suc, pow-zero}
use Rattle.std.proofs.lemmas.Bool.{lt-ltb}
use Rattle.p3_theory.specs.Rings.Ring.{Ops}
use Rattle.p3_theory.specs.Roots.PowersOfTwo.{trailing_split}
use Rattle.p3_theory.specs.Roots.SquareRoots.{IsSquareRoot, CountedByGenerator}
use Rattle.p3_extension.specs.Orders.{extension_size}
use Rattle.p3_calculator.specs.Representation.{RootOrNone}

-- what the counted search answers
pub searched : {A : Type 0} (O : Ops A) (size : Option ℕ) (n : ℕ) → size ≡ Some n → 1 < n → n < 2 ^ 128 → (g x : A) (o : Option A)
    → IfSome o (IsSquareRoot O x) → (turns : ℕ) × CountedByGenerator O size g x o turns → RootOrNone O n g x o
searched O size n e more fits g x (Some r) root counted = root
searched O size n e more fits g x None root counted =
    let t = trailing_split (n - 1) (omega (arith, more)) (omega (arith, fits)) in (
      λ zero. absurd (cc (((counted.1 n _ _ e t.1 t.2).of_zero zero).0)),
      λ s q premise. ((counted.1 n s q e premise.split premise.odd).complete premise refl).0,
    )

first_power : (n : ℕ) → n ^ 1 ≡ n
first_power n = pow-suc n 0 ∙ ap (λ k. k * n) (pow-zero n) ∙ omega arith

-- what the search over residues answers
pub residues_searched : {A : Type 0} (O : Ops A) (n : ℕ) → 1 < n → n < 2 ^ 128 → (g x : A) (o : Option A)
    → IfSome o (IsSquareRoot O x) → (turns : ℕ) × CountedByGenerator O (Some n) g x o turns → RootOrNone O (n ^ 1) g x o
residues_searched O n above fits g x o root counted =
    subst (λ (m : ℕ). RootOrNone O m g x o) (sym (first_power n)) (searched O (Some n) n refl above fits g x o root counted)

-- the order of an extension is given where it is below 2^128
pub extension_order : (n D : ℕ) → n ^ D < 2 ^ 128 → extension_size (Some n) D ≡ Some (n ^ D)
extension_order n D fits = ap (λ b. if b then Some (n ^ D) else None) (lt-ltb (n ^ D) (2 ^ 128) fits)

pub extension_order_given : (n D : ℕ) → n ^ D < 2 ^ 128 → IsSome (extension_size (Some n) D)
extension_order_given n D fits = subst (λ (o : Option ℕ). IsSome o) (sym (extension_order n D fits)) refl
