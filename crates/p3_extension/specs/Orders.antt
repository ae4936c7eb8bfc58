-- How many values an extension has.
use Rattle.std.specs.Prelude.{◌≡◌, ◌^◌, ℕ, Bool, true, false, Option, Some, None, nat_lt, if◌then◌else◌, refl}
use Rattle.std.proofs.Common.{ap, subst}
use Rattle.p3_theory.specs.Roots.ValueLists.{ValueList, Sized, same_sized, values-map, values-lists}
use Rattle.p3_extension.specs.Values.{value_of, same_value}
use Rattle.p3_extension.specs.declared.extension.ext_field.ExtField.{ExtField}

-- the count of the base to the power D, where that is below 2^128
abbrev pub extension_size : Option ℕ → ℕ → Option ℕ
extension_size None D = None
extension_size (Some n) D = (if nat_lt (n ^ D) (2 ^ 128) then Some (n ^ D) else None)

-- where the count of an extension is given, so is that of its base
base_size : (s : Option ℕ) (D m : ℕ) → extension_size s D ≡ Some m → (n : ℕ) × (s ≡ Some n) × (n ^ D ≡ m)
base_size None D m e = absurd (cc e)
base_size (Some n) D m e = (n, refl, given (nat_lt (n ^ D) (2 ^ 128)) e)
  where
    given : (b : Bool) → (if b then Some (n ^ D) else None) ≡ Some m → n ^ D ≡ m
    given true e = cc e
    given false e = absurd (cc e)

-- a list of the base's values makes one of the extension's
pub extension_values : {F S A : Type 0} (s : Option ℕ) (D : ℕ) → ((n : ℕ) → s ≡ Some n → ValueList A n) → (m : ℕ) → extension_size s D ≡ Some m
    → ValueList (ExtField F D S A) m
extension_values {F} {S} {A} s D values m e =
    let n = base_size s D m e in
    subst (ValueList (ExtField F D S A)) n.2 (values-map of same onto (values-lists (values n.0 n.1) D))
  where
    of : Sized A D → ExtField F D S A
    of v = value_of v.0 v.1

    same : (v w : Sized A D) → of v ≡ of w → v ≡ w
    same v w h = same_sized D v w (ap (λ (x : ExtField F D S A). x.value) h)

    onto : (x : ExtField F D S A) → (v : Sized A D) × (of v ≡ x)
    onto x = ((x.value, x.sized), same_value (value_of x.value x.sized) x refl)
