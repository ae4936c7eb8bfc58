-- Vectors over a ring as the lists of their coefficients.
use Rattle.std.specs.Prelude.{◌≡◌, ◌<◌, ◌+◌, ◌*◌, ◌==◌, if◌then◌else◌, ℕ, List, Some, slice_get}
use Rattle.std.specs.Array.{index_steps}
use Rattle.std.specs.Iterator.{CallableAtEachTurn}
use Rattle.std.specs.Fn.{Called, Takes}
use Rattle.std.specs.List.{flat_map}
use denote.Param.Members.{Mut}
use Rattle.p3_theory.specs.Rings.Ring.{Ops}
use Rattle.p3_theory.specs.Polynomials.Polynomial.{tabulate}

-- basis element i of dimension n: one at index i, and zero at all others
abbrev pub basis_element : {A : Type 0} → Ops A → ℕ → ℕ → List A
basis_element O n i = tabulate n (λ k. if k == i then O.one else O.zero)

-- the coefficients of the values, one value after the other
abbrev pub flattened : {V A : Type 0} → (V → List A) → List V → List A
flattened coefficients xs = flat_map coefficients xs

-- index i * n + j of the list is coefficient j of value i
abbrev pub HasCoefficientsOf : {V A : Type 0} → (V → List A) → ℕ → List V → List A → Type 0
HasCoefficientsOf {V} coefficients n xs list =
    (i j : ℕ) (x : V) → slice_get xs i ≡ Some x → j < n → slice_get list (i * n + j) ≡ slice_get (coefficients x) j

-- f may be called at each index below n in turn, each time as the call before left it
abbrev pub CallableBelow : {F B : Type 0} → Mut F (ℕ × Unit {0}) B → ℕ → F → Type 0
CallableBelow {B = B} g n f = CallableAtEachTurn (index_steps n) (λ p i q. (y : B) × Called g p (i, tt) y q) (λ p i. Takes g p (i, tt)) 0 f
