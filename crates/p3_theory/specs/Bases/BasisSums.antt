-- Scalars among vectors over a ring, and sums of multiples of a basis.
use Rattle.std.proofs.Common.{◌≡◌, ◌<◌, ◌≤◌, ◌+◌, ℕ, zero, suc, List, [], ◌∷◌, length, get_or, drop, refl, sym, ap, ◌∙◌, arith}
use Rattle.p3_theory.specs.Rings.Ring.{Ops, RingLaws, ring_of}
use Rattle.p3_theory.specs.Polynomials.Polynomial.{tabulate, at, embed}
use Rattle.p3_theory.specs.Polynomials.Coefficients.{length-tabulate}
use Rattle.p3_theory.specs.Lists.ByIndex.{get-tabulate, to-tabulate, read_at}
use Rattle.std.proofs.lemmas.List.{get_or_past}
use Rattle.std.proofs.Math.Decide.{dec_le}
use mathlib.Core.Logic.{dite}
use Rattle.p3_theory.specs.Rings.Basics.{add_from_zero}
use Rattle.p3_theory.specs.Bases.Coordinates.{basis_element}
use Rattle.p3_theory.specs.Rings.DotProduct.{dot, dot-step, dot-end}

-- every coefficient past index 0 is zero
abbrev pub IsScalar : {A : Type 0} → Ops A → List A → Type 0
IsScalar O cs = (k : ℕ) → 1 ≤ k → at O cs k ≡ O.zero

module _ {V A : Type 0} (O : Ops A) (P : Ops V) (coefficients : V → List A) (n : ℕ) where
  -- value j has the coefficients of basis element j of dimension n
  abbrev pub IsBasis : (ℕ → V) → Type 0
  IsBasis basis = (j : ℕ) → j < n → coefficients (basis j) ≡ basis_element O n j

  -- r is the sum of basis element j times entry j
  abbrev pub IsBasisSum : List V → V → Type 0
  IsBasisSum cs r = (basis : ℕ → V) → IsBasis basis → r ≡ dot P (tabulate n basis) cs

  -- s and the products from index i on make that sum
  abbrev pub MakesBasisSum : List V → ℕ → V → Type 0
  MakesBasisSum cs i s = (basis : ℕ → V) → IsBasis basis → P.add s (dot P (drop i (tabulate n basis)) (drop i cs)) ≡ dot P (tabulate n basis) cs

  module _ (l : RingLaws P) where
    pub basis-begin : (cs : List V) (s : V) → s ≡ P.zero → MakesBasisSum cs 0 s
    basis-begin cs s e basis h = add_from_zero (ring_of l) s _ e

    pub basis-step : ((x y : V) → coefficients x ≡ coefficients y → x ≡ y) → (cs : List V) (i : ℕ) (x y s t : V) → length cs ≡ n → i < n
        → coefficients x ≡ basis_element O n i → y ≡ get_or cs i y → t ≡ P.add s (P.mul x y) → MakesBasisSum cs i s → MakesBasisSum cs (i + 1) t
    basis-step same cs i x y s t w lt e f m p basis h =
        let element : x ≡ get_or (tabulate n basis) i x = same x (basis i) (e ∙ sym (h i lt)) ∙ sym (get-tabulate n basis i x lt) in
        dot-step l (tabulate n basis) cs i x y s t _ (omega (arith, length-tabulate n basis)) (omega arith) element f m (p basis h)

    pub basis-end : (cs : List V) (i : ℕ) (s : V) → n ≤ i → MakesBasisSum cs i s → IsBasisSum cs s
    basis-end cs i s h p basis b = dot-end l (tabulate n basis) cs i s _ (omega (arith, length-tabulate n basis)) (p basis b)

-- coefficients from index 1 up to i that are zero
module _ {A : Type 0} (O : Ops A) (cs : List A) where
  -- the coefficients from X on and below index i are zero
  abbrev pub ZerosBelow : ℕ → Type 0
  ZerosBelow i = (k : ℕ) → 1 ≤ k → k < i → at O cs k ≡ O.zero

  pub zeros-begin : ZerosBelow 1
  zeros-begin k h w = absurd (omega (arith, h, w))

  pub zeros-step : (i : ℕ) (x : A) → i < length cs → x ≡ get_or cs i x → x ≡ O.zero → ZerosBelow i → ZerosBelow (i + 1)
  zeros-step i x lt e z p k h w = dite (dec_le i k) (λ past. ap (at O cs) (same past) ∙ read_at cs i x O.zero lt e ∙ z) (λ n. p k h (below n))
    where
      same : i ≤ k → k ≡ i
      same past = omega (arith, past, w)

      below : (i ≤ k → ⊥) → k < i
      below n = omega (arith, n)

  pub zeros-end : (i : ℕ) → length cs ≤ i → ZerosBelow i → IsScalar O cs
  zeros-end i l p k h = dite (dec_le (length cs) k) (λ past. get_or_past cs k O.zero past) (λ n. p k h (below n))
    where
      below : (length cs ≤ k → ⊥) → k < i
      below n = omega (arith, n, l)

  pub not_scalar : (i : ℕ) (x : A) → 1 ≤ i → i < length cs → x ≡ get_or cs i x → (x ≡ O.zero → ⊥) → IsScalar O cs → ⊥
  not_scalar i x h lt e n s = n (sym (read_at cs i x O.zero lt e) ∙ s i h)

-- what is zero past index 0 is the embedding of its coefficient there
pub scalar-embedded : {A : Type 0} (O : Ops A) (D : ℕ) (cs : List A) → length cs ≡ D → IsScalar O cs → cs ≡ embed O D (at O cs 0)
scalar-embedded O D cs l h = to-tabulate O.zero D (at O (at O cs 0 ∷ [])) cs l (λ k w. place k)
  where
    place : (k : ℕ) → at O cs k ≡ at O (at O cs 0 ∷ []) k
    place zero = refl
    place (suc k) = h (suc k) (omega arith)
