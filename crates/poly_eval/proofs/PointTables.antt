-- Tables of the points of small cosets: from those of the squares, and what they hold.
use Rattle.std.proofs.Common.{◌≡◌, ◌<◌, ◌≤◌, ◌+◌, ◌*◌, ◌^◌, ℕ, zero, suc, List, length, sym, ap, ap₂, subst, ◌∙◌, arith}
use Rattle.std.proofs.Math.Nat.{pow-suc}
use Rattle.p3_field.specs.Ring.{Ops, RingLaws}
use Rattle.p3_field.specs.Powers.{power}
use Rattle.p3_field.specs.PowerLaws.{power-one, power-square}
use Rattle.p3_field.specs.GeometricSequence.{geometric_term}
use Rattle.p3_field.specs.Polynomial.{at}
use Rattle.poly_eval.specs.PointTables.{IsPointTable}

module _ {A : Type 0} {O : Ops A} (l : RingLaws O) (g : ℕ → A) where
  -- squared once more
  square-power : (shift square : A) (e : ℕ) → square ≡ O.mul shift shift → power O square (2 ^ e) ≡ power O shift (2 ^ suc e)
  square-power shift square e h =
      let twice : 2 ^ e + 2 ^ e ≡ 2 ^ suc e = omega (arith, pow-suc 2 e) in
      ap (λ x. power O x (2 ^ e)) h ∙ power-square l shift (2 ^ e) ∙ ap (power O shift) twice

  -- a table of points is one of their squares
  pub table-squares : (shift square : A) (n k : ℕ) (table : List A) → n ≡ k + 1 → square ≡ O.mul shift shift → IsPointTable O g shift n table → IsPointTable O g square k table
  table-squares shift square n k table one h points e j i sum small below =
      points (suc e) j i (omega (arith, sum, one)) small below ∙ ap (λ z. geometric_term O (g (j + 1)) z i) (sym (square-power shift square e h))

  -- and one of their squares that holds the first half of the points is one of the points
  pub table-points : (shift square : A) (n k : ℕ) (table : List A) → n ≡ k + 1 → square ≡ O.mul shift shift → IsPointTable O g square k table
      → ((i : ℕ) → i < 2 ^ k → at O table (2 ^ k + i) ≡ geometric_term O (g n) shift i) → IsPointTable O g shift n table
  table-points shift square n k table one h squares first zero j i sum small below =
      let same : j ≡ k = omega (arith, sum, one) in
      let whole : n ≡ j + 1 = omega (arith, sum) in
      ap (λ m. at O table (2 ^ m + i)) same ∙ first i (subst (λ m. i < 2 ^ m) same below)
      ∙ ap₂ (λ m z. geometric_term O (g m) z i) whole (sym (power-one l shift))
  table-points shift square n k table one h squares first (suc e) j i sum small below =
      squares e j i (omega (arith, sum, one)) small below ∙ ap (λ z. geometric_term O (g (j + 1)) z i) (square-power shift square e h)

  -- past as many points as it has entries the two tables are one
  pub table-of-points : (shift square : A) (n k : ℕ) (table : List A) → n ≡ k + 1 → length table < 2 ^ n → square ≡ O.mul shift shift → IsPointTable O g square k table → IsPointTable O g shift n table
  table-of-points shift square n k table one many h squares zero j i sum small below =
      let whole : j + 1 ≡ n = omega (arith, sum) in
      absurd (omega (arith, subst (λ m. 2 ^ m ≤ length table) whole small, many))
  table-of-points shift square n k table one many h squares (suc e) j i sum small below =
      squares e j i (omega (arith, sum, one)) small below ∙ ap (λ z. geometric_term O (g (j + 1)) z i) (square-power shift square e h)

  -- the first half of the points stands behind as many other entries
  pub half-points : (shift generator : A) (n k half : ℕ) (table : List A) → n ≡ k + 1 → half ≡ 2 ^ k → generator ≡ g n → IsPointTable O g shift n table
      → 2 * half ≤ length table → (i : ℕ) → i < half → at O table (half + i) ≡ geometric_term O generator shift i
  half-points shift generator n k half table one size h points fits i below =
      let twice : 2 ^ (k + 1) ≡ 2 * half = omega (arith, pow-suc 2 k, size, (let e : k + 1 ≡ suc k = omega arith in ap (λ m. 2 ^ m) e)) in
      ap (λ m. at O table (m + i)) size ∙ points 0 k i (omega (arith, one)) (omega (arith, twice, fits)) (subst (λ m. i < m) size below)
      ∙ ap₂ (λ m z. geometric_term O (g m) z i) (sym one) (power-one l shift) ∙ ap (λ x. geometric_term O x shift i) (sym h)
