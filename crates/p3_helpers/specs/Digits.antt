-- Numbers written in digits, lowest first.
use Rattle.std.specs.Prelude.{ℕ, ◌<◌, ◌≤◌, ◌+◌, ◌*◌, ◌/◌, ◌%◌, ◌^◌, List, [], ◌∷◌, map}
use Rattle.std.proofs.Math.ListN.{replicate}
use Rattle.p3_theory.specs.Polynomials.Polynomial.{tabulate}

-- the sum of the digits times the powers of the radix b
abbrev pub num : List ℕ → ℕ → ℕ
num [] b = 0
num (d ∷ ds) b = d + b * num ds b

-- the lowest n digits of v in radix b: digit i is v / b^i, modulo b
abbrev pub digits : ℕ → ℕ → ℕ → List ℕ
digits v b n = tabulate n (λ i. v / b ^ i % b)

-- k is the greatest count of digits d whose number is below n
abbrev pub IsLimit : ℕ → ℕ → ℕ → ℕ → Type 0
IsLimit d b n k = (num (replicate k d) b < n) × ((m : ℕ) → num (replicate m d) b < n → m ≤ k)

module _ {R : Type 0} (canon : R → ℕ) where
  -- the number whose digits in radix 2^r are the canonical values, modulo n
  abbrev pub pack : List R → ℕ → ℕ → ℕ
  pack vs r n = num (map canon vs) (2 ^ r) % n

  -- the same with one added to each digit
  abbrev pub shifted_pack : List R → ℕ → ℕ → ℕ
  shifted_pack vs r n = num (map (λ v. canon v + 1) vs) (2 ^ r) % n
