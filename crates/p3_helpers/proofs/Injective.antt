-- Lists of digits below the radix are told apart by their numbers.
use Rattle.std.proofs.Common.{◌≡◌, ◌<◌, ◌≤◌, ◌+◌, ◌-◌, ◌^◌, ℕ, List, [], ◌∷◌, length, map, refl, ap, arith, ◌∙◌, sym}
use Rattle.std.proofs.Math.ListN.{replicate}
use Rattle.std.proofs.Math.Nat.{mul-le-mul_left, mod-eq_of_lt}
use Rattle.std.proofs.lemmas.Nat.{same_from_place}
use Rattle.p3_helpers.specs.Digits.{num, IsLimit, pack, shifted_pack}
use Rattle.p3_helpers.proofs.EqualDigits.{num-grows}

same_cons : {R : Type 0} (x y : R) (xs ys : List R) → x ≡ y → xs ≡ ys → x ∷ xs ≡ y ∷ ys
same_cons x y xs ys p q = ap (λ z. z ∷ xs) p ∙ ap (λ zs. y ∷ zs) q

module _ {R : Type 0} (canon : R → ℕ) (tells : (x y : R) → canon x ≡ canon y → x ≡ y) (b : ℕ) where
  pub same_num : (below : (x : R) → canon x < b) (xs ys : List R) → length xs ≡ length ys → num (map canon xs) b ≡ num (map canon ys) b → xs ≡ ys
  same_num below [] [] l e = refl
  same_num below [] (y ∷ ys) l e = absurd (omega arith)
  same_num below (x ∷ xs) [] l e = absurd (omega arith)
  same_num below (x ∷ xs) (y ∷ ys) l e =
      let p = same_from_place (num (map canon xs) b) (canon x) (num (map canon ys) b) (canon y) b (below x) (below y) (omega arith) in
      same_cons x y xs ys (tells x y p.1) (same_num below xs ys (omega arith) p.0)

  pub same_shifted : (below : (x : R) → canon x + 1 < b) (xs ys : List R) → num (map (λ v. canon v + 1) xs) b ≡ num (map (λ v. canon v + 1) ys) b → xs ≡ ys
  same_shifted below [] [] e = refl
  same_shifted below [] (y ∷ ys) e = absurd (omega arith)
  same_shifted below (x ∷ xs) [] e = absurd (omega arith)
  same_shifted below (x ∷ xs) (y ∷ ys) e =
      let p = same_from_place (num (map (λ v. canon v + 1) xs) b) (canon x + 1) (num (map (λ v. canon v + 1) ys) b) (canon y + 1) b (below x) (below y) (omega arith) in
      same_cons x y xs ys (tells x y (omega (arith, p.1))) (same_shifted below xs ys p.0)

  -- the number is at most that of greatest digits
  num-most : (f : R → ℕ) (d : ℕ) → ((x : R) → f x ≤ d) → (xs : List R) → num (map f xs) b ≤ num (replicate (length xs) d) b
  num-most f d h [] = omega arith
  num-most f d h (x ∷ xs) = omega (arith, h x, mul-le-mul_left b (num-most f d h xs))

module _ {R : Type 0} (canon : R → ℕ) (tells : (x y : R) → canon x ≡ canon y → x ≡ y) (order : ℕ) (below : (x : R) → canon x < order) where
  pub pack-injective : (r n k : ℕ) → order ≤ 2 ^ r → IsLimit (order - 1) (2 ^ r) n k → (xs ys : List R) → length xs ≡ length ys → length xs ≤ k
      → pack canon xs r n ≡ pack canon ys r n → xs ≡ ys
  pack-injective r n k o h xs ys l m e =
      let d = order - 1 in
      let small : (x : R) → canon x ≤ d = λ x. omega (arith, below x) in
      let p : num (map canon xs) (2 ^ r) < n = omega (arith, num-most canon tells (2 ^ r) canon d small xs, num-grows d (2 ^ r) (length xs) k m, h.0) in
      let q : num (map canon ys) (2 ^ r) < n = omega (arith, num-most canon tells (2 ^ r) canon d small ys, num-grows d (2 ^ r) (length ys) k (omega arith), h.0) in
      same_num canon tells (2 ^ r) (λ x. omega (arith, below x)) xs ys l (sym (mod-eq_of_lt p) ∙ e ∙ mod-eq_of_lt q)

  pub shifted_pack-injective : (r n k : ℕ) → order < 2 ^ r → IsLimit order (2 ^ r) n k → (xs ys : List R) → length xs ≤ k → length ys ≤ k
      → shifted_pack canon xs r n ≡ shifted_pack canon ys r n → xs ≡ ys
  shifted_pack-injective r n k o h xs ys l m e =
      let f : R → ℕ = λ v. canon v + 1 in
      let small : (x : R) → f x ≤ order = λ x. omega (arith, below x) in
      let p : num (map f xs) (2 ^ r) < n = omega (arith, num-most canon tells (2 ^ r) f order small xs, num-grows order (2 ^ r) (length xs) k l, h.0) in
      let q : num (map f ys) (2 ^ r) < n = omega (arith, num-most canon tells (2 ^ r) f order small ys, num-grows order (2 ^ r) (length ys) k m, h.0) in
      same_shifted canon tells (2 ^ r) (λ x. omega (arith, below x)) xs ys (sym (mod-eq_of_lt p) ∙ e ∙ mod-eq_of_lt q)
