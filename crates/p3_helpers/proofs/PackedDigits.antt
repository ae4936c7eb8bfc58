-- Horner's rule on residues, from the last digit down.
use Rattle.std.proofs.Common.{◌≡◌, ◌<◌, ◌≤◌, ◌+◌, ◌-◌, ◌*◌, ◌%◌, ℕ, suc, List, ◌∷◌, [], length, get_or, drop, map, drop-cons, ap, arith, ◌∙◌, sym, refl}
use Rattle.std.proofs.Math.Nat.{mod-eq_of_lt}
use Rattle.std.proofs.lemmas.Nat.{mul-mod_first, mul-mod_second}
use Rattle.p3_theory.specs.Rings.Ring.{Ops}
use Rattle.p3_theory.specs.ResidueRings.Modular.{add-mod_first, add-mod_second}
use Rattle.p3_theory.specs.ResidueRings.Residues.{AreResidues}
use Rattle.p3_helpers.specs.Digits.{num}

drop_whole : {R : Type 0} (xs : List R) → drop (length xs) xs ≡ []
drop_whole [] = refl
drop_whole (x ∷ xs) = drop_whole xs

step : (m b v p : ℕ) → ((m % p * (b % p)) % p + v % p) % p ≡ (v + b * m) % p
step m b v p =
    add-mod_first (m % p * (b % p)) (v % p) p ∙ add-mod_second (m % p * (b % p)) v p ∙ sym (add-mod_first (m % p * (b % p)) v p)
    ∙ ap (λ z. (z + v) % p) (mul-mod_first m (b % p) p ∙ mul-mod_second m b p) ∙ add-mod_first (m * b) v p ∙ ap (λ z. z % p) (omega arith)

-- digits of R, given by f, and values of T, given by canon as residues modulo p
module _ {R T : Type 0} (f : R → ℕ) {O : Ops T} {canon : T → ℕ} {p : ℕ} (are : AreResidues p O canon) where
  -- no digit is taken in
  pub none_packed : (xs : List R) (b n : ℕ) (s : T) → n ≡ length xs → s ≡ O.zero → canon s ≡ num (map f (drop n xs)) b % p
  none_packed xs b n s l h =
      ap canon h ∙ are.keeps.zero ∙ sym (ap (λ z. num (map f (drop z xs)) b % p) l ∙ ap (λ ys. num (map f ys) b % p) (drop_whole xs) ∙ mod-eq_of_lt (omega (arith, are.above_one)))

  -- the digit below is taken in
  pub one_more_packed : (xs : List R) (b i w d : ℕ) (v : R) (s base m x t : T) → 0 < i → i ≤ length xs → v ≡ get_or xs (i - 1) v
      → canon s ≡ num (map f (drop i xs)) b % p → canon base ≡ w % p → w ≡ b → canon x ≡ d % p → d ≡ f v → m ≡ O.mul s base → t ≡ O.add m x
      → canon t ≡ num (map f (drop (i - 1) xs)) b % p
  one_more_packed xs b i w d v s base m x t z h k e q l g n r a =
      let rest = num (map f (drop i xs)) b in
      let j : suc (i - 1) ≡ i = omega arith in
      let c : drop (i - 1) xs ≡ v ∷ drop i xs = drop-cons xs (i - 1) v (omega arith) ∙ ap (λ y. y ∷ drop (suc (i - 1)) xs) (sym k) ∙ ap (λ n. v ∷ drop n xs) j in
      let product : canon m ≡ (rest % p * (b % p)) % p = ap canon r ∙ are.keeps.mul s base ∙ ap (λ y. (y * canon base) % p) e ∙ ap (λ y. (rest % p * y) % p) (q ∙ ap (λ y. y % p) l) in
      ap canon a ∙ are.keeps.add m x ∙ ap (λ y. (y + canon x) % p) product ∙ ap (λ y. ((rest % p * (b % p)) % p + y) % p) (g ∙ ap (λ y. y % p) n)
      ∙ step rest b (f v) p ∙ sym (ap (λ ys. num (map f ys) b % p) c)
