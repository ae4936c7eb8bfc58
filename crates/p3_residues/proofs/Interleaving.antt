-- The block after an even one fits, and a list that is written item by item where P holds.
use Rattle.std.proofs.Common.{get_or, ◌≡◌, ℕ, ◌+◌, ◌*◌, ◌/◌, ◌%◌, ◌<◌, ◌≤◌, inl, inr, List, length, arith, ap, ◌∙◌, sym, subst}
use Rattle.std.proofs.Math.Nat.{div-add-mod, mod-lt, mul-le-mul_left, eq-or-lt_of_le}
use Rattle.std.proofs.Math.ListN.{set}
use Rattle.std.proofs.lemmas.Bool.Decides.{leb_tells}
use Rattle.std.proofs.lemmas.List.{get_or-set_other}
use Rattle.std.proofs.lemmas.Grind.{get_or-set_at}

pub after_even : (l n i : ℕ) → 0 < l → n % (2 * l) ≡ 0 → i < n → i / l % 2 ≡ 0 → i + l < n
after_even l n i z d lt even =
    let h : ℕ = i / l / 2 in
    let q : ℕ = n / (2 * l) in
    let ei : l * (i / l) + i % l ≡ i = div-add-mod i l in
    let eh : i / l ≡ 2 * (i / l / 2) = omega arith in
    let em : l * (i / l) ≡ 2 * (l * (i / l / 2)) = (ap (λ m. l * m) eh) ∙ omega arith in
    let en : 2 * l * (n / (2 * l)) + n % (2 * l) ≡ n = div-add-mod n (2 * l) in
    let eq : 2 * l * (n / (2 * l)) ≡ 2 * (l * (n / (2 * l))) = omega arith in
    let er : i % l < l = mod-lt i z in
    elim (leb_tells (n / (2 * l)) (i / l / 2)) [
      | inl b ↦ (let m : l * (n / (2 * l)) ≤ l * (i / l / 2) = mul-le-mul_left l b.1 in absurd (omega arith))
      | inr b ↦
          (let s : i / l / 2 + 1 ≤ n / (2 * l) = omega (arith, b.1) in
          let m : l * (i / l / 2 + 1) ≤ l * (n / (2 * l)) = mul-le-mul_left l s in
          let e : l * (i / l / 2 + 1) ≡ l * (i / l / 2) + l = omega arith in
          omega arith)
    ]

-- the item at i is written
pub set_next : (P : ℕ → Type 0) (f : ℕ → ℕ) (zs : List ℕ) (i v : ℕ) → i < length zs → v ≡ f i → ((k : ℕ) → k < i → P k → get_or zs k 0 ≡ f k) → (k : ℕ) → k < i + 1 → P k → get_or (set zs i v) k 0 ≡ f k
set_next P f zs i v h e old k l p =
    let b : k ≤ i = omega arith in
    elim (eq-or-lt_of_le b) [
      | inl q ↦ get_or-set_at zs i k v 0 q h ∙ e ∙ ap f (sym q)
      | inr m ↦ get_or-set_other zs i k v 0 (λ q. absurd (omega arith)) ∙ old k m p
    ]

-- an item is written where P does not hold
pub set_elsewhere : (P : ℕ → Type 0) (f : ℕ → ℕ) (zs : List ℕ) (i v : ℕ) → (P i → ⊥) → ((k : ℕ) → P k → get_or zs k 0 ≡ f k) → (k : ℕ) → P k → get_or (set zs i v) k 0 ≡ f k
set_elsewhere P f zs i v not_i old k p = get_or-set_other zs i k v 0 (λ q. not_i (subst P q p)) ∙ old k p

-- nothing is to be written at i
pub passed : (P : ℕ → Type 0) (f : ℕ → ℕ) (zs : List ℕ) (i : ℕ) → (P i → ⊥) → ((k : ℕ) → k < i → P k → get_or zs k 0 ≡ f k) → (k : ℕ) → k < i + 1 → P k → get_or zs k 0 ≡ f k
passed P f zs i not_i old k l p =
    let b : k ≤ i = omega arith in
    elim (eq-or-lt_of_le b) [ inl q ↦ absurd (not_i (subst P q p)) | inr m ↦ old k m p ]
