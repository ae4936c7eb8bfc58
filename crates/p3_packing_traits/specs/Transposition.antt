-- Transposition of the values in the lanes of packings.
use Rattle.std.specs.Prelude.{◌≡◌, ◌<◌, ◌≤◌, ◌+◌, ◌*◌, ◌/◌, ◌%◌, ℕ, List, length, get_or, suc, slice_get, Some}
use Rattle.std.proofs.Common.{arith, ap, ap₂, sym, ◌∙◌}
use Rattle.std.proofs.lemmas.Nat.{div-mul-add, mod-mul-add, div-add-mod'}
use Rattle.std.proofs.lemmas.List.{get_or_default}
use Rattle.std.proofs.lemmas.Option.{get_or_from_slice_get}
use Rattle.std.proofs.Math.ListN.{set}
use Rattle.std.proofs.Math.Nat.{suc-mul, mul-le-mul_right}
use Rattle.p3_theory.specs.Rings.Ring.{Ops}
use Rattle.p3_theory.specs.Lists.TabulatedEntries.{HoldsBelow, holds-more}

-- value i of a list of packings of w lanes, from lane 0 upward, packing after packing
abbrev pub value_at : {P F : Type 0} → P → Ops F → (P → List F) → ℕ → List P → ℕ → F
value_at d Q lanes w packings i = get_or (lanes (get_or packings (i / w) d)) (i % w) Q.zero

-- a value that was read of a packing
pub value_read : {P F : Type 0} (d : P) (Q : Ops F) (lanes : P → List F) (w : ℕ) (packings : List P) (i m n : ℕ) (p : P) (x : F) → m ≡ w → n ≡ w → i / m < length packings
    → p ≡ get_or packings (i / m) p → slice_get (lanes p) (i % n) ≡ Some x → x ≡ value_at d Q lanes w packings i
value_read d Q lanes w packings i m n p x em en b at read =
    sym (get_or_from_slice_get (lanes p) (i % n) x Q.zero read) ∙ ap (λ k. get_or (lanes p) (i % k) Q.zero) en
    ∙ ap (λ q. get_or (lanes q) (i % w) Q.zero) (at ∙ get_or_default packings (i / m) p d b ∙ ap (λ k. get_or packings (i / k) d) em)

-- index c * height + r of the target holds value r * width + c
abbrev pub IsTransposed : {F : Type 0} → (ℕ → F) → F → ℕ → ℕ → List F → Type 0
IsTransposed value zero width height target = (c r : ℕ) → c < width → r < height → get_or target (c * height + r) zero ≡ value (r * width + c)

-- what a transposed list holds at an index
abbrev pub transposed_entry : {F : Type 0} → (ℕ → F) → ℕ → ℕ → ℕ → F
transposed_entry value width height t = value (t % height * width + t / height)

module _ (width height : ℕ) where
  -- an index of a matrix lies below its size
  pub index-inside : (r c : ℕ) → r < height → c < width → r * width + c < height * width
  index-inside r c h b =
      let next : suc r * width ≤ height * width = mul-le-mul_right width (omega (arith, h)) in
      omega (arith, next, b, suc-mul r width)

  -- the size is that of the list
  pub whole-size : (n : ℕ) → height ≡ n / width → n % width ≡ 0 → height * width ≡ n
  whole-size n e z = ap (λ k. k * width) e ∙ omega (arith, div-add-mod' n width, z)

  module _ {F : Type 0} (value : ℕ → F) (zero : F) where
    -- one value more
    pub transposed-more : (xs : List F) (c r : ℕ) (x : F) → r < height → c * height + r < length xs → HoldsBelow (transposed_entry value width height) zero xs (c * height + r) → x ≡ value (r * width + c)
        → HoldsBelow (transposed_entry value width height) zero (set xs (c * height + r) x) (c * height + r + 1)
    transposed-more xs c r x h b held e =
        holds-more (transposed_entry value width height) zero xs (c * height + r) x b held
        (e ∙ ap₂ (λ a b. value (a * width + b)) (sym (mod-mul-add c height r h)) (sym (div-mul-add c height r h)))

    -- all of them
    pub transposed-all : (xs : List F) (n : ℕ) → width * height ≤ n → HoldsBelow (transposed_entry value width height) zero xs n → IsTransposed value zero width height xs
    transposed-all xs n le held c r b h =
        let next : suc c * height ≤ width * height = mul-le-mul_right height (omega (arith, b)) in
        held (c * height + r) (omega (arith, next, le, h, suc-mul c height))
        ∙ ap₂ (λ a b. value (a * width + b)) (mod-mul-add c height r h) (div-mul-add c height r h)
