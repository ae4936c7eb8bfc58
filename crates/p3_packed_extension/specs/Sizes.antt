-- The memory that extension values take beside packed ones.
use Rattle.std.specs.Prelude.{◌≡◌, ◌≤◌, ◌*◌, ◌+◌, ◌-◌, ◌%◌, ℕ}
use Rattle.std.proofs.Common.{arith, ap, ◌∙◌}
use Rattle.std.proofs.Math.Nat.{mod_self, mul-le-mul_left}
use Rattle.std.specs.Mem.{FitsInMemory, type_size}
use Rattle.std.specs.Borrow.{RattleType}
use denote.Param.{layout, number}
use mir.Syntax.{Ty}
use prog.Memory.{size, align, up}
use prog.Align.{Dv, dv→, dv_zero, dv_one, dv_mul, align_size, align_pos, up-ge}
use Prim.Native.Nat.{max}
use Rattle.p3_extension.specs.contracts.extension.ext_field.ExtField.{the_row}
use Rattle.p3_packed_extension.specs.contracts.packed_ext_field.PackedExtField.{the_row as packed_row}

-- an extension value of F by the shape S is no larger than memory
pub record ExtensionFits (F D S : RattleType) : Type 0 where
  pub fits : FitsInMemory (the_row F D S F)

-- what is a multiple already is not rounded up
up_none : (k e : ℕ) → Dv k e → up k e ≡ e
up_none k e h = ap (λ r. e + (k - r) % k) (dv→ k e h) ∙ ap (λ r. e + r % k) (omega arith) ∙ ap (λ r. e + r) (mod_self k) ∙ omega arith

-- the size of n items of size s and alignment a, and then of what takes no memory
abbrev listed : ℕ → ℕ → ℕ → ℕ
listed a s n = up (max a 1) (up 1 (up a 0 + n * s) + 0)

listed_size : (τ : Ty) (n : ℕ) → listed (align τ) (size τ) n ≡ n * size τ
listed_size τ n =
    let a = align τ in
    let most : max a 1 ≡ a = omega (arith, align_pos τ) in
    let items : up a 0 + n * size τ ≡ n * size τ = ap (λ z. z + n * size τ) (up_none a 0 (dv_zero a)) ∙ omega arith in
    let ends : up 1 (up a 0 + n * size τ) + 0 ≡ n * size τ = omega (arith, up_none 1 (up a 0 + n * size τ) (dv_one (up a 0 + n * size τ)), items) in
    ap (λ k. up k (up 1 (up a 0 + n * size τ) + 0)) most ∙ ap (up a) ends ∙ up_none a (n * size τ) (dv_mul a (size τ) n (align_size τ))

-- where a packing is no smaller than its scalar and a packed extension value fits in memory, an extension value does
pub scalars_fit : (F S P : RattleType) (n : ℕ) → type_size F ≤ type_size P → FitsInMemory (packed_row F (number n) S P) → FitsInMemory (the_row F (number n) S F)
scalars_fit F S P n h fits =
    let p = layout P in
    let a = max (align p) 1 in
    let inner : listed (align p) (size p) n ≤ up a 0 + listed (align p) (size p) n = omega arith in
    let outer : up a 0 + listed (align p) (size p) n ≤ type_size (packed_row F (number n) S P) = up-ge (max a 1) (up a 0 + listed (align p) (size p) n) in
    let small : type_size (the_row F (number n) S F) ≡ n * size (layout F) = listed_size (layout F) n in
    omega (arith, small, listed_size p n, inner, outer, mul-le-mul_left n h, fits)

-- the same as one fact by its name
pub extension_fits : (F S P : RattleType) (n : ℕ) → type_size F ≤ type_size P → FitsInMemory (packed_row F (number n) S P) → ExtensionFits F (number n) S
extension_fits F S P n h fits = record { fits = scalars_fit F S P n h fits }
