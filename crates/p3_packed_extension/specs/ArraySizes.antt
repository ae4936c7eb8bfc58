-- The memory that arrays take beside their entries.
use Rattle.std.specs.Prelude.{◌<◌, ◌≤◌, ◌+◌, ◌^◌, ℕ}
use Rattle.std.proofs.Common.{arith}
use Rattle.std.proofs.Math.Nat.{mul-le-mul_right}
use Rattle.std.specs.Mem.{type_size}
use Rattle.std.specs.Borrow.{RattleType}
use denote.Param.{layout, value_of}
use mir.Syntax.{Ty, w64, ty_int, ty_bool, ty_float, ty_ptr, ty_ref, ty_array, ty_unit, ty_struct, ty_enum, ty_named, ty_param, ty_const, ty_array_p}
use mir.Table.{array_at}
use mir.Val.{number_of}
use prog.Memory.{size, align, up}
use prog.Align.{up-ge}
use Prim.Native.Nat.{max}

-- an item is no larger than an array of one or more
pub array_holds : (τ ν : Ty) → 0 < number_of w64 ν → number_of w64 ν < 2 ^ 64 → size τ ≤ size (array_at τ ν)
array_holds τ (ty_const n) h b = omega (arith, mul-le-mul_right (size τ) h)
array_holds τ (ty_param j) h b = absurd (omega (arith, b))
array_holds τ (ty_int w) h b = absurd (omega (arith, b))
array_holds τ ty_bool h b = absurd (omega (arith, b))
array_holds τ (ty_float f) h b = absurd (omega (arith, b))
array_holds τ ty_ptr h b = absurd (omega (arith, b))
array_holds τ (ty_ref κ μ υ) h b = absurd (omega (arith, b))
array_holds τ (ty_array υ k) h b = absurd (omega (arith, b))
array_holds τ ty_unit h b = absurd (omega (arith, b))
array_holds τ (ty_struct ν υs) h b = absurd (omega (arith, b))
array_holds τ (ty_enum ν υss) h b = absurd (omega (arith, b))
array_holds τ (ty_named ν υs) h b = absurd (omega (arith, b))
array_holds τ (ty_array_p υ k) h b = absurd (omega (arith, b))

-- nor than a struct whose only field is such an array
abbrev pub around : Ty → ℕ
around t = up (max (align t) 1) (up (align t) 0 + size t)

pub around_array_holds : (F N : RattleType) → 0 < value_of N → value_of N < 2 ^ 64 → type_size F ≤ around (array_at (layout F) (layout N))
around_array_holds F N h b =
    let t = array_at (layout F) (layout N) in
    omega (arith, array_holds (layout F) (layout N) h b, up-ge (max (align t) 1) (up (align t) 0 + size t))
