-- The memory that arrays of values take beside a value.
use Rattle.std.specs.Prelude.{◌<◌, ◌≤◌, ◌+◌, ◌^◌, ℕ}
use Rattle.std.proofs.Common.{arith}
use Rattle.std.specs.Mem.{type_size}
use Rattle.std.specs.Borrow.{RattleType}
use denote.Param.{layout, value_of}
use mir.Syntax.{Ty}
use mir.Table.{array_at}
use prog.Memory.{size, align, up}
use prog.Align.{up-ge}
use Prim.Native.Nat.{max}
use Rattle.p3_packed_extension.specs.ArraySizes.{array_holds}

-- the size of a struct with a field and a marker, which takes no memory
abbrev pub marked : Ty → ℕ
marked t = up (max (align t) 1) (up 1 (up (align t) 0 + size t) + 0)

-- a value is no larger than an array of one or more beside a marker
pub marked_array_holds : (F N : RattleType) → 0 < value_of N → value_of N < 2 ^ 64 → type_size F ≤ marked (array_at (layout F) (layout N))
marked_array_holds F N h b =
    let t = array_at (layout F) (layout N) in
    let e = up (align t) 0 + size t in
    omega (arith, array_holds (layout F) (layout N) h b, up-ge 1 e, up-ge (max (align t) 1) (up 1 e + 0))
