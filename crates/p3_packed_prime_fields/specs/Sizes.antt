-- The memory that packings take beside their scalars.
use Rattle.std.specs.Prelude.{◌<◌, ◌≤◌, ◌^◌}
use Rattle.std.specs.Mem.{type_size}
use Rattle.std.specs.Borrow.{RattleType}
use denote.Param.{value_of}
use Rattle.p3_packed_extension.specs.ArraySizes.{around_array_holds}
use Rattle.p3_packed_prime_fields.specs.contracts.packed.Packed.{the_row}

-- a packing of one or more lanes is no smaller than its scalar
pub packing_holds : (F N : RattleType) → 0 < value_of N → value_of N < 2 ^ 64 → type_size F ≤ type_size (the_row F N)
packing_holds F N h b = around_array_holds F N h b
