mod NextTerm
mod EightFurther
mod PackedGroups
mod SumParts
