-- Registers as one of a list of types.
use Rattle.std.specs.Prelude.{ℕ, List, [], ◌∷◌}
use Rattle.p3_calculator.specs.declared.lists.OneOf.{OneOf}
use Rattle.p3_calculator.specs.declared.lists.OneOf.TheVariants.{This, Other}
use Rattle.p3_calculator.specs.Fields.{FieldSpec}
use Rattle.p3_calculator.specs.States.{State, at_field}

-- the fields beside their names
abbrev pub rows : List FieldSpec → List (List ℕ) → List (List ℕ × FieldSpec)
rows [] names = []
rows (s ∷ fields) [] = []
rows (s ∷ fields) (name ∷ names) = (name, s) ∷ rows fields names

-- the state of the registers, whichever type they are of
abbrev pub state_of_one : {R L : Type 0} → FieldSpec → (R → List (List ℕ)) → (L → State) → OneOf R L → State
state_of_one s registers rest (This regs) = at_field s (registers regs)
state_of_one s registers rest (Other other) = rest other
