-- Registers by their coefficients.
use Rattle.std.specs.Prelude.{List, ℕ, map}
use Rattle.p3_calculator.specs.declared.registers.Registers.{Registers}
use Rattle.p3_calculator.specs.States.{State, at_field}
use Rattle.p3_calculator.specs.Fields.{FieldSpec}
use Rattle.p3_prime_fields.specs.declared.fp.Fp.{Fp}
use Rattle.p3_prime_fields.specs.declared.form.Form as forms
use Rattle.p3_prime_fields.specs.declared.form.Word as words
use Rattle.p3_prime_fields.specs.Elements as Elements

-- registers of a type's values, by their coefficients
abbrev pub state_at : {F : Type 0} → FieldSpec → (F → List ℕ) → Registers F → State
state_at s coefficients regs = at_field s (map coefficients regs.values)

-- the canonical value of a residue
abbrev pub canon : {W T : Type 0} {form : forms.Ghosts W T} {numbers : words.Ghosts T} → Fp W T form numbers → ℕ
canon {form = form} x = Elements.canon form x
