-- A given order serves every step.
use Rattle.std.proofs.Common.{ℕ}
use Rattle.std.specs.Prelude.{List, Option, IsSome}
use Rattle.p3_helpers.specs.FieldRuns.{OrderGiven, OrdersGiven}
use Rattle.p3_helpers.specs.declared.steps.field_steps.FieldStep.{FieldStep}
use Rattle.p3_helpers.specs.declared.steps.field_steps.FieldStep.TheVariants.{Add, Sub, Mul, Neg, Square, Double, Exp, Mul2Exp, Inv, Sqrt}

given : (size : Option ℕ) → IsSome size → (s : FieldStep) → OrderGiven size s
given size h (Add d a b) = tt
given size h (Sub d a b) = tt
given size h (Mul d a b) = tt
given size h (Neg d a) = tt
given size h (Square d a) = tt
given size h (Double d a) = tt
given size h (Exp d a e) = tt
given size h (Mul2Exp d a e) = tt
given size h (Inv d a) = tt
given size h (Sqrt d a) = h

pub all-given : (size : Option ℕ) → IsSome size → (steps : List FieldStep) → OrdersGiven size steps
all-given size h steps i d inside = given size h _
