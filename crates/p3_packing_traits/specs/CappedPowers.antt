-- The powers of a value, as many side by side as a packing has lanes, up to a number of items.
use Rattle.std.specs.Prelude.{◌≡◌, ◌<◌, ◌+◌, ◌*◌, ℕ, List, length, get_or}
use Rattle.p3_theory.specs.Rings.Ring.{Ops}
use Rattle.p3_theory.specs.Rings.Powers.{power}
use Rattle.p3_theory.specs.Lanes.Lanes.{lane}

-- lane l of item k is the power k * w + l of the base
abbrev pub PacksPowers : {P F : Type 0} → Ops P → Ops F → (P → List F) → ℕ → List P → F → Type 0
PacksPowers O Q lanes w items base = (k l : ℕ) → k < length items → l < w → lane Q lanes l (get_or items k O.zero) ≡ power Q base (k * w + l)
