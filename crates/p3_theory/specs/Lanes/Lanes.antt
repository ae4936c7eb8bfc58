-- Lanes of a packing.
use Rattle.std.specs.Prelude.{◌≡◌, ◌<◌, ℕ, zero, suc, List, [], ◌∷◌, get_or, replicate}
use Rattle.std.proofs.Common.{arith, ap, ◌∙◌}
use Rattle.std.proofs.lemmas.List.{get_or-replicate}
use Rattle.p3_theory.specs.Rings.Ring.{Ops, Hom}
use Rattle.p3_theory.specs.Rings.Homomorphism.{identity}

-- lane k of a packing that is told by the list of its lanes
abbrev pub lane : {P F : Type 0} → Ops F → (P → List F) → ℕ → P → F
lane Q lanes k x = get_or (lanes x) k Q.zero

-- each of the w lanes keeps the operations
abbrev pub KeepsLanes : {P F : Type 0} → Ops P → Ops F → (P → List F) → ℕ → Type 0
KeepsLanes O Q lanes w = (k : ℕ) → k < w → Hom O Q (lane Q lanes k)

-- a value is its own only lane
pub one_lane : {F : Type 0} (O : Ops F) → KeepsLanes O O (λ x. x ∷ []) 1
one_lane O zero h = identity O
one_lane O (suc k) h = absurd (omega arith)

-- a lane of what holds one value in all lanes
pub at_replicate : {F : Type 0} (n k : ℕ) (v d : F) (xs : List F) → k < n → xs ≡ replicate n v → get_or xs k d ≡ v
at_replicate n k v d xs h e = ap (λ l. get_or l k d) e ∙ get_or-replicate n k v d h
