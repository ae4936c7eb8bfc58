-- Units by lanes.
use Rattle.std.specs.Prelude.{◌≡◌, ◌<◌, ℕ, List, length}
use Rattle.std.proofs.Common.{subst, sym, ◌∙◌}
use Rattle.std.proofs.lemmas.List.{ext_get_or}
use Rattle.p3_theory.specs.Lanes.Lanes.{lane, KeepsLanes}
use Rattle.p3_theory.specs.Rings.Ring.{Ops}

-- a packing whose lanes are one is one
pub one_by_lanes : {P F : Type 0} (O : Ops P) (Q : Ops F) (lanes : P → List F) (w : ℕ) → KeepsLanes O Q lanes w → ((x : P) → length (lanes x) ≡ w)
    → ((x y : P) → lanes x ≡ lanes y → x ≡ y) → (x : P) → ((k : ℕ) → k < w → lane Q lanes k x ≡ Q.one) → x ≡ O.one
one_by_lanes O Q lanes w keeps long same x ones =
    let below : (k : ℕ) → k < length (lanes x) → k < w = λ k b. subst (λ n. k < n) (long x) b in
    same x O.one (ext_get_or Q.zero (lanes x) (lanes O.one) (long x ∙ sym (long O.one)) (λ k b. ones k (below k b) ∙ sym (keeps k (below k b)).one))
