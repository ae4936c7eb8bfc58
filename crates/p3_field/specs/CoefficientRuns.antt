-- Runs read as coefficient lists.
use Rattle.std.specs.Prelude.{◌≡◌, List, map}
use Rattle.std.proofs.Common.{ap, ◌∙◌, sym}
use mathlib.Core.List.{map-map}
use Rattle.p3_theory.specs.Rings.Ring.{Ops, Hom}
use Rattle.p3_helpers.specs.declared.steps.Step.{Step}
use Rattle.p3_helpers.specs.Runs.{run}
use Rattle.p3_helpers.specs.RunsAlong.{run-along}

-- what is known of a reading is known of a reading of it
pub read_through : {V A B : Type 0} {O : Ops A} {P : Ops B} {f : A → B} → Hom O P f → (r : V → A) (steps : List Step) (new old : List V)
    → map r new ≡ run O steps (map r old) → map (λ v. f (r v)) new ≡ run P steps (map (λ v. f (r v)) old)
read_through {O = O} {P = P} {f = f} k r steps new old e =
    sym (map-map f r new) ∙ ap (map f) e ∙ run-along k steps (map r old) ∙ ap (run P steps) (map-map f r old)
