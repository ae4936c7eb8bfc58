-- Readings of lists in parts, each by a search of its own: one search stops after ten million steps.
use Rattle.std.proofs.Common.{List, ◌++◌}
use Rattle.p3_theory.specs.Rings.Ring.{Ops}
use Rattle.p3_theory.specs.RingSolver.StraightLine.{AllRead, none, and}

-- two lists, one behind the other
abbrev pub both_read : {A : Type 0} (o : Ops A) (P : A → Type 0) (xs ys : List A) → AllRead o P xs → AllRead o P ys → AllRead o P (xs ++ ys)
both_read o P _ ys none s = s
both_read o P _ ys (and r rs) s = and r (both_read o P _ ys rs s)
