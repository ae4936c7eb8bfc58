use Rattle.std.proofs.Common.{List, get_or, subst, sym}
use Rattle.p3_theory.specs.Rings.Ring.{Invertible}
use Rattle.p3_vectorized.proofs.array.quotients.FieldArrayDiv.div.Goals as goal

pub div-requires : goal.div-requires
div-requires g c =
    let d = c.index-ys-i.result in
    let Unit : List g.row.F.Denot → Type 0 = λ ys. Invertible g.F.PrimeCharacteristicRing.ops (get_or ys c.loop-i.i d) in
    g.met.F.Field.can_divide _ _ (subst Unit (sym c.items-ys.ensures) (c.requires d c.loop-i.i c.loop-i-test.true))
