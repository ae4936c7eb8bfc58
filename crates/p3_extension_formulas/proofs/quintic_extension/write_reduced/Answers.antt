use Rattle.std.proofs.Common.{◌∙◌, [], ◌∷◌, ap}
use Rattle.p3_theory.specs.Rings.Ring.{subtract}
use Rattle.p3_extension_formulas.proofs.quintic_extension.write_reduced.Goals as goal

pub returns : goal.returns
returns g c =
    let o = g.R.PrimeCharacteristicRing.ops in
    let m = g.met.R.PrimeCharacteristicRing in
    let high = m.subs.exact _ _ _ c.sub-c5_minus_c8.ensures in
    let r0 = m.adds.exact _ _ _ c.add-r0.ensures ∙ ap (o.add c.args.c0) high in
    let r1 = m.adds.exact _ _ _ c.add-r1.ensures in
    let r2 = m.adds.exact _ _ _ c.add-r2.ensures ∙ ap (λ x. o.add x c.args.c7) (m.subs.exact _ _ _ c.sub-rest2.ensures ∙ ap (subtract o c.args.c2) high) in
    let r3 = m.adds.exact _ _ _ c.add-r3.ensures ∙ ap (λ x. o.add x c.args.c8) (m.subs.exact _ _ _ c.sub-rest3.ensures) in
    let r4 = m.subs.exact _ _ _ c.sub-r4.ensures in
    c.write_entries.ensures
    ∙ (λ i. r0 i ∷ r1 i ∷ r2 i ∷ r3 i ∷ r4 i ∷ [])
