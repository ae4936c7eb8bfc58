use Rattle.std.proofs.Common.{◌∙◌, ap}
use Rattle.p3_theory.specs.Rings.Ring.{subtract}
use Rattle.p3_extension_formulas.proofs.binomial_extension.cubic_rest.Goals as goal

pub returns-clause-first : goal.returns-clause-first
returns-clause-first g c =
    let o = g.F.PrimeCharacteristicRing.ops in
    let m = g.met.F.PrimeCharacteristicRing in
    m.muls.exact _ _ _ c.mul-c0.ensures
    ∙ ap (o.mul c.args.scalar) (m.subs.exact _ _ _ c.sub-rest_0.ensures ∙ ap (subtract o c.args.squares.0) (m.muls.exact _ _ _ c.mul-a1_a2_w.ensures))

pub returns-clause-second : goal.returns-clause-second
returns-clause-second g c =
    let o = g.F.PrimeCharacteristicRing.ops in
    let m = g.met.F.PrimeCharacteristicRing in
    m.muls.exact _ _ _ c.mul-c1.ensures
    ∙ ap (o.mul c.args.scalar) (m.subs.exact _ _ _ c.sub-rest_1.ensures ∙ ap (λ x. subtract o x c.args.a0_a1) (m.muls.exact _ _ _ c.mul-a2_a2_w.ensures))

pub returns-clause-third : goal.returns-clause-third
returns-clause-third g c =
    let o = g.F.PrimeCharacteristicRing.ops in
    let m = g.met.F.PrimeCharacteristicRing in
    m.muls.exact _ _ _ c.mul-c2.ensures
    ∙ ap (o.mul c.args.scalar) (m.subs.exact _ _ _ c.sub-rest_2.ensures ∙ ap (subtract o c.args.squares.1) (m.muls.exact _ _ _ c.mul-a0_a2.ensures))
