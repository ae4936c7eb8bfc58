use Rattle.std.proofs.Common.{◌++◌, ◌∙◌, [], ◌∷◌, get_or, drop, ap}
use Rattle.p3_theory.specs.Rings.Ring.{ring_of}
use Rattle.p3_theory.specs.Lists.ListItems.{items_are}
use Rattle.p3_theory.specs.Inverses.CubicNorm.{cubic_norm, cubic_rest}
use Rattle.p3_theory.specs.Inverses.CubicInverse.{cubic_inverse, cubic_absent}
use Rattle.p3_theory.specs.RingSolver.Solver.{V, free}
use Rattle.p3_theory.specs.RingSolver.Reify.{yes}
use Rattle.p3_theory.specs.RingSolver.StraightLine.{reads_list, difference_read, product_read, answer_read, formula}
use Rattle.p3_extension_formulas.proofs.binomial_extension.cubic_inv.Goals as goal

pub returns-in_default-clause-none : goal.returns-in_default-clause-none
returns-in_default-clause-none g c = λ _.
    let o = g.F.PrimeCharacteristicRing.ops in
    let m = g.met.F.PrimeCharacteristicRing in
    let a = c.three_from.result in
    let list = a.0 ∷ a.1 ∷ a.2 ∷ [] in
    let found = formula o (list ++ c.args.w ∷ []) (c.sub-norm.result ∷ []) m.ring
    (λ P a0 a1 a2 w_read. search (reads_list, difference_read o P m.subs, product_read o P m.muls, c.sub-norm.ensures, c.mul-a2_w.ensures, c.mul-a0_a1.ensures, answer_read o P c.square-a0_square.ensures, answer_read o P c.square-a1_square.ensures, answer_read o P c.cubic_cubes-cubes.ensures, answer_read o P c.cubic_cross-cross.ensures) depth 99 fits 99999)
    (cubic_norm free (V 3) (V 0) (V 1) (V 2) ∷ []) yes in
    cubic_absent (ring_of m.ring) c.args.w c.args.a.now a.0 a.1 a.2 c.sub-norm.result (items_are c.args.a.now list c.requires.input search) (ap (λ l. get_or l 0 o.zero) found) c.in_default.ensures

pub returns-clause-inverse : goal.returns-clause-inverse
returns-clause-inverse g c = λ _.
    let o = g.F.PrimeCharacteristicRing.ops in
    let m = g.met.F.PrimeCharacteristicRing in
    let a = c.three_from.result in
    let list = a.0 ∷ a.1 ∷ a.2 ∷ [] in
    let rest = c.cubic_rest.ensures in
    let found = formula o (list ++ c.args.w ∷ c.in-Some.scalar ∷ []) (c.sub-norm.result ∷ c.cubic_rest.result.0 ∷ c.cubic_rest.result.1 ∷ c.cubic_rest.result.2 ∷ []) m.ring
    (λ P a0 a1 a2 w_read scalar. search (reads_list, difference_read o P m.subs, product_read o P m.muls, c.sub-norm.ensures, c.mul-a2_w.ensures, c.mul-a0_a1.ensures, answer_read o P c.square-a0_square.ensures, answer_read o P c.square-a1_square.ensures, answer_read o P c.cubic_cubes-cubes.ensures, answer_read o P c.cubic_cross-cross.ensures, answer_read o P rest.first, answer_read o P rest.second, answer_read o P rest.third) depth 99 fits 99999)
    (cubic_norm free (V 3) (V 0) (V 1) (V 2) ∷ cubic_rest free (V 3) (V 4) (V 0) (V 1) (V 2)) yes in
    cubic_inverse (ring_of m.ring) c.args.w c.args.a.now c.write_entries.new.res a.0 a.1 a.2 c.sub-norm.result c.in-Some.scalar (items_are c.args.a.now list c.requires.input search) (ap (λ l. get_or l 0 o.zero) found) c.in-Some.ensures (c.write_entries.ensures ∙ ap (drop 1) found)
