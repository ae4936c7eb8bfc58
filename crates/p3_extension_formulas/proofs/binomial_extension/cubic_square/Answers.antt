use Rattle.std.proofs.Common.{◌++◌, ◌∙◌, [], ◌∷◌, ap, sym}
use Rattle.p3_theory.specs.Polynomials.Polynomial.{quotient_mul, binomial}
use Rattle.p3_theory.specs.Lists.ListItems.{items_are}
use Rattle.p3_theory.specs.RingSolver.Solver.{V, free}
use Rattle.p3_theory.specs.RingSolver.Reify.{yes}
use Rattle.p3_theory.specs.RingSolver.StraightLine.{reads_list, sum_read, product_read, scaled_read, answer_read, formula, variables}
use Rattle.p3_extension_formulas.proofs.binomial_extension.cubic_square.Goals as goal

pub returns : goal.returns
returns g c =
    let o = g.A.PrimeCharacteristicRing.ops in
    let m = g.met.A.PrimeCharacteristicRing in
    let x = g.met.A.Algebra in
    let w = g.A.Algebra.embed c.args.w in
    let twice = c.double_three-two_a1_a2_w.ensures in
    let a = c.three_from-a0.result.0 ∷ c.three_from-a0.result.1 ∷ c.three_from-a0.result.2 ∷ [] in
    let coefficients = c.add-c0.result ∷ c.add-c1.result ∷ c.add-c2.result ∷ [] in
    c.write_entries.ensures
    ∙ formula o (a ++ w ∷ []) coefficients m.ring
    (λ P a0 a1 a2 w_read. search (reads_list, sum_read o P m.adds, product_read o P m.muls, scaled_read o P x.mixed_muls, c.add-c0.ensures, c.add-c1.ensures, c.add-c2.ensures, c.mul-a2_w.ensures, c.mul-a1_a2_w.ensures, c.mul-a2_a2_w.ensures, c.mul-a0_a1.ensures, c.mul-a0_a2.ensures, answer_read o P c.square-a0_a0.ensures, answer_read o P c.square-a1_a1.ensures, answer_read o P twice.first, answer_read o P twice.second, answer_read o P twice.third) depth 99 fits 99999)
    (quotient_mul free 3 (binomial free 3 (V 3)) (variables 0 3) (variables 0 3)) yes
    ∙ ap (λ l. quotient_mul o 3 (binomial o 3 w) l l) (sym (items_are c.args.a.now a c.requires.input search))
