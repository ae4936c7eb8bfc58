use Rattle.std.proofs.Common.{◌++◌, ◌∙◌, [], ◌∷◌, ap, sym}
use Rattle.p3_theory.specs.Polynomials.Polynomial.{quotient_mul, binomial}
use Rattle.p3_theory.specs.Lists.ListItems.{items_are}
use Rattle.p3_theory.specs.RingSolver.Solver.{V, free}
use Rattle.p3_theory.specs.RingSolver.Reify.{yes}
use Rattle.p3_theory.specs.RingSolver.StraightLine.{reads_list, scaled_read, answer_read, formula, variables}
use Rattle.p3_extension_formulas.proofs.binomial_extension.quartic_square.Goals as goal

pub returns : goal.returns
returns g c =
    let o = g.A.PrimeCharacteristicRing.ops in
    let m = g.met.A.PrimeCharacteristicRing in
    let x = g.met.A.Algebra in
    let w = g.A.Algebra.embed c.args.w in
    let twice = c.double_three-two_a0.ensures in
    let a = c.four_from-a0.result.0 ∷ c.four_from-a0.result.1 ∷ c.four_from-a0.result.2 ∷ c.four_from-a0.result.3 ∷ [] in
    let coefficients = c.array_dot_product-c0.result ∷ c.array_dot_product-c1.result ∷ c.array_dot_product-c2.result ∷ c.array_dot_product-c3.result ∷ [] in
    c.write_entries.ensures
    ∙ formula o (a ++ w ∷ []) coefficients m.ring
    (λ P a0 a1 a2 a3 w_read. search (reads_list, scaled_read o P x.mixed_muls, c.mul-a2_w.ensures, c.mul-a3_w.ensures, answer_read o P twice.first, answer_read o P twice.second, answer_read o P twice.third, answer_read o P c.array_dot_product-c0.ensures, answer_read o P c.array_dot_product-c1.ensures, answer_read o P c.array_dot_product-c2.ensures, answer_read o P c.array_dot_product-c3.ensures) depth 99 fits 99999)
    (quotient_mul free 4 (binomial free 4 (V 4)) (variables 0 4) (variables 0 4)) yes
    ∙ ap (λ l. quotient_mul o 4 (binomial o 4 w) l l) (sym (items_are c.args.a.now a c.requires.input search))
