use Rattle.std.proofs.Common.{◌∙◌, [], ◌∷◌, ap, sym}
use Rattle.p3_theory.specs.Polynomials.Polynomial.{quotient_mul}
use Rattle.p3_theory.specs.Lists.ListItems.{items_are}
use Rattle.p3_extension_formulas.specs.TrinomialRemainders.{quintic_reduced}
use Rattle.p3_theory.specs.Polynomials.IntegerPolynomials.{over}
use Rattle.p3_extension_formulas.specs.Trinomials.{quintic_trinomial}
use Rattle.p3_theory.specs.RingSolver.Solver.{free}
use Rattle.p3_theory.specs.RingSolver.Reify.{yes}
use Rattle.p3_theory.specs.RingSolver.StraightLine.{reads_list, product_read, answer_read, formula, variables}
use Rattle.p3_extension_formulas.proofs.quintic_extension.quintic_square.Goals as goal

pub returns : goal.returns
returns g c =
    let o = g.R.PrimeCharacteristicRing.ops in
    let m = g.met.R.PrimeCharacteristicRing in
    let read_a = c.four_from-a0 in
    let twice = c.double_four-a0_2.ensures in
    let a = read_a.result.0 ∷ read_a.result.1 ∷ read_a.result.2 ∷ read_a.result.3 ∷ c.index-a-4.result ∷ [] in
    let reduced = quintic_reduced o c.square-c0.result c.mul-c1.result c.array_dot_product-c2.result c.array_dot_product-c3.result c.array_dot_product-c4.result c.array_dot_product-c5.result c.array_dot_product-c6.result c.mul-c7.result c.square-c8.result in
    c.write_reduced.ensures
    ∙ formula o a reduced m.ring
    (λ P a0 a1 a2 a3 a4. search (reads_list, product_read o P m.muls, c.mul-c1.ensures, c.mul-c7.ensures, answer_read o P twice.first, answer_read o P twice.second, answer_read o P twice.third, answer_read o P twice.fourth, answer_read o P c.square-c0.ensures, answer_read o P c.square-c8.ensures, answer_read o P c.array_dot_product-c2.ensures, answer_read o P c.array_dot_product-c3.ensures, answer_read o P c.array_dot_product-c4.ensures, answer_read o P c.array_dot_product-c5.ensures, answer_read o P c.array_dot_product-c6.ensures) depth 99 fits 99999)
    (quotient_mul free 5 (over free quintic_trinomial) (variables 0 5) (variables 0 5)) yes
    ∙ ap (λ l. quotient_mul o 5 (over o quintic_trinomial) l l) (sym (items_are c.args.a.now a c.requires.input (read_a.ensures.first, (read_a.ensures.second, (read_a.ensures.third, (read_a.ensures.fourth, (c.index-a-4.is, tt)))))))
