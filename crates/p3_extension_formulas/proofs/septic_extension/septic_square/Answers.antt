use Rattle.std.proofs.Common.{◌∙◌, [], ◌∷◌, ap, sym}
use Rattle.p3_theory.specs.Polynomials.Polynomial.{quotient_mul}
use Rattle.p3_theory.specs.Lists.ListItems.{items_are}
use Rattle.p3_theory.specs.RingSolver.Solver.{free}
use Rattle.p3_theory.specs.RingSolver.Reify.{yes}
use Rattle.p3_theory.specs.RingSolver.StraightLine.{reads_list, sum_read, answer_read, formula, variables}
use Rattle.p3_theory.specs.Polynomials.IntegerPolynomials.{over}
use Rattle.p3_extension_formulas.specs.Trinomials.{septic_trinomial}
use Rattle.p3_extension_formulas.proofs.septic_extension.septic_square.Goals as goal

pub returns : goal.returns
returns g c =
    let o = g.R.PrimeCharacteristicRing.ops in
    let m = g.met.R.PrimeCharacteristicRing in
    let low = c.double_four-d0.ensures in
    let high = c.double_three-d4.ensures in
    let a = c.four_from-a0.result.0 ∷ c.four_from-a0.result.1 ∷ c.four_from-a0.result.2 ∷ c.four_from-a0.result.3 ∷ c.three_from-a4.result.0 ∷ c.three_from-a4.result.1 ∷ c.three_from-a4.result.2 ∷ [] in
    let coefficients = c.array_dot_product-c0.result ∷ c.array_dot_product-c1.result ∷ c.array_dot_product-c2.result ∷ c.array_dot_product-c3.result ∷ c.array_dot_product-c4.result ∷ c.array_dot_product-c5.result ∷ c.array_dot_product-c6.result ∷ [] in
    c.write_entries.ensures
    ∙ formula o a coefficients m.ring
    (λ P a0 a1 a2 a3 a4 a5 a6. search (reads_list, sum_read o P m.adds, c.add-a45.ensures, c.add-a56.ensures, c.add-a4_d5.ensures, c.add-a5_d6.ensures, c.add-d5_a6.ensures, answer_read o P c.zero-zero.ensures, answer_read o P low.first, answer_read o P low.second, answer_read o P low.third, answer_read o P low.fourth, answer_read o P high.first, answer_read o P high.second, answer_read o P high.third, answer_read o P c.array_dot_product-c0.ensures, answer_read o P c.array_dot_product-c1.ensures, answer_read o P c.array_dot_product-c2.ensures, answer_read o P c.array_dot_product-c3.ensures, answer_read o P c.array_dot_product-c4.ensures, answer_read o P c.array_dot_product-c5.ensures, answer_read o P c.array_dot_product-c6.ensures) depth 99 fits 99999)
    (quotient_mul free 7 (over free septic_trinomial) (variables 0 7) (variables 0 7)) yes
    ∙ ap (λ l. quotient_mul o 7 (over o septic_trinomial) l l) (sym (items_are c.args.a.now a c.requires.input search))
