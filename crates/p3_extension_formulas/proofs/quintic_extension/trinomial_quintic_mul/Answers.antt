use Rattle.std.proofs.Common.{◌++◌, ◌∙◌, [], ◌∷◌, ap₂, sym}
use Rattle.p3_theory.specs.Polynomials.Polynomial.{quotient_mul}
use Rattle.p3_theory.specs.Polynomials.IntegerPolynomials.{over}
use Rattle.p3_theory.specs.Lists.ListItems.{items_are}
use Rattle.p3_theory.specs.RingSolver.Solver.{free}
use Rattle.p3_theory.specs.RingSolver.Reify.{yes}
use Rattle.p3_theory.specs.RingSolver.StraightLine.{reads_list, product_read, answer_read, formula, variables}
use Rattle.p3_extension_formulas.specs.TrinomialRemainders.{quintic_reduced}
use Rattle.p3_extension_formulas.specs.Trinomials.{quintic_trinomial}
use Rattle.p3_extension_formulas.proofs.quintic_extension.trinomial_quintic_mul.Goals as goal

pub returns : goal.returns
returns g c =
    let o = g.R.PrimeCharacteristicRing.ops in
    let m = g.met.R.PrimeCharacteristicRing in
    let a = c.four_from-a0.result.0 ∷ c.four_from-a0.result.1 ∷ c.four_from-a0.result.2 ∷ c.four_from-a0.result.3 ∷ c.index-a-4.result ∷ [] in
    let b = c.four_from-b0.result.0 ∷ c.four_from-b0.result.1 ∷ c.four_from-b0.result.2 ∷ c.four_from-b0.result.3 ∷ c.index-b-4.result ∷ [] in
    let reduced = quintic_reduced o c.mul-c0.result c.array_dot_product-c1.result c.array_dot_product-c2.result c.array_dot_product-c3.result c.array_dot_product-c4.result c.array_dot_product-c5.result c.array_dot_product-c6.result c.array_dot_product-c7.result c.mul-c8.result in
    c.write_reduced.ensures
    ∙ formula o (a ++ b) reduced m.ring
    (λ P a0 a1 a2 a3 a4 b0 b1 b2 b3 b4. search (reads_list, product_read o P m.muls, c.mul-c0.ensures, c.mul-c8.ensures, answer_read o P c.array_dot_product-c1.ensures, answer_read o P c.array_dot_product-c2.ensures, answer_read o P c.array_dot_product-c3.ensures, answer_read o P c.array_dot_product-c4.ensures, answer_read o P c.array_dot_product-c5.ensures, answer_read o P c.array_dot_product-c6.ensures, answer_read o P c.array_dot_product-c7.ensures) depth 99 fits 99999)
    (quotient_mul free 5 (over free quintic_trinomial) (variables 0 5) (variables 5 5)) yes
    ∙ ap₂ (quotient_mul o 5 (over o quintic_trinomial)) (sym (items_are c.args.a.now a c.requires.left search)) (sym (items_are c.args.b.now b c.requires.right search))
