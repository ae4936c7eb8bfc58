use Rattle.std.proofs.Common.{◌++◌, ◌∙◌, [], ◌∷◌, ap₂, sym}
use Rattle.p3_theory.specs.Polynomials.Polynomial.{quotient_mul}
use Rattle.p3_theory.specs.Lists.ListItems.{items_are}
use Rattle.p3_theory.specs.Polynomials.IntegerPolynomials.{over}
use Rattle.p3_extension_formulas.specs.Trinomials.{cubic_trinomial}
use Rattle.p3_theory.specs.RingSolver.Solver.{free}
use Rattle.p3_theory.specs.RingSolver.Reify.{yes}
use Rattle.p3_theory.specs.RingSolver.StraightLine.{reads_list, sum_read, answer_read, formula, variables}
use Rattle.p3_extension_formulas.proofs.cubic_extension.trinomial_cubic_mul.Goals as goal

pub returns : goal.returns
returns g c =
    let o = g.R.PrimeCharacteristicRing.ops in
    let m = g.met.R.PrimeCharacteristicRing in
    let a = c.three_from-a0.result.0 ∷ c.three_from-a0.result.1 ∷ c.three_from-a0.result.2 ∷ [] in
    let b = c.three_from-b0.result.0 ∷ c.three_from-b0.result.1 ∷ c.three_from-b0.result.2 ∷ [] in
    c.write_entries.ensures
    ∙ formula o (a ++ b) (c.array_dot_product-c0.result ∷ c.array_dot_product-c1.result ∷ c.array_dot_product-c2.result ∷ []) m.ring
    (λ P a0 a1 a2 b0 b1 b2. search (reads_list, sum_read o P m.adds, c.add-b0_plus_b2.ensures, c.add-b1_plus_b2.ensures, answer_read o P c.array_dot_product-c0.ensures, answer_read o P c.array_dot_product-c1.ensures, answer_read o P c.array_dot_product-c2.ensures) depth 99 fits 99999)
    (quotient_mul free 3 (over free cubic_trinomial) (variables 0 3) (variables 3 3)) yes
    ∙ ap₂ (quotient_mul o 3 (over o cubic_trinomial)) (sym (items_are c.args.a.now a c.requires.left search)) (sym (items_are c.args.b.now b c.requires.right search))
