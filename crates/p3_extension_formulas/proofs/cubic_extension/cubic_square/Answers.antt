use Rattle.std.proofs.Common.{◌∙◌, [], ◌∷◌, ap, sym}
use Rattle.p3_theory.specs.Polynomials.Polynomial.{quotient_mul}
use Rattle.p3_theory.specs.Polynomials.IntegerPolynomials.{over}
use Rattle.p3_theory.specs.Lists.ListItems.{items_are}
use Rattle.p3_theory.specs.RingSolver.Solver.{free}
use Rattle.p3_theory.specs.RingSolver.Reify.{yes}
use Rattle.p3_theory.specs.RingSolver.StraightLine.{reads_list, sum_read, answer_read, formula, variables}
use Rattle.p3_extension_formulas.specs.Trinomials.{cubic_trinomial}
use Rattle.p3_extension_formulas.proofs.cubic_extension.cubic_square.Goals as goal

pub returns : goal.returns
returns g c =
    let o = g.R.PrimeCharacteristicRing.ops in
    let m = g.met.R.PrimeCharacteristicRing in
    let a = c.three_from-a0.result.0 ∷ c.three_from-a0.result.1 ∷ c.three_from-a0.result.2 ∷ [] in
    c.write_entries.ensures
    ∙ formula o a (c.array_dot_product-c0.result ∷ c.array_dot_product-c1.result ∷ c.array_dot_product-c2.result ∷ []) m.ring
    (λ P a0 a1 a2. search (reads_list, sum_read o P m.adds, c.add-two_a0_plus_a2.ensures, c.add-two_a1_plus_a2.ensures, answer_read o P c.double-a0_2.ensures, answer_read o P c.double-a1_2.ensures, answer_read o P c.array_dot_product-c0.ensures, answer_read o P c.array_dot_product-c1.ensures, answer_read o P c.array_dot_product-c2.ensures) depth 99 fits 99999)
    (quotient_mul free 3 (over free cubic_trinomial) (variables 0 3) (variables 0 3)) yes
    ∙ ap (λ l. quotient_mul o 3 (over o cubic_trinomial) l l) (sym (items_are c.args.a.now a c.requires.input search))
