use Rattle.std.proofs.Common.{◌++◌, ◌∙◌, [], ◌∷◌, get_or, ap, ap₂, sym}
use Rattle.p3_theory.specs.Polynomials.Polynomial.{at, quotient_mul}
use Rattle.p3_theory.specs.Lists.ListItems.{items_are}
use Rattle.p3_theory.specs.Polynomials.IntegerPolynomials.{over}
use Rattle.p3_extension_formulas.specs.Trinomials.{cubic_trinomial}
use Rattle.p3_theory.specs.RingSolver.Solver.{free}
use Rattle.p3_theory.specs.RingSolver.Reify.{yes}
use Rattle.p3_theory.specs.RingSolver.StraightLine.{reads_list, answer_read, formula, variables}
use Rattle.p3_extension_formulas.proofs.cubic_extension.cubic_constant.Goals as goal

pub returns : goal.returns
returns g c =
    let o = g.R.PrimeCharacteristicRing.ops in
    let a = c.three_from-a0.result.0 ∷ c.three_from-a0.result.1 ∷ c.three_from-a0.result.2 ∷ [] in
    let b = c.three_from-b0.result.0 ∷ c.three_from-b0.result.1 ∷ c.three_from-b0.result.2 ∷ [] in
    ap (λ l. get_or l 0 o.zero) (formula o (a ++ b) (c.array_dot_product.result ∷ []) g.met.R.PrimeCharacteristicRing.ring
    (λ P a0 a1 a2 b0 b1 b2. search (reads_list, answer_read o P c.array_dot_product.ensures) depth 99 fits 99999)
    (at free (quotient_mul free 3 (over free cubic_trinomial) (variables 0 3) (variables 3 3)) 0 ∷ []) yes)
    ∙ ap₂ (λ x y. at o (quotient_mul o 3 (over o cubic_trinomial) x y) 0) (sym (items_are c.args.a.now a c.requires.left search)) (sym (items_are c.args.b.now b c.requires.right search))
