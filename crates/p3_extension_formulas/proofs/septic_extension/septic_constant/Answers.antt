use Rattle.std.proofs.Common.{◌++◌, ◌∙◌, [], ◌∷◌, get_or, ap, ap₂, sym}
use Rattle.p3_theory.specs.Polynomials.Polynomial.{at, quotient_mul}
use Rattle.p3_theory.specs.Lists.ListItems.{items_are}
use Rattle.p3_theory.specs.RingSolver.Solver.{free}
use Rattle.p3_theory.specs.RingSolver.Reify.{yes}
use Rattle.p3_theory.specs.RingSolver.StraightLine.{reads_list, answer_read, formula, variables}
use Rattle.p3_theory.specs.Polynomials.IntegerPolynomials.{over}
use Rattle.p3_extension_formulas.specs.Trinomials.{septic_trinomial}
use Rattle.p3_extension_formulas.proofs.septic_extension.septic_constant.Goals as goal

pub returns : goal.returns
returns g c =
    let o = g.R.PrimeCharacteristicRing.ops in
    let m = g.met.R.PrimeCharacteristicRing in
    let a = c.four_from-a0.result.0 ∷ c.four_from-a0.result.1 ∷ c.four_from-a0.result.2 ∷ c.four_from-a0.result.3 ∷ c.three_from-a4.result.0 ∷ c.three_from-a4.result.1 ∷ c.three_from-a4.result.2 ∷ [] in
    let b = c.four_from-b0.result.0 ∷ c.four_from-b0.result.1 ∷ c.four_from-b0.result.2 ∷ c.four_from-b0.result.3 ∷ c.three_from-b4.result.0 ∷ c.three_from-b4.result.1 ∷ c.three_from-b4.result.2 ∷ [] in
    ap (λ l. get_or l 0 o.zero) (formula o (a ++ b) (c.array_dot_product.result ∷ []) m.ring
    (λ P a0 a1 a2 a3 a4 a5 a6 b0 b1 b2 b3 b4 b5 b6. search (reads_list, answer_read o P c.array_dot_product.ensures) depth 99 fits 99999)
    (at free (quotient_mul free 7 (over free septic_trinomial) (variables 0 7) (variables 7 7)) 0 ∷ []) yes)
    ∙ ap₂ (λ x y. at o (quotient_mul o 7 (over o septic_trinomial) x y) 0) (sym (items_are c.args.a.now a c.requires.left search)) (sym (items_are c.args.b.now b c.requires.right search))
