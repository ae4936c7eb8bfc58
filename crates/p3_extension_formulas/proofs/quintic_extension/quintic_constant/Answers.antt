use Rattle.std.proofs.Common.{◌++◌, ◌∙◌, [], ◌∷◌, get_or, ap, ap₂, sym}
use Rattle.p3_theory.specs.Polynomials.Polynomial.{at, quotient_mul}
use Rattle.p3_theory.specs.Lists.ListItems.{items_are}
use Rattle.p3_theory.specs.Polynomials.IntegerPolynomials.{over}
use Rattle.p3_extension_formulas.specs.Trinomials.{quintic_trinomial}
use Rattle.p3_theory.specs.RingSolver.Solver.{free}
use Rattle.p3_theory.specs.RingSolver.Reify.{yes}
use Rattle.p3_theory.specs.RingSolver.StraightLine.{reads_list, sum_read, difference_read, product_read, answer_read, formula, variables}
use Rattle.p3_extension_formulas.proofs.quintic_extension.quintic_constant.Goals as goal

pub returns : goal.returns
returns g c =
    let o = g.R.PrimeCharacteristicRing.ops in
    let m = g.met.R.PrimeCharacteristicRing in
    let a = c.four_from-a0.result.0 ∷ c.four_from-a0.result.1 ∷ c.four_from-a0.result.2 ∷ c.four_from-a0.result.3 ∷ c.index-a-4.result ∷ [] in
    let b = c.four_from-b0.result.0 ∷ c.four_from-b0.result.1 ∷ c.four_from-b0.result.2 ∷ c.four_from-b0.result.3 ∷ c.index-b-4.result ∷ [] in
    ap (λ l. get_or l 0 o.zero) (formula o (a ++ b) (c.sub.result ∷ []) m.ring
    (λ P a0 a1 a2 a3 a4 b0 b1 b2 b3 b4. search (reads_list, sum_read o P m.adds, difference_read o P m.subs, product_read o P m.muls, c.sub.ensures, c.add-sum.ensures, c.mul-c0.ensures, c.mul-c8.ensures, answer_read o P c.array_dot_product-c5.ensures) depth 99 fits 99999)
    (at free (quotient_mul free 5 (over free quintic_trinomial) (variables 0 5) (variables 5 5)) 0 ∷ []) yes)
    ∙ ap₂ (λ x y. at o (quotient_mul o 5 (over o quintic_trinomial) x y) 0) (sym (items_are c.args.a.now a c.requires.left search)) (sym (items_are c.args.b.now b c.requires.right search))
