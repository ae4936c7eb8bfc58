use Rattle.std.proofs.Common.{◌++◌, ◌∙◌, [], ◌∷◌, get_or, ap, ap₂, sym}
use Rattle.p3_field.specs.IntegerPolynomials.{over}
use Rattle.p3_field.specs.ListItems.{items_are}
use Rattle.p3_field.specs.Polynomial.{at, quotient_mul}
use Rattle.p3_field.specs.Reify.{yes}
use Rattle.p3_field.specs.Solver.{free}
use Rattle.p3_field.specs.StraightLine.{reads_list, sum_read, product_read, formula, variables}
use Rattle.example_fibonacci.specs.Golden.{golden}
use Rattle.example_fibonacci.proofs.golden.GoldenIntegerPolynomial2.constant_of_product.Goals as goal

pub returns : goal.returns
returns g c =
    let o = g.R.PrimeCharacteristicRing.ops in
    let m = g.met.R.PrimeCharacteristicRing in
    let a = c.index-a-0.result ∷ c.index-a-1.result ∷ [] in
    let b = c.index-b-0.result ∷ c.index-b-1.result ∷ [] in
    ap (λ l. get_or l 0 o.zero) (formula o (a ++ b) (c.add.result ∷ []) m.ring
    (λ P a0 a1 b0 b1. search (reads_list, sum_read o P m.adds, product_read o P m.muls, c.mul-low.ensures, c.mul-high.ensures, c.add.ensures) depth 99 fits 99999)
    (at free (quotient_mul free 2 (over free golden) (variables 0 2) (variables 2 2)) 0 ∷ []) yes)
    ∙ ap₂ (λ x y. at o (quotient_mul o 2 (over o golden) x y) 0) (sym (items_are c.args.a.now a c.requires.left search)) (sym (items_are c.args.b.now b c.requires.right search))
