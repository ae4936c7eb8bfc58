use Rattle.std.proofs.Common.{◌++◌, ◌∙◌, [], ◌∷◌, ap₂, sym}
use Rattle.p3_field.specs.IntegerPolynomials.{over}
use Rattle.p3_field.specs.ListItems.{items_are}
use Rattle.p3_field.specs.Polynomial.{quotient_mul}
use Rattle.p3_field.specs.Reify.{yes}
use Rattle.p3_field.specs.Solver.{free}
use Rattle.p3_field.specs.StraightLine.{reads_list, sum_read, difference_read, product_read, formula, variables}
use Rattle.p3_field.specs.WrittenItems.{all_written}
use Rattle.example_fibonacci.specs.Golden.{golden}
use Rattle.example_fibonacci.proofs.golden.GoldenIntegerPolynomial2.product.Goals as goal

pub returns : goal.returns
returns g c =
    let o = g.R.PrimeCharacteristicRing.ops in
    let m = g.met.R.PrimeCharacteristicRing in
    let a = c.index-a-0.result ∷ c.index-a-1.result ∷ [] in
    let b = c.index-b-0.result ∷ c.index-b-1.result ∷ [] in
    let entries = c.add-c0.result ∷ c.sub-c1.result ∷ [] in
    all_written c.args.res.now entries c.requires.room
    ∙ formula o (a ++ b) entries m.ring
    (λ P a0 a1 b0 b1. search (reads_list, sum_read o P m.adds, difference_read o P m.subs, product_read o P m.muls, c.mul-low.ensures, c.mul-high.ensures, c.add-left.ensures, c.add-right.ensures, c.mul-whole.ensures, c.add-c0.ensures, c.sub-c1.ensures) depth 99 fits 99999)
    (quotient_mul free 2 (over free golden) (variables 0 2) (variables 2 2)) yes
    ∙ ap₂ (quotient_mul o 2 (over o golden)) (sym (items_are c.args.a.now a c.requires.left search)) (sym (items_are c.args.b.now b c.requires.right search))
