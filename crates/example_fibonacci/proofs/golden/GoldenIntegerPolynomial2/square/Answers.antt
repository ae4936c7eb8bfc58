use Rattle.std.proofs.Common.{◌∙◌, [], ◌∷◌, ap, sym}
use Rattle.p3_field.specs.IntegerPolynomials.{over}
use Rattle.p3_field.specs.ListItems.{items_are}
use Rattle.p3_field.specs.Polynomial.{quotient_mul}
use Rattle.p3_field.specs.Reify.{yes}
use Rattle.p3_field.specs.Solver.{free}
use Rattle.p3_field.specs.StraightLine.{reads_list, sum_read, product_read, answer_read, formula, variables}
use Rattle.p3_field.specs.WrittenItems.{all_written}
use Rattle.example_fibonacci.specs.Golden.{golden}
use Rattle.example_fibonacci.proofs.golden.GoldenIntegerPolynomial2.square.Goals as goal

pub returns : goal.returns
returns g c =
    let o = g.R.PrimeCharacteristicRing.ops in
    let m = g.met.R.PrimeCharacteristicRing in
    let a = c.index-a-0.result ∷ c.index-a-1.result ∷ [] in
    let entries = c.add-c0.result ∷ c.add-c1.result ∷ [] in
    all_written c.args.res.now entries c.requires.room
    ∙ formula o a entries m.ring
    (λ P a0 a1. search (reads_list, sum_read o P m.adds, product_read o P m.muls, answer_read o P c.square-low.ensures, answer_read o P c.square-high.ensures, c.mul-cross.ensures, answer_read o P c.double-twice.ensures, c.add-c0.ensures, c.add-c1.ensures) depth 99 fits 99999)
    (quotient_mul free 2 (over free golden) (variables 0 2) (variables 0 2)) yes
    ∙ ap (λ l. quotient_mul o 2 (over o golden) l l) (sym (items_are c.args.a.now a c.requires.input search))
