use Rattle.std.proofs.Common.{◌++◌, ◌∙◌, [], ◌∷◌, ap₂, sym}
use Rattle.p3_theory.specs.Polynomials.Polynomial.{quotient_mul, binomial}
use Rattle.p3_theory.specs.Lists.ListItems.{items_are}
use Rattle.p3_theory.specs.Lists.WrittenItems.{all_written}
use Rattle.p3_theory.specs.RingSolver.Solver.{free}
use Rattle.p3_theory.specs.RingSolver.Reify.{yes}
use Rattle.p3_theory.specs.RingSolver.StraightLine.{reads_list, sum_read, difference_read, product_read, formula, variables}
use Rattle.p3_extension.proofs.extension.complex_algebra.complex_product.Goals as goal

pub returns : goal.returns
returns g c =
    let o = g.A.PrimeCharacteristicRing.ops in
    let m = g.met.A.PrimeCharacteristicRing in
    let a = c.index-a-0.result ∷ c.index-a-1.result ∷ [] in
    let b = c.index-b-0.result ∷ c.index-b-1.result ∷ [] in
    let coefficients = c.sub-real.result ∷ c.add-imag.result ∷ [] in
    all_written c.args.res.now coefficients c.requires.room
    ∙ formula o (a ++ b) coefficients m.ring
    (λ P a0 a1 b0 b1. search (reads_list, sum_read o P m.adds, difference_read o P m.subs, product_read o P m.muls, c.sub-real.ensures, c.add-imag.ensures, c.mul-a0_b0.ensures, c.mul-a1_b1.ensures, c.mul-a0_b1.ensures, c.mul-a1_b0.ensures) depth 99 fits 99999)
    (quotient_mul free 2 (binomial free 2 (free.neg free.one)) (variables 0 2) (variables 2 2)) yes
    ∙ ap₂ (quotient_mul o 2 (binomial o 2 (o.neg o.one))) (sym (items_are c.args.a.now a c.requires.left search)) (sym (items_are c.args.b.now b c.requires.right search))
