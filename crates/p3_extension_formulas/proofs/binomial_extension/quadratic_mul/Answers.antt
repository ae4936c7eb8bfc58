use Rattle.std.proofs.Common.{◌++◌, ◌∙◌, [], ◌∷◌, ap₂, sym}
use Rattle.p3_theory.specs.Polynomials.Polynomial.{quotient_mul, binomial}
use Rattle.p3_theory.specs.Lists.ListItems.{items_are}
use Rattle.p3_theory.specs.Lists.WrittenItems.{all_written}
use Rattle.p3_theory.specs.RingSolver.Solver.{V, free}
use Rattle.p3_theory.specs.RingSolver.Reify.{yes}
use Rattle.p3_theory.specs.RingSolver.StraightLine.{reads_list, sum_read, product_read, scaled_read, formula, variables}
use Rattle.p3_extension_formulas.proofs.binomial_extension.quadratic_mul.Goals as goal

pub returns : goal.returns
returns g c =
    let o = g.A.PrimeCharacteristicRing.ops in
    let m = g.met.A.PrimeCharacteristicRing in
    let x = g.met.A.Algebra in
    let w = g.A.Algebra.embed c.args.w in
    let a = c.index-a-0.result ∷ c.index-a-1.result ∷ [] in
    let b = c.index-b-0.result ∷ c.index-b-1.result ∷ [] in
    let coefficients = c.add-low.result ∷ c.add-high.result ∷ [] in
    all_written c.args.res.now coefficients c.requires.room
    ∙ formula o (a ++ b ++ w ∷ []) coefficients m.ring
    (λ P a0 a1 b0 b1 w_read. search (reads_list, sum_read o P m.adds, product_read o P m.muls, scaled_read o P x.mixed_muls, c.add-low.ensures, c.add-high.ensures, c.mul-constant.ensures, c.mul-folded.ensures, c.mul-outer.ensures, c.mul-inner.ensures, c.mul-b1_w.ensures) depth 99 fits 99999)
    (quotient_mul free 2 (binomial free 2 (V 4)) (variables 0 2) (variables 2 2)) yes
    ∙ ap₂ (quotient_mul o 2 (binomial o 2 w)) (sym (items_are c.args.a.now a c.requires.left search)) (sym (items_are c.args.b.now b c.requires.right search))
