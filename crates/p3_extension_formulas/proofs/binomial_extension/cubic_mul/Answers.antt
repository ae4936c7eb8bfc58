use Rattle.std.proofs.Common.{◌++◌, ◌∙◌, [], ◌∷◌, ap₂, sym}
use Rattle.p3_theory.specs.Polynomials.Polynomial.{quotient_mul, binomial}
use Rattle.p3_theory.specs.Lists.ListItems.{items_are}
use Rattle.p3_theory.specs.RingSolver.Solver.{V, free}
use Rattle.p3_theory.specs.RingSolver.Reify.{yes}
use Rattle.p3_theory.specs.RingSolver.StraightLine.{reads_list, sum_read, product_read, scaled_read, answer_read, formula, variables}
use Rattle.p3_extension_formulas.proofs.binomial_extension.cubic_mul.Goals as goal

pub returns : goal.returns
returns g c =
    let o = g.A.PrimeCharacteristicRing.ops in
    let m = g.met.A.PrimeCharacteristicRing in
    let x = g.met.A.Algebra in
    let w = g.A.Algebra.embed c.args.w in
    let a = c.three_from-a0.result.0 ∷ c.three_from-a0.result.1 ∷ c.three_from-a0.result.2 ∷ [] in
    let b = c.three_from-b0.result.0 ∷ c.three_from-b0.result.1 ∷ c.three_from-b0.result.2 ∷ [] in
    let coefficients = c.add-c0.result ∷ c.add-c1.result ∷ c.add-c2.result ∷ [] in
    c.write_entries.ensures
    ∙ formula o (a ++ b ++ w ∷ []) coefficients m.ring
    (λ P a0 a1 a2 b0 b1 b2 w_read. search (reads_list, sum_read o P m.adds, product_read o P m.muls, scaled_read o P x.mixed_muls, c.add-c0.ensures, c.add-c1.ensures, c.add-c2.ensures, c.mul-a0_b0.ensures, c.mul-a1_b1.ensures, c.mul-a2_b2.ensures, c.mul-cross_12_w.ensures, c.mul-a2_b2_w.ensures, answer_read o P c.cross_sum-cross_12.ensures, answer_read o P c.cross_sum-cross_01.ensures, answer_read o P c.cross_sum-cross_02.ensures) depth 99 fits 99999)
    (quotient_mul free 3 (binomial free 3 (V 6)) (variables 0 3) (variables 3 3)) yes
    ∙ ap₂ (quotient_mul o 3 (binomial o 3 w)) (sym (items_are c.args.a.now a c.requires.left search)) (sym (items_are c.args.b.now b c.requires.right search))
