use Rattle.std.proofs.Common.{◌++◌, ◌∙◌, [], ◌∷◌, ap₂, sym}
use Rattle.p3_theory.specs.Polynomials.Polynomial.{quotient_mul, binomial}
use Rattle.p3_theory.specs.Lists.ListItems.{items_are}
use Rattle.p3_theory.specs.Lists.WrittenItems.{all_written}
use Rattle.p3_theory.specs.RingSolver.Solver.{V, free}
use Rattle.p3_theory.specs.RingSolver.Reify.{yes}
use Rattle.p3_theory.specs.RingSolver.StraightLine.{reads_list, scaled_read, answer_read, formula, variables}
use Rattle.p3_extension_formulas.proofs.binomial_extension.quartic_product.Goals as goal

pub returns : goal.returns
returns g c =
    let o = g.A.PrimeCharacteristicRing.ops in
    let m = g.met.A.PrimeCharacteristicRing in
    let x = g.met.A.Algebra in
    let w = g.A.Algebra.embed c.args.w in
    let a = c.index-a-0.result ∷ c.index-a-1.result ∷ c.index-a-2.result ∷ c.index-a-3.result ∷ [] in
    let b = c.index-b-0.result ∷ c.index-b-1.result ∷ c.index-b-2.result ∷ c.index-b-3.result ∷ [] in
    let coefficients = c.array_dot_product-c0.result ∷ c.array_dot_product-c1.result ∷ c.array_dot_product-c2.result ∷ c.array_dot_product-c3.result ∷ [] in
    all_written c.args.res.now coefficients c.requires.room
    ∙ formula o (a ++ b ++ w ∷ []) coefficients m.ring
    (λ P a0 a1 a2 a3 b0 b1 b2 b3 w_read. search (reads_list, scaled_read o P x.mixed_muls, c.mul-b1_w.ensures, c.mul-b2_w.ensures, c.mul-b3_w.ensures, answer_read o P c.array_dot_product-c0.ensures, answer_read o P c.array_dot_product-c1.ensures, answer_read o P c.array_dot_product-c2.ensures, answer_read o P c.array_dot_product-c3.ensures) depth 99 fits 99999)
    (quotient_mul free 4 (binomial free 4 (V 8)) (variables 0 4) (variables 4 4)) yes
    ∙ ap₂ (quotient_mul o 4 (binomial o 4 w)) (sym (items_are c.args.a.now a c.requires.left search)) (sym (items_are c.args.b.now b c.requires.right search))
