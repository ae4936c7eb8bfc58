use Rattle.std.proofs.Common.{◌++◌, ◌∙◌, [], ◌∷◌, refl, ap₂, sym}
use Rattle.p3_theory.specs.Rings.DotProduct.{dot}
use Rattle.p3_theory.specs.Polynomials.Polynomial.{tabulate, at, quotient_mul, binomial}
use Rattle.p3_theory.specs.Lists.ListItems.{items_are}
use Rattle.p3_theory.specs.Lists.ByIndex.{to-tabulate}
use Rattle.p3_theory.specs.RingSolver.Solver.{V, free}
use Rattle.p3_theory.specs.RingSolver.Reify.{yes}
use Rattle.p3_theory.specs.RingSolver.StraightLine.{reads_list, scaled_read, answer_read, formula, variables}
use Rattle.p3_extension_formulas.proofs.binomial_extension.quintic_product.Goals as goal

pub returns : goal.returns
returns g c =
    let o = g.A.PrimeCharacteristicRing.ops in
    let m = g.met.A.PrimeCharacteristicRing in
    let x = g.met.A.Algebra in
    let w = g.A.Algebra.embed c.args.w in
    let scaled = c.scale_four-b1_w.ensures in
    let a = tabulate 5 (at o c.args.a.now) in
    let b = c.index-b-0.result ∷ c.four_from-b1.result.0 ∷ c.four_from-b1.result.1 ∷ c.four_from-b1.result.2 ∷ c.four_from-b1.result.3 ∷ [] in
    let coefficients = c.array_dot_product-c0.result ∷ c.array_dot_product-c1.result ∷ c.array_dot_product-c2.result ∷ c.array_dot_product-c3.result ∷ c.array_dot_product-c4.result ∷ [] in
    let items = to-tabulate o.zero 5 (at o c.args.a.now) c.args.a.now c.requires.left (λ k lt. refl) in
    let left = c.entries_of-left.ensures ∙ items in
    c.write_entries.ensures
    ∙ formula o (a ++ b ++ w ∷ []) coefficients m.ring
    (λ P a0 a1 a2 a3 a4 b0 b1 b2 b3 b4 w_read. search (reads_list, scaled_read o P x.mixed_muls, scaled.first, scaled.second, scaled.third, scaled.fourth, answer_read o P (c.array_dot_product-c0.ensures ∙ ap₂ (dot o) left refl), answer_read o P (c.array_dot_product-c1.ensures ∙ ap₂ (dot o) left refl), answer_read o P (c.array_dot_product-c2.ensures ∙ ap₂ (dot o) left refl), answer_read o P (c.array_dot_product-c3.ensures ∙ ap₂ (dot o) left refl), answer_read o P (c.array_dot_product-c4.ensures ∙ ap₂ (dot o) left refl)) depth 99 fits 99999)
    (quotient_mul free 5 (binomial free 5 (V 10)) (variables 0 5) (variables 5 5)) yes
    ∙ ap₂ (quotient_mul o 5 (binomial o 5 w)) (sym items) (sym (items_are c.args.b.now b c.requires.right search))
