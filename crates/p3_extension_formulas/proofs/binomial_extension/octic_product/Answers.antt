use Rattle.std.proofs.Common.{◌++◌, ◌∙◌, [], ◌∷◌, refl, ap₂, sym}
use Rattle.p3_theory.specs.Rings.DotProduct.{dot}
use Rattle.p3_theory.specs.Polynomials.Polynomial.{tabulate, at, quotient_mul, binomial}
use Rattle.p3_theory.specs.Lists.ListItems.{items_are}
use Rattle.p3_theory.specs.Lists.ByIndex.{to-tabulate}
use Rattle.p3_theory.specs.RingSolver.Solver.{V, free}
use Rattle.p3_theory.specs.RingSolver.Reify.{yes}
use Rattle.p3_theory.specs.RingSolver.StraightLine.{reads_list, scaled_read, answer_read, formula, variables}
use Rattle.p3_extension_formulas.proofs.Readings.{both_read}
use Rattle.p3_extension_formulas.proofs.binomial_extension.octic_product.Goals as goal

pub returns : goal.returns
returns g c =
    let o = g.A.PrimeCharacteristicRing.ops in
    let m = g.met.A.PrimeCharacteristicRing in
    let x = g.met.A.Algebra in
    let w = g.A.Algebra.embed c.args.w in
    let three = c.scale_three.ensures in
    let four = c.scale_four.ensures in
    let some = c.octic_coefficients.ensures in
    let others = c.octic_coefficients-2.ensures in
    let a = tabulate 8 (at o c.args.a.now) in
    let b = c.four_from-low.result.0 ∷ c.four_from-low.result.1 ∷ c.four_from-low.result.2 ∷ c.four_from-low.result.3 ∷ c.four_from-high.result.0 ∷ c.four_from-high.result.1 ∷ c.four_from-high.result.2 ∷ c.four_from-high.result.3 ∷ [] in
    let low = c.octic_coefficients.result.0 ∷ c.octic_coefficients.result.1 ∷ c.octic_coefficients.result.2 ∷ c.octic_coefficients.result.3 ∷ [] in
    let high = c.octic_coefficients-2.result.0 ∷ c.octic_coefficients-2.result.1 ∷ c.octic_coefficients-2.result.2 ∷ c.octic_coefficients-2.result.3 ∷ [] in
    let items = to-tabulate o.zero 8 (at o c.args.a.now) c.args.a.now c.requires.left (λ k lt. refl) in
    let left = c.entries_of-left.ensures ∙ items in
    c.write_entries.ensures
    ∙ formula o (a ++ b ++ w ∷ []) (low ++ high) m.ring
    (λ P a0 a1 a2 a3 a4 a5 a6 a7 b0 b1 b2 b3 b4 b5 b6 b7 w_read. both_read o P low high
    (search (reads_list, scaled_read o P x.mixed_muls, three.first, three.second, three.third, four.first, four.second, four.third, four.fourth, answer_read o P (some.first ∙ ap₂ (dot o) left refl), answer_read o P (some.second ∙ ap₂ (dot o) left refl), answer_read o P (some.third ∙ ap₂ (dot o) left refl), answer_read o P (some.fourth ∙ ap₂ (dot o) left refl)) depth 99 fits 99999)
    (search (reads_list, scaled_read o P x.mixed_muls, four.second, four.third, four.fourth, answer_read o P (others.first ∙ ap₂ (dot o) left refl), answer_read o P (others.second ∙ ap₂ (dot o) left refl), answer_read o P (others.third ∙ ap₂ (dot o) left refl), answer_read o P (others.fourth ∙ ap₂ (dot o) left refl)) depth 99 fits 99999))
    (quotient_mul free 8 (binomial free 8 (V 16)) (variables 0 8) (variables 8 8)) yes
    ∙ ap₂ (quotient_mul o 8 (binomial o 8 w)) (sym items) (sym (items_are c.args.b.now b c.requires.right search))
