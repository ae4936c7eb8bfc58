use Rattle.std.proofs.Common.{◌++◌, ◌∙◌, [], ◌∷◌, ap, sym}
use Rattle.p3_theory.specs.Polynomials.Polynomial.{quotient_mul, binomial}
use Rattle.p3_theory.specs.Lists.ListItems.{items_are}
use Rattle.p3_theory.specs.RingSolver.Solver.{V, free}
use Rattle.p3_theory.specs.RingSolver.Reify.{yes}
use Rattle.p3_theory.specs.RingSolver.StraightLine.{reads_list, scaled_read, answer_read, formula, variables}
use Rattle.p3_extension_formulas.proofs.Readings.{both_read}
use Rattle.p3_extension_formulas.proofs.binomial_extension.octic_square.Goals as goal

pub returns : goal.returns
returns g c =
    let o = g.A.PrimeCharacteristicRing.ops in
    let m = g.met.A.PrimeCharacteristicRing in
    let x = g.met.A.Algebra in
    let w = g.A.Algebra.embed c.args.w in
    let twice = c.double_four-a0_2.ensures in
    let scaled = c.scale_four-w_a4.ensures in
    let twice_scaled = c.double_three-w_a5_2.ensures in
    let a = c.four_from-a0.result.0 ∷ c.four_from-a0.result.1 ∷ c.four_from-a0.result.2 ∷ c.four_from-a0.result.3 ∷ c.four_from-a4.result.0 ∷ c.four_from-a4.result.1 ∷ c.four_from-a4.result.2 ∷ c.four_from-a4.result.3 ∷ [] in
    let low = c.array_dot_product-c0.result ∷ c.array_dot_product-c1.result ∷ c.array_dot_product-c2.result ∷ c.array_dot_product-c3.result ∷ [] in
    let high = c.array_dot_product-c4.result ∷ c.array_dot_product-c5.result ∷ c.array_dot_product-c6.result ∷ c.array_dot_product-c7.result ∷ [] in
    c.write_entries.ensures
    ∙ formula o (a ++ w ∷ []) (low ++ high) m.ring
    (λ P a0 a1 a2 a3 a4 a5 a6 a7 w_read. both_read o P low high
    (search (reads_list, scaled_read o P x.mixed_muls, scaled.first, scaled.second, scaled.third, scaled.fourth, answer_read o P twice.first, answer_read o P twice.second, answer_read o P twice_scaled.first, answer_read o P twice_scaled.second, answer_read o P twice_scaled.third, answer_read o P c.array_dot_product-c0.ensures, answer_read o P c.array_dot_product-c1.ensures, answer_read o P c.array_dot_product-c2.ensures, answer_read o P c.array_dot_product-c3.ensures) depth 99 fits 99999)
    (search (reads_list, scaled_read o P x.mixed_muls, scaled.third, scaled.fourth, answer_read o P twice.first, answer_read o P twice.second, answer_read o P twice.third, answer_read o P twice.fourth, answer_read o P twice_scaled.third, answer_read o P c.array_dot_product-c4.ensures, answer_read o P c.array_dot_product-c5.ensures, answer_read o P c.array_dot_product-c6.ensures, answer_read o P c.array_dot_product-c7.ensures) depth 99 fits 99999))
    (quotient_mul free 8 (binomial free 8 (V 8)) (variables 0 8) (variables 0 8)) yes
    ∙ ap (λ l. quotient_mul o 8 (binomial o 8 w) l l) (sym (items_are c.args.a.now a c.requires.input search))
