use Rattle.std.proofs.Common.{◌≡◌, ◌++◌, ◌∙◌, [], ◌∷◌, length, ap, sym, rules}
use Rattle.p3_theory.specs.Polynomials.Polynomial.{at}
use Rattle.p3_theory.specs.Inverses.EvenOdd.{norm_by_halves}
use Rattle.p3_theory.specs.Lists.ListItems.{items_are}
use Rattle.p3_theory.specs.RingSolver.Solver.{V, free}
use Rattle.p3_theory.specs.RingSolver.Reify.{yes}
use Rattle.p3_theory.specs.RingSolver.StraightLine.{reads_list, product_read, negation_read, answer_read, formula}
use Rattle.p3_extension_formulas.proofs.binomial_extension.quartic_norm.Goals as goal

pub returns : goal.returns
returns g c =
    let o = g.F.PrimeCharacteristicRing.ops in
    let m = g.met.F.PrimeCharacteristicRing in
    let a = c.four_from-a0.result.0 ∷ c.four_from-a0.result.1 ∷ c.four_from-a0.result.2 ∷ c.four_from-a0.result.3 ∷ [] in
    let sized : length c.args.a ≡ 4 = search rules in
    formula o (a ++ c.args.w ∷ []) (c.array_dot_product-norm_0.result ∷ c.array_dot_product-norm_1.result ∷ []) m.ring
    (λ P a0 a1 a2 a3 w_read. search (reads_list, product_read o P m.muls, negation_read o P m.negs, c.mul-a2_w.ensures, c.mul-a3_w.ensures, c.neg-neg_a1.ensures, c.neg-neg_a3.ensures, answer_read o P c.double-two_neg_a1.ensures, answer_read o P c.double-two_a2.ensures, answer_read o P c.array_dot_product-norm_0.ensures, answer_read o P c.array_dot_product-norm_1.ensures) depth 99 fits 99999)
    (norm_by_halves free 2 (V 4) (free.zero ∷ free.one ∷ []) (V 0 ∷ V 2 ∷ []) (V 1 ∷ V 3 ∷ [])) yes
    ∙ ap (λ a. norm_by_halves o 2 c.args.w (o.zero ∷ o.one ∷ []) (at o a 0 ∷ at o a 2 ∷ []) (at o a 1 ∷ at o a 3 ∷ [])) (sym (items_are c.args.a a sized search))
