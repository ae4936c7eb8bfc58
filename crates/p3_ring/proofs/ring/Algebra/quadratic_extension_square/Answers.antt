use Rattle.std.proofs.Common.{◌++◌, ◌∙◌, [], ◌∷◌, ap, sym}
use Rattle.p3_theory.specs.Polynomials.Polynomial.{quotient_mul, binomial}
use Rattle.p3_theory.specs.Lists.ListItems.{items_are}
use Rattle.p3_theory.specs.RingSolver.Solver.{V, free}
use Rattle.p3_theory.specs.RingSolver.Reify.{yes}
use Rattle.p3_theory.specs.RingSolver.StraightLine.{reads_list, sum_read, product_read, scaled_read, answer_read, formula, variables}
use Rattle.p3_ring.proofs.ring.Algebra.quadratic_extension_square.Goals as goal

pub returns : goal.returns
returns g c =
    let o = g.Self.PrimeCharacteristicRing.ops in
    let m = g.met.Self.PrimeCharacteristicRing in
    let x = g.met.Self.Algebra in
    let w = g.Self.Algebra.embed c.args.w in
    let a = c.index-a-0.result ∷ c.index-a-1.result ∷ [] in
    c.copy_from_slice.ensures.after
    ∙ formula o (a ++ w ∷ []) (c.add-low.result ∷ c.mul-high.result ∷ []) m.ring
    (λ P a0 a1 w_read. search (reads_list, sum_read o P m.adds, product_read o P m.muls, scaled_read o P x.mixed_muls, c.add-low.ensures, c.mul-constant.ensures, c.mul-folded.ensures, c.mul-high.ensures, c.mul-a1_w.ensures, answer_read o P c.double-twice.ensures) depth 99 fits 99999)
    (quotient_mul free 2 (binomial free 2 (V 2)) (variables 0 2) (variables 0 2)) yes
    ∙ ap (λ l. quotient_mul o 2 (binomial o 2 w) l l) (sym (items_are c.args.a.now a c.requires.input search))
