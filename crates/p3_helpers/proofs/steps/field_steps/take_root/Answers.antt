use Rattle.std.proofs.Common.{ℕ, None, refl, inr, subst}
use Rattle.std.proofs.lemmas.List.{get_or_default}
use Rattle.p3_theory.specs.Roots.SquareRoots.{CountedByGenerator}
use Rattle.p3_helpers.proofs.steps.field_steps.take_root.Goals as goal

pub returns-in_default : goal.returns-in_default
returns-in_default g c =
    let O = g.F.PrimeCharacteristicRing.ops in
    let field = g.F.Field in
    let read = get_or_default c.args.regs.now c.args.a c.index-regs-a.result O.zero c.requires.fit.1 in
    inr (subst (λ x. (turns : ℕ) × CountedByGenerator O field.size field.generator x None turns) read c.in_default.ensures.counted, (refl, refl))
