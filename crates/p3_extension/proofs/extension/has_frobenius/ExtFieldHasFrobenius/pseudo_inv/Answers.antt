use Rattle.p3_extension.proofs.extension.has_frobenius.ExtFieldHasFrobenius.pseudo_inv.Goals as goal

pub returns-in-Some-clause-none : goal.returns-in-Some-clause-none
returns-in-Some-clause-none g c = λ none. absurd (none (c.in-Some.y, c.in-Some.ensures))
