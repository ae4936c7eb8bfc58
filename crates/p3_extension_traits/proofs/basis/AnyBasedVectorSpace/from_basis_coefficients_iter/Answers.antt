use Rattle.p3_extension_traits.specs.StreamLemmas.{no_item, one_item, two_items}
use Rattle.p3_extension_traits.specs.TakenItems.{drawn_no_item, drawn_two_items}
use Rattle.p3_extension_traits.proofs.basis.AnyBasedVectorSpace.from_basis_coefficients_iter.Goals as goal

pub returns-in_default-clause-all : goal.returns-in_default-clause-all
returns-in_default-clause-all g c = λ xs y. no_item y c.in_default.ensures.steps

pub returns-in-None-clause-all : goal.returns-in-None-clause-all
returns-in-None-clause-all g c = λ xs y. one_item y c.in-Some.ensures.steps c.in-None.ensures.steps

pub returns-clause-all : goal.returns-clause-all
returns-clause-all g c = λ xs y. two_items y c.in-Some.ensures.steps c.in-Some-next.ensures.steps

pub returns-in_default-clause-drawn : goal.returns-in_default-clause-drawn
returns-in_default-clause-drawn g c = drawn_no_item g.I.Iterator.next_gives c.in_default.ensures.steps

pub returns-clause-drawn : goal.returns-clause-drawn
returns-clause-drawn g c = drawn_two_items g.I.Iterator.next_gives c.in-Some.ensures.steps c.in-Some-next.ensures.steps
