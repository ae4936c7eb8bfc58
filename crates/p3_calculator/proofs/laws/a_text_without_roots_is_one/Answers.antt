use Rattle.p3_calculator.specs.States.{no_field}
use Rattle.p3_calculator.proofs.OneText.{one_text}
use Rattle.p3_calculator.proofs.laws.a_text_without_roots_is_one.Goals as goal

pub returns : goal.returns
returns c = λ lines a b s t none x y. one_text 1 no_field lines a b s t tt none x y
