use Rattle.p3_calculator.proofs.Endings.{whole}
use Rattle.p3_calculator.proofs.laws.a_complete_text_is_of_the_whole_input.Goals as goal

pub returns : goal.returns
returns c = whole
