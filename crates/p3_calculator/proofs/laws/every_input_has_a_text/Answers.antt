use Rattle.p3_calculator.specs.States.{no_field}
use Rattle.p3_calculator_text.specs.Lines.{lines_of}
use Rattle.p3_calculator.proofs.Totality.{every_text}
use Rattle.p3_calculator.proofs.laws.every_input_has_a_text.Goals as goal

pub returns : goal.returns
returns c = λ bytes. every_text 1 no_field (lines_of bytes) tt
