use Rattle.p3_calculator.proofs.RootLemmas.{root_some, root_nonzero, root_none}
use Rattle.p3_calculator.proofs.act.root.Goals as goal

pub returns-clause-some : goal.returns-clause-some
returns-clause-some g c = root_some _ g.F.CalculatorField.ops _ g.met.F.CalculatorField.represents _ _ c.args.x _ c.root.ensures

pub returns-clause-nonzero : goal.returns-clause-nonzero
returns-clause-nonzero g c = root_nonzero _ g.F.CalculatorField.ops _ g.met.F.CalculatorField.represents _ _ c.args.x _ c.root.ensures

pub returns-clause-none : goal.returns-clause-none
returns-clause-none g c =
    let met = g.met.F.CalculatorField in
    root_none _ g.F.CalculatorField.ops _ met.represents _ c.args.x met.generator_is _ c.root.ensures
