use Rattle.p3_c_calls.proofs.GivenOrders.{all-given}
use Rattle.p3_c_calls.proofs.RunLengths.{length-run}
use Rattle.p3_c_calls.proofs.runs.run_values.Goals as goal

pub run_field_steps-requires-clause-given : goal.run_field_steps-requires-clause-given
run_field_steps-requires-clause-given g c = all-given g.F.Field.size c.requires.given c.args.steps.now

pub returns-clause-length : goal.returns-clause-length
returns-clause-length g c =
    let field = g.F.Field in
    length-run g.F.PrimeCharacteristicRing.ops field.size field.generator c.args.steps.now 0 c.args.registers.now _ _ c.run_field_steps.ensures
