use Rattle.std.proofs.Common.{ap, ◌∙◌}
use Rattle.p3_c_calls.proofs.groups.change.Goals as goal

pub returns : goal.returns
returns g c = (c.read_group-value.result, c.read_group-value.ensures, c.write_group.ensures ∙ ap g.E.Grouped.group c.apply-changed.ensures)
