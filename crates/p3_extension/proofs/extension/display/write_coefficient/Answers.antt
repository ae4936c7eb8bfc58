use Rattle.p3_extension.proofs.extension.display.write_coefficient.Goals as goal

pub returns : goal.returns
returns g c = c.write_shown.ensures (g.F.Field.text c.args.c) (g.met.F.Field.shows c.args.c)
