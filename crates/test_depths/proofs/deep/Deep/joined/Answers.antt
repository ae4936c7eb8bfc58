use Rattle.std.proofs.Common.{rules, ◌∙◌, ap, refl}
use Rattle.test_depths.specs.Residues.{same_word}
use Rattle.test_depths.specs.Pairs.{same_sides, pair}
use Rattle.test_depths.proofs.deep.Deep.joined.Goals as goal

pub returns-then-x-y : goal.returns-then-x-y
returns-then-x-y g c = c.alike.ensures ∙ ap (pair g.P.Place c.args.x) (same_word c.args.x c.args.y (search rules))

pub returns : goal.returns
returns g c = same_sides g.P.Place _ _ refl refl
