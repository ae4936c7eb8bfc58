use Rattle.std.proofs.Common.{sym, ◌∙◌}
use Rattle.p3_theory.specs.Lists.ListOrder.{tied_equal, lists_tie, less_at_first}
use Rattle.p3_extension.proofs.laws.order_is_lexicographic.Goals as goal

pub returns-clause-equal : goal.returns-clause-equal
returns-clause-equal g c = lists_tie (tied_equal g.A.Ord.cmp g.met.A.Ord.matches_eq g.met.A.Field.equals) c.args.x.value c.args.y.value

pub returns-clause-less : goal.returns-clause-less
returns-clause-less g c =
    less_at_first (tied_equal g.A.Ord.cmp g.met.A.Ord.matches_eq g.met.A.Field.equals) c.args.x.value c.args.y.value (c.args.x.sized ∙ sym c.args.y.sized)
