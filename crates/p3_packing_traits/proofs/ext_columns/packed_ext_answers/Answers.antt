use Rattle.std.proofs.Common.{get_or, ap, rules}
use Rattle.p3_packing_traits.specs.IndexAnswers.{lanes_of_answers}
use Rattle.p3_packing_traits.proofs.ext_columns.packed_ext_answers.Goals as goal

pub returns : goal.returns
returns g c d l below =
    lanes_of_answers _ _ _ g.PE.ExtensionLanes.LANES (λ r i row. g.R.Fn.post r (i, tt) row) (λ i row. get_or (g.Row.AsRow.entries row) i d) c.args.row_fn.now c.args.c (λ f. f.0.now) (λ f. f.1.now) c.from_ext_fn.ensures (search rules)
    (λ f i y q h. (h.met.1.0 d, ap (λ r. r.now) h.met.1.1, search (rules, h.met.0, h.met.1))) d l below
