use Rattle.std.proofs.Common.{◌≡◌, ◌∙◌, ap, rules}
use Rattle.p3_packing_traits.specs.Columns.{column_of_answers, entry_answer}
use Rattle.p3_packing_traits.proofs.ext_columns.packed_ext_column.Goals as goal

pub returns : goal.returns
returns g c d =
    column_of_answers _ _ _ d c.args.c c.args.rows.now g.PE.ExtensionLanes.LANES c.requires.width c.from_ext_fn.ensures (λ p. (p.0.now ≡ c.args.rows.now) × (p.1.now ≡ c.args.c)) (search rules)
    (λ p k y q kept h. (entry_answer d p.0.now c.args.rows.now p.1.now c.args.c k y kept.0 kept.1 (λ d e. h.met.1.0 d e), (ap (λ r. r.now) h.met.1.1 ∙ kept.0, search (rules, h.met.0, h.met.1))))
