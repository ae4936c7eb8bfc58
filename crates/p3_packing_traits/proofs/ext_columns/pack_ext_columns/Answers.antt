use Rattle.std.proofs.Common.{◌≡◌, ◌∙◌, ℕ, ap, rules}
use Rattle.p3_packing_traits.specs.Columns.{column, column_answer}
use Rattle.p3_packing_traits.specs.IndexAnswers.{each_answer}
use Rattle.p3_packing_traits.proofs.ext_columns.pack_ext_columns.Goals as goal

pub returns : goal.returns
returns g c p d k below =
    let Holds : ℕ → g.row.PE.Denot → Type 0 = λ i y. g.PE.ExtensionLanes.ext_lanes y ≡ column d i c.args.rows.now in
    each_answer _ (λ f. f.0.now ≡ c.args.rows.now) Holds
    (λ f i y q kept h. (column_answer d f.0.now c.args.rows.now i _ kept (h.met.1.0 d), (ap (λ r. r.now) h.met.1.1 ∙ kept)))
    _ c.from_fn.result g.row.N (search rules) c.from_fn.ensures.items k p below
