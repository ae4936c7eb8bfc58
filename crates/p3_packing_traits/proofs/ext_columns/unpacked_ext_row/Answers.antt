use Rattle.std.proofs.Common.{◌≡◌, ◌∙◌, ℕ, get_or, slice_get, Some, ap, rules}
use Rattle.p3_packing_traits.specs.Columns.{lane_by_equal}
use Rattle.p3_packing_traits.specs.IndexAnswers.{each_answer}
use Rattle.p3_packing_traits.proofs.ext_columns.unpacked_ext_row.Goals as goal

pub returns : goal.returns
returns g c p d k below =
    let lanes = g.PE.ExtensionLanes.ext_lanes in
    let Holds : ℕ → g.row.EF.Denot → Type 0 = λ i y. slice_get (lanes (get_or c.args.packed.now i p)) c.args.l ≡ Some y in
    each_answer _ (λ f. (f.0.now ≡ c.args.packed.now) × (f.1.now ≡ c.args.l)) Holds
    (λ f i y q kept h. (lane_by_equal lanes f.0.now c.args.packed.now i f.1.now c.args.l y kept.0 kept.1 h.met.1.0 p, (ap (λ r. r.now) h.met.1.1 ∙ kept.0, search (rules, h.met.0, h.met.1))))
    _ c.from_fn.result g.row.N (search rules) c.from_fn.ensures.items k d below
