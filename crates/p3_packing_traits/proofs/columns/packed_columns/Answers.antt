use Rattle.std.proofs.Common.{◌≡◌, ◌∙◌, ℕ, get_or, slice_get, Some, ap, subst, rules}
use Rattle.p3_packing_traits.specs.IndexAnswers.{each_answer}
use Rattle.p3_packing_traits.proofs.columns.packed_columns.Goals as goal

pub returns : goal.returns
returns g c p d k l inside below =
    let Holds : ℕ → g.row.P.Denot → Type 0 =
    λ i y. (row : g.row.Row.Denot) × g.R.Fn.post c.args.row_fn.now (l, tt) row × (slice_get (g.P.PackedValue.lanes y) l ≡ Some (get_or (g.Row.AsRow.entries row) i d)) in
    each_answer _ (λ f. f.0.now ≡ c.args.row_fn.now) Holds
    (λ f i y q kept h.
    let P : g.row.R.Denot → Type 0 = λ r. (row : g.row.Row.Denot) × g.R.Fn.post r (l, tt) row × (slice_get (g.P.PackedValue.lanes y) l ≡ Some (get_or (g.Row.AsRow.entries row) i d)) in
    (subst P kept (h.met.1.0 d l below), ap (λ r. r.now) h.met.1.1 ∙ kept))
    _ c.from_fn.result g.row.N (search rules) c.from_fn.ensures.items k p inside
