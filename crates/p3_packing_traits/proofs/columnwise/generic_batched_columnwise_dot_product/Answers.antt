use Rattle.std.proofs.Common.{◌∷◌, [], List, map, rules, ap, ap₂, sym, ◌∙◌}
use Rattle.std.proofs.lemmas.List.{map-append}
use Rattle.p3_theory.specs.Rings.ColumnwiseProducts.{add_scaled_row, add_scaled_rows, add_scaled_rows-none, add_scaled_rows-more}
use Rattle.p3_packing_traits.proofs.columnwise.generic_batched_columnwise_dot_product.Goals as goal

pub loop-row-init : goal.loop-row-init
loop-row-init g c = (search rules, search rules, add_scaled_rows-none g.met.PE.PrimeCharacteristicRing.ring g.PE.Algebra-1.embed g.row.N c.args.acc.now)

pub loop-row-preserved : goal.loop-row-preserved
loop-row-preserved g c =
    let o = g.PE.PrimeCharacteristicRing.ops in
    let e = g.PE.Algebra-1.embed in
    let s = g.PE.Algebra-2.embed in
    let view : g.row.R.Denot × g.row.S.Denot → List g.row.P.Denot × List g.row.PE.Denot = λ x. (g.R.AsSlice.items x.0, map s (g.S.AsRow.entries x.1)) in
    let row = g.R.AsSlice.items c.in-Some.row in
    let scales = map s (g.S.AsRow.entries c.in-Some.scales) in (
      search rules,
      search rules,
      add_scaled_rows-more g.met.PE.PrimeCharacteristicRing.ring e g.row.N c.args.acc.now c.loop-row.acc c.spread_and_add.new.acc (map view c.loop-row.yielded) row scales
          c.loop-row.invariant.2 (c.spread_and_add.ensures ∙ ap₂ (λ x y. add_scaled_row o e g.row.N c.loop-row.acc x (map s y)) c.as_slice.ensures c.as_row.ensures.value)
          ∙ ap (add_scaled_rows o e g.row.N c.args.acc.now) (sym (map-append view c.loop-row.yielded ((c.in-Some.row, c.in-Some.scales) ∷ []))),
    )
