use Rattle.std.proofs.Common.{◌∷◌, [], List, map, refl, rules, ap, sym, ◌∙◌}
use Rattle.std.proofs.lemmas.List.{map-append}
use Rattle.p3_packing_traits.specs.CoefficientSums.{add_coefficient_products, coefficient_sums, coefficient_sums-none, coefficient_sums-more}
use Rattle.p3_packing_traits.proofs.columnwise.coeffwise_dot_product.Goals as goal

pub loop-coeffs-init : goal.loop-coeffs-init
loop-coeffs-init g c =
    (search rules, search rules, coefficient_sums-none g.met.P.PrimeCharacteristicRing.ring c.args.d _ c.zero-acc.result c.zero-acc.ensures refl)

pub loop-coeffs-preserved : goal.loop-coeffs-preserved
loop-coeffs-preserved g c =
    let o = g.P.PrimeCharacteristicRing.ops in
    let d = c.args.d in
    let view : g.row.R.Denot × g.row.P.Denot → List g.row.P.Denot × g.row.P.Denot = λ x. (g.R.AsSlice.items x.0, x.1) in
    let coeffs = g.R.AsSlice.items c.in-Some.coeffs in
    let scale = c.in-Some.scale in (
      search rules,
      search rules,
      coefficient_sums-more g.met.P.PrimeCharacteristicRing.ring d c.loop-coeffs.acc c.add_scaled_coefficients-acc.result (map view c.loop-coeffs.yielded) coeffs scale
          c.loop-coeffs.invariant.2 (c.add_scaled_coefficients-acc.ensures ∙ ap (λ xs. add_coefficient_products o d c.loop-coeffs.acc xs scale) c.as_slice.ensures)
          ∙ ap (coefficient_sums o d) (sym (map-append view c.loop-coeffs.yielded ((c.in-Some.coeffs, scale) ∷ []))),
    )
