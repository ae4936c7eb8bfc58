use Rattle.std.proofs.Common.{◌≡◌, ap, sym, length, arith, drop, ◌∙◌, length-drop}
use Rattle.p3_theory.specs.Polynomials.Coefficients.{length-tabulate}
use Rattle.p3_extension_traits.specs.Streams.{row_bytes, left_of}
use Rattle.p3_packing_traits.proofs.parallel_streams.left_in_row.Goals as goal

pub returns-in-Some : goal.returns-in-Some
returns-in-Some g c =
    let f = g.F.RawDataSerializable in
    let parts = row_bytes f.bytes f.NUM_BYTES in
    let at = c.args.at in
    let values = parts c.in-Some.field-0 in
    let long : length values ≡ f.NUM_BYTES = length-tabulate f.NUM_BYTES _ in
    let left : length (drop at values) ≡ c.saturating_sub.result = omega (arith, length-drop at values, long, c.saturating_sub.ensures, c.NUM_BYTES.ensures) in
    sym (ap (λ row. length (left_of parts row at)) c.in-Some.is ∙ left)
