use Rattle.std.proofs.Common.{◌≡◌, ◌<◌, ◌+◌, ◌*◌, ◌∙◌, arith, length, slice_set}
use Rattle.std.proofs.lemmas.List.{length-set}
use Rattle.p3_kernels.specs.ProductSums.{sum_at}
use Rattle.p3_kernels.proofs.StoredBlocks.{word-stored}
use Rattle.p3_kernels.proofs.row_products.write_sums.Goals as goal

pub loop-k-preserved : goal.loop-k-preserved
loop-k-preserved g c =
    let i = c.args.lane + 2 * c.loop-k.k in
    let vs = c.loop-k.totals in
    let held = c.loop-k.invariant in
    let even = sum_at c.args.sums.even_low c.args.sums.even_high c.loop-k.k in
    let odd = sum_at c.args.sums.odd_low c.args.sums.odd_high c.loop-k.k in
    let room : i + 1 < length vs = omega (arith, held.0, c.requires.inside, c.loop-k-test.true) in (
      length-set (slice_set vs i even) (i + 1) odd ∙ length-set vs i even ∙ held.0,
      λ number before evens odds j l.
          word-stored (λ j w. w ≡ number j) (i + 1) odd (slice_set vs i even) (omega (arith, room, length-set vs i even))
          (word-stored (λ j w. w ≡ number j) i even vs (omega (arith, room)) (held.1 number before evens odds) (evens c.loop-k.k c.loop-k-test.true))
          (odds c.loop-k.k c.loop-k-test.true) j (omega (arith, l)),
    )

pub returns-clause-value : goal.returns-clause-value
returns-clause-value g c number before evens odds j l = c.loop-k.invariant.1 number before evens odds j (omega (arith, l, c.loop-k-test.false))
