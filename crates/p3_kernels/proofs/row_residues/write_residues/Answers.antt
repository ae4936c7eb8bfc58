use Rattle.std.proofs.Common.{get_or, ◌≡◌, ◌+◌, ◌*◌, ◌%◌, ◌^◌, ◌<◌, ◌≤◌, ◌∙◌, ℕ, ap, arith, rules}
use Rattle.p3_theory.specs.ResidueRings.SumsOfProducts.{sum_of_products}
use Rattle.p3_kernels.proofs.HalfLanes.{by_halves}
use Rattle.p3_kernels.proofs.StoredBlocks.{block-stored}
use Rattle.p3_kernels.proofs.row_residues.write_residues.Goals as goal

pub returns-clause-below : goal.returns-clause-below
returns-clause-below g c before =
    let zs = c.reduce_sums-residues in
    block-stored (λ _ w. w < c.args.order) c.args.lane g.row.L c.args.words.now zs.result zs.ensures.width (omega (arith, c.requires.inside, c.requires.width)) before zs.ensures.below

pub returns-clause-value : goal.returns-clause-value
returns-clause-value g c before =
    let p = c.args.order in
    let lane = c.args.lane in
    let zs = c.reduce_sums-residues in
    let number : ℕ → ℕ = λ j. sum_of_products (g.R.WordRow.word j) c.args.u.now c.args.v.now in
    let each = by_halves g.row.H (λ k. (get_or zs.result k 0 * 2 ^ 32) % p ≡ number (lane + k) % p)
    (λ j m. zs.ensures.even j m ∙ ap (λ z. z % p) (c.lane_sums-sums.ensures.even.2 j m))
    (λ j m. zs.ensures.odd j m ∙ ap (λ z. z % p) (c.lane_sums-sums.ensures.odd.2 j m ∙ ap number (let e : lane + 2 * j + 1 ≡ lane + (2 * j + 1) = omega arith in e))) in
    block-stored (λ k w. (w * 2 ^ 32) % p ≡ number k % p) lane g.row.L c.args.words.now zs.result zs.ensures.width (omega (arith, c.requires.inside, c.requires.width)) before
    (λ k l. each k (omega (arith, l, c.requires.pairs)))

pub lane_sums-sums-requires : goal.lane_sums-sums-requires
lane_sums-sums-requires g c =
    let half : g.row.H ≤ 32 = omega (arith, c.requires.inside, c.requires.pairs, c.requires.lanes) in
    (search (rules, half), (c.requires.inside, (c.requires.pairs, (c.requires.lengths, (c.requires.few, c.requires.short)))))

pub reduce_sums-residues-requires : goal.reduce_sums-residues-requires
reduce_sums-residues-requires g c =
    let half : g.row.H ≤ 32 = omega (arith, c.requires.inside, c.requires.pairs, c.requires.lanes) in
    let said = c.lane_sums-sums.ensures in (
      search (rules, half),
      (search (rules, half), (c.requires.pairs, (c.requires.long, (c.requires.fits, (c.requires.inverse, (said.even.0, (said.even.1, (said.odd.0, said.odd.1)))))))),
    )
