use Rattle.std.specs.Prelude.{◌≡◌, ◌<◌, ◌≤◌, ◌*◌, ◌/◌, ℕ, length}
use Rattle.std.proofs.Common.{arith, ap, rules, ◌∙◌, sym}
use Rattle.std.proofs.Math.Nat.{mul-le-mul_right}
use Rattle.p3_vectorized.specs.VectorLists.{group-counted, group-written}
use Rattle.p3_vectorized.proofs.vectorized.lanes.Vectorized+F+P+N.store_groups.Goals as goal

pub nonzero_div-whole : goal.nonzero_div-whole
nonzero_div-whole g c = omega (arith, c.WIDTH-width.ensures, g.met.P.PackedRing.some_lane)

pub part-part-requires : goal.part-part-requires
part-part-requires g c =
    let inside = group-counted g.P.PackedValue.WIDTH g.row.N (length c.args.out.now) c.WIDTH-width.result c.loop-i.i c.WIDTH-width.ensures g.met.P.PackedRing.some_lane c.requires.all c.loop-i-test.true in
    let among : c.loop-i.i < g.row.N = inside.0 in
    search (rules, among)

pub store_block-requires : goal.store_block-requires
store_block-requires g c =
    let inside = group-counted g.P.PackedValue.WIDTH g.row.N (length c.args.out.now) c.WIDTH-width.result c.loop-i.i c.WIDTH-width.ensures g.met.P.PackedRing.some_lane c.requires.all c.loop-i-test.true in
    omega (arith, inside.1, c.requires.all, c.loop-i.invariant.0)

pub loop-i-preserved : goal.loop-i-preserved
loop-i-preserved g c =
    let items = c.args.self.now.items in
    let among = group-counted g.P.PackedValue.WIDTH g.row.N (length c.args.out.now) c.WIDTH-width.result c.loop-i.i c.WIDTH-width.ensures g.met.P.PackedRing.some_lane c.requires.all c.loop-i-test.true in
    let inside : c.loop-i.i < length items = omega (arith, among.0, c.args.self.now.sized) in (
      search rules,
      group-written g.P.PrimeCharacteristicRing.ops g.F.PrimeCharacteristicRing.ops g.P.PackedValue.lanes g.P.PackedValue.WIDTH items c.loop-i.out c.store_block.new.slice c.loop-i.i c.part-part.result inside
          c.part-part.ensures c.store_block.ensures.block c.store_block.ensures.before c.loop-i.invariant.1,
    )

pub returns-clause-kept : goal.returns-clause-kept
returns-clause-kept g c = c.loop-i.invariant.0 ∙ sym c.requires.all

pub returns-clause-written : goal.returns-clause-written
returns-clause-written g c =
    let w = g.P.PackedValue.WIDTH in
    let lanes : ℕ = length c.args.out.now in
    let same : lanes / c.WIDTH-width.result ≡ lanes / w = ap (λ x. lanes / x) c.WIDTH-width.ensures in
    let whole : lanes / w ≤ c.loop-i.i = omega (arith, same, c.loop-i-test.false) in
    let less : lanes / w * w ≤ c.loop-i.i * w = mul-le-mul_right w whole in
    λ k b. c.loop-i.invariant.1 k (omega (arith, b, less))
