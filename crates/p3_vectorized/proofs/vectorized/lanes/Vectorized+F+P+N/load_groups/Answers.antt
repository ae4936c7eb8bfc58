use Rattle.std.specs.Prelude.{◌≡◌, ◌<◌, ◌≤◌, ◌*◌, ◌/◌, ℕ, length}
use Rattle.std.proofs.Common.{arith, ap, rules}
use Rattle.std.proofs.Math.Nat.{div-mul-le_self}
use Rattle.p3_vectorized.specs.VectorLists.{lane_count, group-counted, group-loaded, lanes-groups}
use Rattle.p3_vectorized.proofs.vectorized.lanes.Vectorized+F+P+N.load_groups.Goals as goal

pub nonzero_div-whole : goal.nonzero_div-whole
nonzero_div-whole g c = omega (arith, c.WIDTH-width.ensures, g.met.P.PackedRing.some_lane)

pub load_block-requires : goal.load_block-requires
load_block-requires g c =
    (group-counted g.P.PackedValue.WIDTH g.row.N (length c.args.slice.now) c.WIDTH-width.result c.loop-i.i c.WIDTH-width.ensures g.met.P.PackedRing.some_lane c.requires.all c.loop-i-test.true).1

pub offset_bounds-items-i : goal.offset_bounds-items-i
offset_bounds-items-i g c =
    let inside = group-counted g.P.PackedValue.WIDTH g.row.N (length c.args.slice.now) c.WIDTH-width.result c.loop-i.i c.WIDTH-width.ensures g.met.P.PackedRing.some_lane c.requires.all c.loop-i-test.true in
    let among : c.loop-i.i < g.row.N = inside.0 in
    search (rules, among)

pub loop-i-preserved : goal.loop-i-preserved
loop-i-preserved g c =
    let w = g.P.PackedValue.WIDTH in
    let inside = group-counted w g.row.N (length c.args.slice.now) c.WIDTH-width.result c.loop-i.i c.WIDTH-width.ensures g.met.P.PackedRing.some_lane c.requires.all c.loop-i-test.true in
    let within : c.loop-i.i < length c.loop-i.items = omega (arith, inside.0, c.loop-i.invariant.0) in
    (search rules, group-loaded g.P.PrimeCharacteristicRing.ops g.F.PrimeCharacteristicRing.ops g.P.PackedValue.lanes w c.args.slice.now c.loop-i.items c.loop-i.i c.load_block.result within c.load_block.ensures c.loop-i.invariant.1)

pub returns : goal.returns
returns g c =
    let O = g.P.PrimeCharacteristicRing.ops in
    let Q = g.F.PrimeCharacteristicRing.ops in
    let lanes = g.P.PackedValue.lanes in
    let w = g.P.PackedValue.WIDTH in
    let width = c.WIDTH-width.result in
    let slice = c.args.slice.now in
    let e : width ≡ w = c.WIDTH-width.ensures in
    let whole : ℕ = length slice / w in
    let same : length slice / width ≡ whole = ap (λ x. length slice / x) e in
    let counted : whole * w ≤ lane_count w g.row.N = omega (arith, c.requires.all, div-mul-le_self (length slice) w) in
    lanes-groups O Q lanes w c.new.result c.loop-i.items slice whole c.new.ensures counted (λ d k b. c.loop-i.invariant.1 d k (omega (arith, b, same, c.loop-i-test.false)))
