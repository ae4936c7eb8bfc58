use prog.Memory.{size as bytes}
use denote.Param.{layout}
use Rattle.std.proofs.Common.{◌≡◌, ◌<◌, ◌≤◌, ◌+◌, ◌*◌, ◌/◌, length, subst, refl, arith}
use Rattle.std.proofs.Math.Nat.{mul_comm, mul-le-mul_right}
use Rattle.p3_theory.specs.Lists.TabulatedEntries.{HoldsBelow}
use Rattle.p3_packing_traits.specs.Transposition.{value_at, value_read, transposed_entry, index-inside, whole-size, transposed-more, transposed-all}
use Rattle.p3_packing_traits.proofs.extension_lanes.ExtensionLanes.unpack_transpose_into.Goals as goal

pub offset_bounds-dst-c : goal.offset_bounds-dst-c
offset_bounds-dst-c g c =
    let w = c.args.src_width in
    let h = length c.args.dst.now / w in
    let size : h * w ≡ length c.args.dst.now = whole-size w h (length c.args.dst.now) refl c.requires.divides in
    let turned : w * h ≡ h * w = mul_comm w h in
    let inside : c.loop-c.c * h + c.loop-r.r < w * h = index-inside h w c.loop-c.c c.loop-r.r c.loop-c-test.true c.loop-r-test.true in
    let less : c.loop-c.c * h + c.loop-r.r ≤ length c.args.dst.now = omega (arith, inside, turned, size) in
    let room = mul-le-mul_right (bytes (layout g.row.EF)) less in
    omega (arith, room)

pub loop-r-preserved : goal.loop-r-preserved
loop-r-preserved g c =
    let o = g.EF.PrimeCharacteristicRing.ops in
    let lanes = g.Self.ExtensionLanes.ext_lanes in
    let value = value_at g.Self.Inhabited.inhabitant o lanes g.Self.ExtensionLanes.LANES c.args.src.now in
    let w = c.args.src_width in
    let h = length c.args.dst.now / w in
    let size : h * w ≡ length c.args.dst.now = whole-size w h (length c.args.dst.now) refl c.requires.divides in
    let turned : w * h ≡ h * w = mul_comm w h in
    let inside : c.loop-c.c * h + c.loop-r.r < w * h = index-inside h w c.loop-c.c c.loop-r.r c.loop-c-test.true c.loop-r-test.true in
    let next : c.loop-c.c * h + c.loop-r.r + 1 ≡ c.loop-c.c * h + (c.loop-r.r + 1) = omega arith in
    subst (HoldsBelow (transposed_entry value w h) o.zero _) next
    (transposed-more w h value o.zero c.loop-r.dst c.loop-c.c c.loop-r.r c.extract-value.result c.loop-r-test.true (omega (arith, inside, turned, size, c.loop-r.auto.dst)) c.loop-r.invariant
    (value_read g.Self.Inhabited.inhabitant o lanes g.Self.ExtensionLanes.LANES c.args.src.now (c.loop-r.r * w + c.loop-c.c) c.LANES.result c.LANES-in-loop-r.result c.index-src-i.result c.extract-value.result
    c.LANES.ensures c.LANES-in-loop-r.ensures (search arith) c.index-src-i.is c.extract-value.ensures))

pub returns : goal.returns
returns g c =
    let o = g.EF.PrimeCharacteristicRing.ops in
    let value = value_at g.Self.Inhabited.inhabitant o g.Self.ExtensionLanes.ext_lanes g.Self.ExtensionLanes.LANES c.args.src.now in
    let h = length c.args.dst.now / c.args.src_width in
    transposed-all c.args.src_width h value o.zero c.loop-c.dst (c.loop-c.c * h) (mul-le-mul_right h (omega (arith, c.loop-c-test.false))) c.loop-c.invariant
