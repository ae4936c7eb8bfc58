use Rattle.std.proofs.Common.{arith}
use Rattle.p3_theory.specs.Lanes.InterleavedBelow.{pair_after, even_more, odd_more}
use Rattle.p3_packed_prime_fields.proofs.lane_loops.interleave_lanes.Goals as goal
use Rattle.p3_packed_prime_fields.proofs.lane_loops.interleave_lanes.Goals.{then-i-block_len-eq0, else-i-block_len-eq0}

pub overflow_add-second : goal.overflow_add-second
overflow_add-second g c =
    let next = pair_after g.row.N c.args.block_len c.loop-i.i c.requires.size c.requires.power c.requires.divides c.if-block_len.false c.loop-i-test.true
    c.if-i-block_len-eq0.true in
    omega (arith, next, g.N.fits)

pub offset_bounds-x-i-then-i-block_len-eq0 : goal.offset_bounds-x-i-then-i-block_len-eq0
offset_bounds-x-i-then-i-block_len-eq0 g c =
    let next = pair_after g.row.N c.args.block_len c.loop-i.i c.requires.size c.requires.power c.requires.divides c.if-block_len.false c.loop-i-test.true
    c.if-i-block_len-eq0.true in
    omega (arith, next)

pub listed-then-i-block_len-eq0-2 : goal.listed-then-i-block_len-eq0-2
listed-then-i-block_len-eq0-2 g c =
    let next = pair_after g.row.N c.args.block_len c.loop-i.i c.requires.size c.requires.power c.requires.divides c.if-block_len.false c.loop-i-test.true
    c.if-i-block_len-eq0.true in
    omega (arith, next, c.args.x.now.sized)

pub bounds-x-i-then-i-block_len-eq0 : goal.bounds-x-i-then-i-block_len-eq0
bounds-x-i-then-i-block_len-eq0 g c =
    pair_after g.row.N c.args.block_len c.loop-i.i c.requires.size c.requires.power c.requires.divides c.if-block_len.false c.loop-i-test.true
    c.if-i-block_len-eq0.true

pub loop-i-preserved : goal.loop-i-preserved
loop-i-preserved g c =
    let x = c.args.x.now in
    let y = c.args.y in
    let s = c.loop-i in
    let m = s.invariant in
    elim c.if-i-block_len-eq0.branch [
      | then-i-block_len-eq0 w ↦
          even_more c.args.block_len s.i g.row.N x.value y.value s.first s.second c.if-i-block_len-eq0.first c.if-i-block_len-eq0.second _ _ c.loop-i-test.true m.0 m.1
          x.sized
          (pair_after g.row.N c.args.block_len s.i c.requires.size c.requires.power c.requires.divides c.if-block_len.false c.loop-i-test.true w.if-i-block_len-eq0.true)
          w.if-i-block_len-eq0.true w.first-is w.second-is m.2
      | else-i-block_len-eq0 w ↦
          odd_more c.args.block_len s.i g.row.N x.value y.value s.first s.second c.if-i-block_len-eq0.first c.if-i-block_len-eq0.second _ _ c.loop-i-test.true m.0 m.1
          y.sized w.if-i-block_len-eq0.false w.first-is w.second-is m.2
    ]
