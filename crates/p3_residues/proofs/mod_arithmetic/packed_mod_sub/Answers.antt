use Rattle.std.proofs.Common.{◌+◌, ◌-◌, ◌%◌, arith}
use Rattle.p3_residues.proofs.Blocks.{loaded, stored}
use Rattle.p3_residues.proofs.mod_arithmetic.packed_mod_sub.Goals as goal

pub mm256_mod_sub-differences-requires-clause-left : goal.mm256_mod_sub-differences-requires-clause-left
mm256_mod_sub-differences-requires-clause-left g c = loaded c.args.p c.eights.i 8 g.row.WIDTH c.args.a.now (omega arith) c.requires.left

pub mm256_mod_sub-differences-requires-clause-right : goal.mm256_mod_sub-differences-requires-clause-right
mm256_mod_sub-differences-requires-clause-right g c = loaded c.args.p c.eights.i 8 g.row.WIDTH c.args.b.now (omega arith) c.requires.right

pub eights-preserved : goal.eights-preserved
eights-preserved g c =
    (omega arith, stored (λ x y p. (x + (p - y)) % p) c.args.p c.eights.i 8 c.args.a.now c.args.b.now c.eights.res c.mm256_mod_sub-differences.result c.mm256_mod_sub-differences.ensures.width (omega arith) c.mm256_mod_sub-differences.ensures.lanes c.eights.invariant.1)

pub uint32x4_mod_sub-last_differences-requires-clause-left : goal.uint32x4_mod_sub-last_differences-requires-clause-left
uint32x4_mod_sub-last_differences-requires-clause-left g c = loaded c.args.p c.fours.i 4 g.row.WIDTH c.args.a.now (omega arith) c.requires.left

pub uint32x4_mod_sub-last_differences-requires-clause-right : goal.uint32x4_mod_sub-last_differences-requires-clause-right
uint32x4_mod_sub-last_differences-requires-clause-right g c = loaded c.args.p c.fours.i 4 g.row.WIDTH c.args.b.now (omega arith) c.requires.right

pub fours-preserved : goal.fours-preserved
fours-preserved g c =
    (omega arith, stored (λ x y p. (x + (p - y)) % p) c.args.p c.fours.i 4 c.args.a.now c.args.b.now c.fours.res c.uint32x4_mod_sub-last_differences.result c.uint32x4_mod_sub-last_differences.ensures.width (omega arith) c.uint32x4_mod_sub-last_differences.ensures.lanes c.fours.invariant.1)
