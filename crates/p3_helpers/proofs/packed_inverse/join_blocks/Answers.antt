use Rattle.std.proofs.Common.{◌≡◌, ◌<◌, ◌+◌, ◌∙◌, ℕ, get_or, arith, ap, sym, subst}
use Rattle.p3_theory.specs.Lanes.LaneBlocks.{HoldsBlocks, HoldsNeighbours, joined-more}
use Rattle.p3_helpers.proofs.packed_inverse.join_blocks.Goals as goal

pub returns-clause-held : goal.returns-clause-held
returns-clause-held g c =
    let o = g.EF.PrimeCharacteristicRing.ops in
    let p = g.PE.PrimeCharacteristicRing.ops in
    let m = g.met.PE.PrimeCharacteristicRing in
    let lanes = g.PE.ExtensionLanes.ext_lanes in
    let n = g.PE.ExtensionLanes.LANES in
    let long = g.met.PE.ExtensionLanes.ext_lengths in
    let v = c.requires.held in
    let size = c.args.size in
    let x = c.args.packed in
    let old = c.args.others.now in
    let products = p.mul x old in
    let ns = c.of_neighbours.result in
    let others = c.mul_assign.new.self in
    let next = size + c.min.result in
    let early : size < n = omega (arith, c.LANES.ensures, c.if-size-LANES) in
    let blocks : HoldsBlocks o size (lanes products) = subst (λ w. HoldsBlocks o w (lanes products)) (sym (v.2 early)) v.3 in
    let near : HoldsNeighbours o size (lanes products) (lanes ns) n = subst (λ q. HoldsNeighbours o size (lanes q) (lanes ns) n) (m.muls.exact x old c.mul-products.result c.mul-products.ensures) c.of_neighbours.ensures in
    let fresh : others ≡ p.mul old ns = m.mul_assigns.exact old ns others c.mul_assign.ensures.after in
    let whole : p.mul x others ≡ p.mul products ns = ap (p.mul x) fresh ∙ sym (m.ring.mul_assoc x old ns) in
    let made : (k : ℕ) → k < n → get_or (lanes (p.mul x others)) k o.zero ≡ o.mul (get_or (lanes products) k o.zero) (get_or (lanes ns) k o.zero) =
    λ k b. ap (λ q. get_or (lanes q) k o.zero) whole ∙ (g.met.PE.PackedExtensionRing.ext_keeps k b).mul products ns in
    joined-more g.met.EF.PrimeCharacteristicRing.ring n size next (lanes products) (lanes ns) (lanes (p.mul x others)) (long _) (long _) c.requires.some (omega (arith, c.min.ensures))
    (λ more. omega (arith, more, c.min.ensures, c.LANES-2.ensures)) blocks v.4 near made
