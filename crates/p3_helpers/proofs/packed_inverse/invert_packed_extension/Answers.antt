use Rattle.std.proofs.Common.{◌≡◌, ◌<◌, ◌≤◌, ◌+◌, ◌∙◌, ℕ, get_or, arith, ap, sym, subst, refl}
use Rattle.std.proofs.lemmas.List.{ext_get_or}
use Rattle.p3_theory.specs.Rings.Ring.{Invertible}
use Rattle.p3_theory.specs.Lanes.Lanes.{at_replicate}
use Rattle.p3_theory.specs.Lanes.LaneBlocks.{read-product, blocks-single, joined-more, joined-whole}
use Rattle.p3_helpers.proofs.packed_inverse.invert_packed_extension.Goals as goal

pub join_blocks-fours-requires-clause-held : goal.join_blocks-fours-requires-clause-held
join_blocks-fours-requires-clause-held g c =
    let r = g.met.EF.PrimeCharacteristicRing.ring in
    let lanes = g.PE.ExtensionLanes.ext_lanes in
    let n = g.PE.ExtensionLanes.LANES in
    let long = g.met.PE.ExtensionLanes.ext_lengths in
    let x = c.args.packed in
    let y = c.of_neighbours-others.result in
    let xs = lanes x in
    joined-more r n 1 2 xs (lanes y) (lanes (g.PE.PrimeCharacteristicRing.ops.mul x y)) (long x) (long _) (omega arith) (omega arith) (λ _. refl) (blocks-single r xs) c.requires
    c.of_neighbours-others.ensures (λ k b. (g.met.PE.PackedExtensionRing.ext_keeps k b).mul x y)

pub inverse-requires : goal.inverse-requires
inverse-requires g c =
    let o = g.EF.PrimeCharacteristicRing.ops in
    let lanes = g.PE.ExtensionLanes.ext_lanes in
    let some = g.met.PE.ExtensionLanes.some_ext_lane in
    let x = c.args.packed in
    let y = c.loop-size.others in
    let products = g.PE.PrimeCharacteristicRing.ops.mul x y in
    let product : c.mul-product.result ≡ get_or (lanes products) 0 o.zero =
    read-product o (lanes x) (lanes y) (lanes products) 0 c.extract-first.result c.extract.result c.mul-product.result c.extract-first.ensures c.extract.ensures
    (g.met.EF.PrimeCharacteristicRing.muls.exact c.extract-first.result c.extract.result c.mul-product.result c.mul-product.ensures) ((g.met.PE.PackedExtensionRing.ext_keeps 0 some).mul x y) in
    subst (Invertible o) (sym product) (c.loop-size.invariant.1.4 0 some)

pub returns-clause-lanes : goal.returns-clause-lanes
returns-clause-lanes g c k below =
    let o = g.EF.PrimeCharacteristicRing.ops in
    let m = g.met.EF.PrimeCharacteristicRing in
    let lanes = g.PE.ExtensionLanes.ext_lanes in
    let keeps = g.met.PE.PackedExtensionRing.ext_keeps in
    let n = g.PE.ExtensionLanes.LANES in
    let some = g.met.PE.ExtensionLanes.some_ext_lane in
    let x = c.args.packed in
    let y = c.loop-size.others in
    let z = c.inverse.result in
    let products = g.PE.PrimeCharacteristicRing.ops.mul x y in
    let done : n ≤ c.loop-size.size = omega (arith, c.LANES.ensures, c.loop-size-test.false) in
    let product : c.mul-product.result ≡ get_or (lanes products) 0 o.zero =
    read-product o (lanes x) (lanes y) (lanes products) 0 c.extract-first.result c.extract.result c.mul-product.result c.extract-first.ensures c.extract.ensures
    (m.muls.exact c.extract-first.result c.extract.result c.mul-product.result c.mul-product.ensures) ((keeps 0 some).mul x y) in
    let same = joined-whole m.ring n c.loop-size.size (lanes products) (g.met.PE.ExtensionLanes.ext_lengths products) done c.loop-size.invariant.1 k 0 below some in
    let made : get_or (lanes c.mul.result) k o.zero ≡ o.mul (get_or (lanes y) k o.zero) z =
    ap (λ q. get_or (lanes q) k o.zero) (g.met.PE.PrimeCharacteristicRing.muls.exact y c.ext_broadcast.result c.mul.result c.mul.ensures) ∙ (keeps k below).mul y c.ext_broadcast.result
    ∙ ap (o.mul (get_or (lanes y) k o.zero)) (at_replicate n k z o.zero (lanes c.ext_broadcast.result) below c.ext_broadcast.ensures) in
    ap (o.mul (get_or (lanes x) k o.zero)) made ∙ sym (m.ring.mul_assoc (get_or (lanes x) k o.zero) (get_or (lanes y) k o.zero) z) ∙ ap (λ q. o.mul q z) (sym ((keeps k below).mul x y) ∙ same ∙ sym product) ∙ c.inverse.ensures

pub returns-clause-inverse : goal.returns-clause-inverse
returns-clause-inverse g c =
    let o = g.EF.PrimeCharacteristicRing.ops in
    let keeps = g.met.PE.PackedExtensionRing.ext_keeps in
    let long = g.met.PE.ExtensionLanes.ext_lengths in
    g.met.PE.ExtensionLanes.ext_same _ _
    (ext_get_or o.zero _ _ (long _ ∙ sym (long _))
    (λ k b. let below : k < g.PE.ExtensionLanes.LANES = omega (arith, b, long (g.PE.PrimeCharacteristicRing.ops.mul c.args.packed c.mul.result)) in
    (keeps k below).mul c.args.packed c.mul.result ∙ returns-clause-lanes g c k below ∙ sym (keeps k below).one))
