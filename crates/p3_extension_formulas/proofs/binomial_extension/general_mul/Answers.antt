use Rattle.std.proofs.Common.{ap₂, ◌∙◌, refl, arith}
use Rattle.std.proofs.lemmas.List.{get_or_default}
use Rattle.p3_theory.specs.Rings.Ring.{ring_of}
use Rattle.p3_theory.specs.Products.ProductCoefficients.{product_by_each_coefficient, product_coefficient, entry_more}
use Rattle.p3_extension_formulas.proofs.ProductRows.{row-begin, row-next, row-coefficient}
use Rattle.p3_extension_formulas.proofs.binomial_extension.general_mul.Goals as goal

pub loop-k-init : goal.loop-k-init
loop-k-init g c = (
  c.requires.room,
  λ k h. absurd (omega (arith, h)),
  λ k h. refl,
  row-begin g.A.PrimeCharacteristicRing.ops g.row.D (g.A.Algebra.embed c.args.w) c.args.b.now c.write_reversed_scaled.new.res c.requires.right c.write_reversed_scaled.ensures,
)

pub loop-k-preserved : goal.loop-k-preserved
loop-k-preserved g c =
    let o = g.A.PrimeCharacteristicRing.ops in
    let m = g.met.A.PrimeCharacteristicRing in
    let w = g.A.Algebra.embed c.args.w in
    let v = c.loop-k.invariant in
    let k = c.loop-k.k in
    let read = c.index-b-k.is ∙ get_or_default c.args.b.now k c.index-b-k.result o.zero (omega (arith, c.requires.right, c.loop-k-test.true)) in
    let row = row-next o g.row.D w c.args.b.now k c.loop-k.row c.shift_in.new.row c.index-b-k.result c.loop-k-test.true v.3 read c.shift_in.ensures in
    let coefficient = row-coefficient o m.ring g.row.D w c.args.a.now c.args.b.now k c.shift_in.new.row c.loop-k-test.true c.requires.left row c.dot_product-coefficient.result c.dot_product-coefficient.ensures in
    let more =
    entry_more (ring_of m.ring) (product_coefficient o g.row.D w c.args.a.now c.args.b.now) c.args.res.now c.loop-k.res k g.row.D c.add-sum.result
    v.0 c.loop-k-test.true v.1 v.2
    (m.adds.exact _ _ _ c.add-sum.ensures
    ∙ ap₂ o.add (c.index-res-k.is ∙ get_or_default c.loop-k.res k c.index-res-k.result o.zero (omega (arith, v.0, c.loop-k-test.true)) ∙ v.2 k (omega arith)) coefficient) in
    (more.0, more.1, more.2, row)

pub returns : goal.returns
returns g c =
    product_by_each_coefficient (ring_of g.met.A.PrimeCharacteristicRing.ring) g.row.D c.requires.degree (g.A.Algebra.embed c.args.w) c.args.a.now c.args.b.now c.args.res.now c.loop-k.res
    c.requires.left c.requires.right c.loop-k.invariant.0 (λ k h. c.loop-k.invariant.1 k (omega arith))
