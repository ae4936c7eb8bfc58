use Rattle.std.proofs.Common.{◌≡◌, ◌<◌, ◌*◌, ◌/◌, min, length, arith, rules, ap, sym, ◌∙◌}
use Rattle.std.proofs.lemmas.List.{length-set}
use Rattle.p3_theory.specs.Rings.ColumnwiseProducts.{group-inside, column-update, column-end}
use Rattle.p3_packing_traits.proofs.columnwise.add_scaled_row.Goals as goal

pub loop-j-init : goal.loop-j-init
loop-j-init g c =
    let whole : c.loop-c.c < length c.args.acc.now / g.row.N = omega (arith, c.min-groups.ensures) in
    record {
      at_index = omega arith;
      group = omega (arith, group-inside (length c.args.acc.now) g.row.N c.loop-c.c whole);
      updated = c.loop-c.invariant.updated;
    }

pub loop-j-preserved : goal.loop-j-preserved
loop-j-preserved g c =
    let o = g.PE.PrimeCharacteristicRing.ops in
    let m = g.met.PE.PrimeCharacteristicRing in
    let in_row : c.loop-c.c < min (length c.args.acc.now / g.row.N) (length c.args.row.now) = omega (arith, c.min-groups.ensures) in
    record {
      at_index = omega arith;
      group = omega (arith, length-set {A = g.row.PE.Denot});
      updated = column-update m.ring g.PE.Algebra.embed g.row.N c.args.acc.now c.loop-j.acc c.args.scales c.args.row.now c.loop-c.c c.loop-j.j c.loop-j.index
          c.index-scales-j.result c.index-row-c.result c.index-acc-index.result c.mul-product.result c.add_assign.new.self c.loop-j.invariant.at_index in_row c.loop-j-test.true
          (search rules) (omega arith) c.loop-j.invariant.updated c.index-scales-j.is c.index-row-c.is c.index-acc-index.is
          (g.met.PE.Algebra.mixed_muls.exact _ _ _ c.mul-product.ensures ∙ ap (λ z. o.mul z (g.PE.Algebra.embed c.index-row-c.result)) (sym c.index-scales-j.is))
          (m.add_assigns.exact _ _ _ c.add_assign.ensures.after ∙ ap (λ z. o.add z c.mul-product.result) (sym c.index-acc-index.is));
    }

pub returns : goal.returns
returns g c =
    let all : c.loop-c.c ≡ min (length c.args.acc.now / g.row.N) (length c.args.row.now) = omega (arith, c.min-groups.ensures) in
    column-end g.met.PE.PrimeCharacteristicRing.ring g.PE.Algebra.embed g.row.N c.args.acc.now c.loop-c.acc c.args.scales c.args.row.now c.loop-c.index c.requires.groups
    (c.loop-c.invariant.at_index ∙ ap (λ k. k * g.row.N) all) c.loop-c.auto.acc c.loop-c.invariant.updated
