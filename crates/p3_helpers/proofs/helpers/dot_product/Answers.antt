use Rattle.std.proofs.Common.{◌≡◌, ◌∙◌, ap, ap₂, sym, map, rules}
use Rattle.p3_theory.specs.Rings.Operators.{sum_list}
use Rattle.p3_theory.specs.Rings.DotProduct.{dot}
use Rattle.p3_theory.specs.Lists.PairedLists.{dot-pairs}
use Rattle.p3_helpers.specs.PairedRuns.{EndsWithShorter}
use Rattle.p3_helpers.proofs.YieldedItems.{dot-runs}
use Rattle.p3_helpers.proofs.helpers.dot_product.Goals as goal

pub returns : goal.returns
returns g c =
    let m = g.met.S.RingSums in
    let mixed = g.met.S.Algebra.mixed_muls.exact in
    let o = g.S.PrimeCharacteristicRing.ops in
    let embed = g.S.Algebra.embed in
    let summed = c.sum.ensures.runs (m.sums.whole c.sum.result) in
    let mapped = c.map.ensures.runs summed.0 summed.0.seen summed.1 in
    let zipped = c.zip.ensures.runs mapped.0 mapped.0.seen mapped.1 in
    let left = zipped.0 in
    let right = zipped.2.0 in
    let paired = zipped.2.2 in
    let products = mapped.2.3 (λ p. o.mul p.0 (embed p.1)) (λ x r q k. search (rules, mixed)) in
    let value : c.sum.result ≡ dot o left.items (map embed right.items) =
    m.sums.exact summed.0.items c.sum.result summed.3
    ∙ ap (sum_list o) products ∙ sym (dot-pairs o embed mapped.0.items)
    ∙ sym (ap₂ (λ xs ys. dot o xs (map embed ys)) paired.0.1 paired.1.1) in
    let from_right = zipped.2.1 ∙ c.zip.ensures.second in
    let ended : EndsWithShorter g.LI.Iterator.next_gives g.RI.Iterator.next_gives left right = (paired.0.0 ∙ sym paired.1.0, paired.2 (mapped.2.0 ∙ summed.2)) in
    record {
      runs = (left, zipped.1, (right, from_right, (ended, value)));
      lists = λ xs ys a b. value ∙ dot-runs o embed left right c.args.li c.args.ri zipped.1 from_right ended xs ys a b;
    }
