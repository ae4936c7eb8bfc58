use Rattle.std.proofs.Common.{◌≡◌, ◌<◌, ◌≤◌, ◌-◌, length, get_or, ap, ◌∙◌, sym, take, drop, ◌+◌, arith}
use Rattle.std.proofs.lemmas.Grind.{common_steps}
use Rattle.std.proofs.lemmas.List.{take-map, drop-map, take_all, get_or-map, length-map, length-drop}
use Rattle.p3_theory.specs.Rings.Ring.{ring_of}
use Rattle.example_shares.specs.Lagrange.{differences}
use Rattle.example_shares.specs.Denominators.{denominators_more}
use Rattle.example_shares.specs.ShareLists.{points}
use Rattle.example_shares.proofs.lagrange.denominators.Goals as goal

pub loop-i-preserved : goal.loop-i-preserved
loop-i-preserved g c =
    let m = g.met.F.PrimeCharacteristicRing in
    let o = g.F.PrimeCharacteristicRing.ops in
    let shares = c.args.shares.now in
    let i = c.loop-i.i in
    let share = c.index-shares-i.result in
    let x = (get_or shares i share).point in
    let shorter : length (drop (i + 1) shares) ≤ length shares - (i + 1) = omega (arith, length-drop (i + 1) shares) in
    let rest : take (length shares - (i + 1)) (drop (i + 1) shares) ≡ drop (i + 1) shares = take_all (length shares - (i + 1)) (drop (i + 1) shares) shorter in
    let inside : i < length shares = omega (arith, c.loop-i-test.true) in
    let at : i < length (points shares) = omega (arith, inside, length-map shares (λ s. s.point)) in
    record {
      lengths = grind (arith, common_steps);
      multiplied = λ d.
          denominators_more (ring_of m.ring) (points shares) c.loop-i.products.items c.push.new.self.items i x c.difference_product-before.result c.difference_product-after.result c.mul.result
          at c.loop-i.invariant.lengths d (sym (get_or-map (λ s. s.point) shares i share d inside))
          (c.difference_product-before.ensures ∙ ap (differences o x) (sym (take-map (λ s. s.point) i shares)))
          (c.difference_product-after.ensures ∙ ap (λ l. differences o x (points l)) rest ∙ ap (differences o x) (sym (drop-map (λ s. s.point) (i + 1) shares)))
          (m.muls.exact _ _ _ c.mul.ensures) c.in_ok-push.ensures.items (c.loop-i.invariant.multiplied d);
    }
