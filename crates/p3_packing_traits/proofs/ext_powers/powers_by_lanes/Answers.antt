use Rattle.std.proofs.Common.{◌≡◌, ◌<◌, ◌+◌, length, subst, sym, ◌∙◌, arith}
use Rattle.p3_theory.specs.Rings.GeometricSequence.{geometric_term, next_term, first_term}
use Rattle.p3_theory.specs.Lists.TabulatedEntries.{HoldsBelow, holds-none, holds-more}
use Rattle.p3_packing_traits.proofs.ext_powers.powers_by_lanes.Goals as goal

pub loop-lane-init : goal.loop-lane-init
loop-lane-init g c =
    let o = g.EF.PrimeCharacteristicRing.ops in
    record {
      term_is = c.one-power.ensures ∙ sym (first_term g.met.EF.PrimeCharacteristicRing.ring c.args.base o.one);
      held = holds-none (geometric_term o c.args.base o.one) o.zero _;
    }

pub loop-lane-preserved : goal.loop-lane-preserved
loop-lane-preserved g c =
    let o = g.EF.PrimeCharacteristicRing.ops in
    let m = g.met.EF.PrimeCharacteristicRing in
    let i = c.loop-lane.lane in
    let held = c.loop-lane.invariant in
    let term = geometric_term o c.args.base o.one in
    let before = g.P.ExtensionLanes.ext_lanes c.loop-lane.current in
    let inside : i < length before = omega (arith, g.met.P.ExtensionLanes.ext_lengths c.loop-lane.current, c.LANES-lane-end.ensures, c.loop-lane-test.true) in
    record {
      term_is = next_term m.ring c.args.base o.one c.loop-lane.power c.mul_assign.new.self i held.term_is (m.mul_assigns.exact _ _ _ c.mul_assign.ensures.after);
      held = subst (λ xs. HoldsBelow term o.zero xs (i + 1)) (sym c.set_ext_lane.ensures) (holds-more term o.zero before i c.loop-lane.power inside held.held held.term_is);
    }

pub returns : goal.returns
returns g c =
    let o = g.EF.PrimeCharacteristicRing.ops in
    let all : c.loop-lane.lane ≡ g.P.ExtensionLanes.LANES = omega (arith, c.LANES-lane-end.ensures, c.loop-lane-test.false, c.loop-lane.auto.lane-end) in
    record {
      lanes = subst (HoldsBelow (geometric_term o c.args.base o.one) o.zero (g.P.ExtensionLanes.ext_lanes c.loop-lane.current)) all c.loop-lane.invariant.held;
      next = subst (λ n. c.loop-lane.power ≡ geometric_term o c.args.base o.one n) all c.loop-lane.invariant.term_is;
    }
