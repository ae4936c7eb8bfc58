use Rattle.std.proofs.Common.{◌≡◌, length, sym, ◌∙◌, refl, arith}
use Rattle.std.proofs.lemmas.Option.{get_or_from_slice_get}
use Rattle.p3_theory.specs.Polynomials.Polynomial.{at}
use Rattle.p3_theory.specs.Lists.ByIndex.{to-tabulate}
use Rattle.p3_theory.specs.Lists.TabulatedEntries.{holds-none, holds-more, holds-all}
use Rattle.p3_packing_traits.proofs.extension_lanes.ExtensionLanes.to_ext_slice.Goals as goal

pub loop-lane-init : goal.loop-lane-init
loop-lane-init g c =
    let o = g.EF.PrimeCharacteristicRing.ops in
    holds-none (at o (g.Self.ExtensionLanes.ext_lanes c.args.self.now)) o.zero c.args.out.now

pub loop-lane-preserved : goal.loop-lane-preserved
loop-lane-preserved g c =
    let o = g.EF.PrimeCharacteristicRing.ops in
    let lanes = g.Self.ExtensionLanes.ext_lanes c.args.self.now in
    holds-more (at o lanes) o.zero c.loop-lane.out c.loop-lane.lane c.extract.result (omega (arith, c.loop-lane.auto.out, c.loop-lane-test.true)) c.loop-lane.invariant
    (sym (get_or_from_slice_get lanes c.loop-lane.lane c.extract.result o.zero c.extract.ensures))

pub returns : goal.returns
returns g c =
    let o = g.EF.PrimeCharacteristicRing.ops in
    let lanes = g.Self.ExtensionLanes.ext_lanes c.args.self.now in
    let n = length c.args.out.now in
    let whole : length lanes ≡ n = g.met.Self.ExtensionLanes.ext_lengths c.args.self.now ∙ sym c.requires in
    holds-all (at o lanes) o.zero c.loop-lane.out n c.loop-lane.auto.out (λ k h. c.loop-lane.invariant k (omega (arith, h, c.loop-lane-test.false)))
    ∙ sym (to-tabulate o.zero n (at o lanes) lanes whole (λ k h. refl))
