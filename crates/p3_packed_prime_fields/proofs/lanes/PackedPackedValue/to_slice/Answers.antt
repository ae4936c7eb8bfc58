use Rattle.std.proofs.Common.{sym, arith, ◌∙◌}
use Rattle.std.proofs.lemmas.List.{ext_get_or}
use Rattle.p3_packed_prime_fields.proofs.lanes.PackedPackedValue.to_slice.Goals as goal

pub returns : goal.returns
returns g c =
    let value = c.args.self.now in
    let long = c.loop-lane.invariant.0 in
    ext_get_or g.F.Inhabited.inhabitant c.loop-lane.out value.value (long ∙ sym value.sized)
    (λ k h. c.loop-lane.invariant.1 g.F.Inhabited.inhabitant k (omega (arith, h, long, c.loop-lane-test.false)))
