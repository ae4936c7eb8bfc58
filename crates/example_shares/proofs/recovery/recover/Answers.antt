use Rattle.std.proofs.Common.{take, ap, ◌∙◌}
use Rattle.p3_theory.specs.Rings.Ring.{ring_of}
use Rattle.example_shares.specs.Lagrange.{lagrange, secret}
use Rattle.example_shares.specs.ShareLists.{points, values}
use Rattle.example_shares.proofs.recovery.recover.Goals as goal

pub returns-clause-secret : goal.returns-clause-secret
returns-clause-secret g c =
    let o = g.F.PrimeCharacteristicRing.ops in
    let chosen = take c.args.threshold c.args.shares.now in
    secret (ring_of g.met.F.PrimeCharacteristicRing.ring) (points chosen) (values chosen) c.in_ok-weights.weights.items c.combine.result c.in_ok-weights.ensures.weights
    (c.combine.ensures ∙ ap (λ l. lagrange o (points chosen) (values chosen) l) c.deref.ensures.value)
