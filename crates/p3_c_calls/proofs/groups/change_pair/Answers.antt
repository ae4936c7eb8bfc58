use Rattle.std.proofs.Common.{ap, ◌∙◌}
use Rattle.p3_c_calls.proofs.groups.change_pair.Goals as goal

pub returns : goal.returns
returns g c =
    let m = g.met.E.PrimeCharacteristicRing in (
      c.read_group-x.result,
      c.read_group-y.result,
      c.read_group-x.ensures,
      c.read_group-y.ensures,
      c.write_group.ensures ∙ ap g.E.Grouped.group (m.muls.exact _ _ _ c.mul-product.ensures),
    )
