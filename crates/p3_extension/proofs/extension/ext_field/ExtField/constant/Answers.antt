use Rattle.std.proofs.Common.{◌∙◌, ap, replicate, slice_set}
use Rattle.p3_theory.specs.Lists.ByIndex.{constant-list}
use Rattle.p3_extension.proofs.extension.ext_field.ExtField.constant.Goals as goal

pub returns : goal.returns
returns g c =
    c.new.ensures ∙ ap (λ z. slice_set (replicate g.row.D z) 0 c.args.x) c.zero-value.ensures
    ∙ constant-list g.A.PrimeCharacteristicRing.ops g.row.D c.args.x c.requires
