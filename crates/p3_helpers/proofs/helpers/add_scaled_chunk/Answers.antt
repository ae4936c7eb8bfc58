use Rattle.std.proofs.Common.{ap, ◌∙◌}
use Rattle.p3_theory.specs.Lists.PairedLists.{zip_with}
use Rattle.p3_theory.specs.Lists.PairedLists.{zip-map}
use Rattle.p3_helpers.proofs.helpers.add_scaled_chunk.Goals as goal

pub returns : goal.returns
returns g c =
    let q = g.F.PrimeCharacteristicRing.ops in
    c.add_slices.ensures ∙ ap (zip_with q.add c.args.chunk.now) c.write_scaled.ensures ∙ zip-map q.add (λ a. q.mul a c.args.s) c.args.chunk.now c.args.other.now
