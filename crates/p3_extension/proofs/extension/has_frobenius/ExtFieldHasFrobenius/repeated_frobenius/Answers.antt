use Rattle.std.proofs.Common.{◌%◌, ◌∙◌}
use Rattle.p3_theory.specs.FrobeniusMaps.Iteration.{iterate_remainder}
use Rattle.p3_extension.specs.Conjugates.{frobenius_map, whole_turn}
use Rattle.p3_extension.specs.FrobeniusLaws.{repeated_value}
use Rattle.p3_extension.proofs.extension.has_frobenius.ExtFieldHasFrobenius.repeated_frobenius.Goals as goal

pub returns : goal.returns
returns g c =
    let o = g.F.PrimeCharacteristicRing.ops in
    let f = g.F.ExtensionAlgebra.modulus in
    let phi = g.F.FrobeniusExtendable.image in
    let laws = g.met.F.FrobeniusExtendable.frobenius_laws in
    repeated_value {F = g.row.F.Denot} {S = g.row.S.Denot} o f phi laws c.args.count (c.args.count % g.row.D)
    (iterate_remainder (frobenius_map o f phi) g.row.D (whole_turn o f phi laws) c.args.count) c.args.self.now c.new.result
    (c.new.ensures ∙ c.apply_repeated_frobenius.ensures)
