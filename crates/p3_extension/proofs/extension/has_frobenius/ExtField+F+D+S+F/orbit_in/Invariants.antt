use Rattle.std.proofs.Common.{◌≡◌, ◌-◌, ◌++◌}
use Rattle.p3_theory.specs.FrobeniusMaps.FrobeniusTable.{orbit_list}
use Rattle.p3_extension.specs.Conjugates.{frobenius_map}
use Rattle.p3_extension.proofs.extension.has_frobenius.ExtField+F+D+S+F.orbit_in.Given as goal

abbrev pub invariant-loop : goal.invariant-loop
invariant-loop g l =
    let s = frobenius_map g.F.PrimeCharacteristicRing.ops g.F.ExtensionAlgebra.modulus g.F.FrobeniusExtendable.image in
    l.orbit.items ++ orbit_list s (g.row.D - l.counter) l.image ≡ orbit_list s g.row.D l.fn.self
