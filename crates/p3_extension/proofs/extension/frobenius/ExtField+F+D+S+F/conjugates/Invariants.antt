use Rattle.std.proofs.Common.{◌≡◌, ◌-◌}
use Rattle.p3_theory.specs.FrobeniusMaps.Iteration.{orbit}
use Rattle.p3_extension.specs.Values.{ext_ops}
use Rattle.p3_extension.specs.Conjugates.{frobenius_map}
use Rattle.p3_extension.proofs.extension.frobenius.ExtField+F+D+S+F.conjugates.Given as goal

abbrev pub invariant-loop : goal.invariant-loop
invariant-loop g l =
    let o = g.F.PrimeCharacteristicRing.ops in
    let f = g.F.ExtensionAlgebra.modulus in
    let s = frobenius_map o f g.F.FrobeniusExtendable.image in
    l.product ≡ orbit (ext_ops o f) s (l.counter - 1) (s l.self)
