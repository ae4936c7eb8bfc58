use Rattle.std.proofs.Common.{ap, refl, sym}
use Rattle.p3_c_calls.proofs.CoefficientLists.{coefficients, value-invertible}
use Rattle.p3_c_calls.proofs.extensions.inverse.Goals as goal

pub returns-in-Some : goal.returns-in-Some
returns-in-Some g c =
    let x = c.read_group-value.result in
    let y = c.in-Some.found in
    (search, (x.value, y.value, (x.sized, sym c.read_group-value.ensures), (y.sized, c.write_group.ensures), ap coefficients c.in-Some.ensures))

pub returns-in-None : goal.returns-in-None
returns-in-None g c =
    let o = g.F.PrimeCharacteristicRing.ops in
    let f = g.F.ExtensionAlgebra.modulus in
    let x = c.read_group-value.result in (
      (
        tt,
        search,
        c.if-not-all_stand.ensures.0 refl,
        λ has.
            let y = has x.value (x.sized, sym c.read_group-value.ensures) in
            let i = value-invertible g.row.D o f x y.0 y.1 y.2 in
            c.in-None.ensures i.0 i.1,
      ),
      refl,
    )
