use Rattle.std.proofs.Common.{rules, ◌≡◌, ◌<◌, ◌≤◌, length, ap, ◌∙◌}
use Rattle.p3_theory.specs.Bases.Coordinates.{basis_element}
use Rattle.p3_theory.specs.Bases.BasisSums.{basis-step, basis-end}
use Rattle.p3_extension_traits.proofs.extension_field.ExtensionField.from_ext_basis_coefficients.Goals as goal

pub loop-j-preserved : goal.loop-j-preserved
loop-j-preserved g c =
    let v = g.Self.BasedVectorSpace in
    let m = g.met.Self.PrimeCharacteristicRing in
    let o = g.Self.PrimeCharacteristicRing.ops in
    let whole : length c.args.coeffs.now ≡ v.DIMENSION = search rules in
    let place : c.loop-j.j < v.DIMENSION = search rules in
    let element : v.coefficients c.unwrap-element.result ≡ basis_element g.Base.PrimeCharacteristicRing.ops v.DIMENSION c.loop-j.j =
    rw c.unwrap-element.ensures at c.ith_basis_element.ensures.basis in
    basis-step g.Base.PrimeCharacteristicRing.ops o v.coefficients v.DIMENSION m.ring g.met.Self.BasedVectorSpace.same c.args.coeffs.now c.loop-j.j
    c.unwrap-element.result c.index-coeffs-j.result c.loop-j.sum c.add_assign.new.self whole place element c.index-coeffs-j.is
    (m.add_assigns.exact _ _ _ c.add_assign.ensures.after ∙ ap (o.add c.loop-j.sum) (m.muls.exact _ _ _ c.mul-term.ensures)) c.loop-j.invariant

pub returns : goal.returns
returns g c =
    let v = g.Self.BasedVectorSpace in
    let over : v.DIMENSION ≤ c.loop-j.j = search rules in
    basis-end g.Base.PrimeCharacteristicRing.ops g.Self.PrimeCharacteristicRing.ops v.coefficients v.DIMENSION g.met.Self.PrimeCharacteristicRing.ring c.args.coeffs.now
    c.loop-j.j c.loop-j.sum over c.loop-j.invariant
