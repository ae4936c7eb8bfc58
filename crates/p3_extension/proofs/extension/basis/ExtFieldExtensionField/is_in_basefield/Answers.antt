use Rattle.std.proofs.Common.{◌≡◌, ◌<◌, ◌≤◌, length, arith, ◌∙◌, sym, refl}
use Rattle.p3_theory.specs.Bases.BasisSums.{zeros-begin, zeros-step, zeros-end, not_scalar}
use Rattle.p3_extension.proofs.extension.basis.ExtFieldExtensionField.is_in_basefield.Goals as goal

pub loop-i-init : goal.loop-i-init
loop-i-init g c = zeros-begin g.F.PrimeCharacteristicRing.ops c.args.self.now.value

pub returns-then-not-is_zero : goal.returns-then-not-is_zero
returns-then-not-is_zero g c =
    let v = c.args.self.now.value in
    let o = g.F.PrimeCharacteristicRing.ops in
    let place : c.loop-i.i < length v = omega (arith, c.args.self.now.sized, c.loop-i-test.true) in
    let nonzero : c.index-self-i.result ≡ o.zero → ⊥ = λ e. cc ((rw c.if-not-is_zero.true at c.is_zero.ensures).1 (sym c.index-self-i.is ∙ e)) in
    (λ h. absurd (cc h), λ s. absurd (not_scalar o v c.loop-i.i c.index-self-i.result c.loop-i.auto.i place c.index-self-i.is nonzero s))

pub loop-i-preserved : goal.loop-i-preserved
loop-i-preserved g c =
    let v = c.args.self.now.value in
    let o = g.F.PrimeCharacteristicRing.ops in
    let place : c.loop-i.i < length v = omega (arith, c.args.self.now.sized, c.loop-i-test.true) in
    let zero : c.index-self-i.result ≡ o.zero = c.index-self-i.is ∙ (rw c.if-not-is_zero.false at c.is_zero.ensures).0 refl in
    zeros-step o v c.loop-i.i c.index-self-i.result place c.index-self-i.is zero c.loop-i.invariant

pub returns : goal.returns
returns g c =
    let v = c.args.self.now.value in
    let over : length v ≤ c.loop-i.i = omega (arith, c.args.self.now.sized, c.loop-i-test.false) in
    (λ _. zeros-end g.F.PrimeCharacteristicRing.ops v c.loop-i.i over c.loop-i.invariant, λ _. refl)
