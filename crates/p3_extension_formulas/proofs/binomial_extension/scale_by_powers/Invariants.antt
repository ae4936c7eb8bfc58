use Rattle.std.proofs.Common.{◌≡◌, ◌<◌, ℕ, length, get_or}
use Rattle.p3_theory.specs.Rings.Powers.{power}
use Rattle.p3_extension_formulas.proofs.binomial_extension.scale_by_powers.Given as goal

abbrev pub invariant-loop-i : goal.invariant-loop-i
invariant-loop-i g l =
    let o = g.F.PrimeCharacteristicRing.ops in
    (length l.res ≡ length l.fn.a)
    × (l.power ≡ power o l.root l.i)
    × ((k : ℕ) → k < l.i → get_or l.res k o.zero ≡ o.mul (power o l.root k) (get_or l.fn.a k o.zero))
