use Rattle.std.proofs.Common.{◌≡◌, map, take}
use Rattle.p3_theory.specs.Rings.Multiples.{of_nat}
use Rattle.example_shares.proofs.lines.values.Given as goal

abbrev pub invariant-loop-number : goal.invariant-loop-number
invariant-loop-number g l = l.values.items ≡ map (of_nat g.F.PrimeCharacteristicRing.ops) (take l.number-index l.numbers)
