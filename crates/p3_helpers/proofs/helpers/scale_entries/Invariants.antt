use Rattle.std.proofs.Common.{◌≡◌, ◌++◌, map, take, drop}
use Rattle.p3_helpers.proofs.helpers.scale_entries.Given as goal

abbrev pub invariant-loop-x : goal.invariant-loop-x
invariant-loop-x g l =
    let scaled = λ (x : g.row.F.Denot). g.F.PrimeCharacteristicRing.ops.mul x l.s in
    take l.x-index l.slice ++ map scaled (drop l.x-index l.slice) ≡ map scaled l.initial.slice
