use Rattle.std.proofs.Common.{◌≡◌, ◌++◌, ◌*◌, length, map, take, drop}
use Rattle.p3_helpers.proofs.helpers.write_scaled.Given as goal

abbrev pub invariant-loop-i : goal.invariant-loop-i
invariant-loop-i g l =
    let scaled = λ (x : g.row.F.Denot). g.F.PrimeCharacteristicRing.ops.mul x l.s in
    let done = l.i * g.P.PackedValue.WIDTH in
    record {
      long : length l.to ≡ length l.from;
      written : take done l.to ++ map scaled (drop done l.from) ≡ map scaled l.from;
    }
