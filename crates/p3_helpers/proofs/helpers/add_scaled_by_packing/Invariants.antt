use Rattle.std.proofs.Common.{◌≡◌, ◌*◌, ◌++◌, length, take, drop}
use Rattle.p3_theory.specs.Lists.PairedLists.{zip_with}
use Rattle.p3_helpers.proofs.helpers.add_scaled_by_packing.Given as goal

abbrev pub invariant-loop-i : goal.invariant-loop-i
invariant-loop-i g l =
    let o = g.F.PrimeCharacteristicRing.ops in
    let added = λ (x y : g.row.F.Denot). o.add x (o.mul y l.s) in
    let done = l.i * 64 in
    record {
      long : length l.slice ≡ length l.initial.slice;
      added : take done l.slice ++ zip_with added (drop done l.slice) (drop done l.other) ≡ zip_with added l.initial.slice l.other;
    }
