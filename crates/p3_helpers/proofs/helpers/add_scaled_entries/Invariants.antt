use Rattle.std.proofs.Common.{◌≡◌, ◌++◌, take, drop}
use Rattle.p3_theory.specs.Lists.PairedLists.{zip_with}
use Rattle.p3_helpers.proofs.helpers.add_scaled_entries.Given as goal

abbrev pub invariant-loop-i : goal.invariant-loop-i
invariant-loop-i g l =
    let o = g.F.PrimeCharacteristicRing.ops in
    let added = λ (x y : g.row.F.Denot). o.add x (o.mul y l.s) in
    take l.i l.slice ++ zip_with added (drop l.i l.slice) (drop l.i l.other) ≡ zip_with added l.initial.slice l.other
