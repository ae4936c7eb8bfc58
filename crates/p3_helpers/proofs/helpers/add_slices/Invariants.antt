use Rattle.std.proofs.Common.{◌≡◌, ◌++◌, ◌*◌, length, take, drop}
use Rattle.p3_theory.specs.Lists.PairedLists.{zip_with}
use Rattle.p3_helpers.proofs.helpers.add_slices.Given as goal

abbrev pub invariant-loop-i : goal.invariant-loop-i
invariant-loop-i g l =
    let add = g.F.PrimeCharacteristicRing.ops.add in
    let done = l.i * l.step in
    record {
      long : length l.slice_1 ≡ length l.initial.slice_1;
      added : take done l.slice_1 ++ zip_with add (drop done l.slice_1) (drop done l.slice_2) ≡ zip_with add l.initial.slice_1 l.slice_2;
    }
