use Rattle.std.proofs.Common.{◌≡◌, ◌*◌, length, get_or}
use Rattle.p3_theory.specs.Lists.TabulatedEntries.{HoldsBelow}
use Rattle.p3_slice_kernels.proofs.entrywise.write_with_one.Given as goal

abbrev pub invariant-loop-block : goal.invariant-loop-block
invariant-loop-block g l =
    record {
      long : length l.out ≡ length l.fn.out;
      written : HoldsBelow (λ k. g.O.EntryOperation.gives (get_or l.values k l.other) l.other) l.other l.out (16 * l.block);
    }

abbrev pub invariant-loop-i : goal.invariant-loop-i
invariant-loop-i g l =
    record {
      long : length l.out ≡ length l.fn.out;
      written : HoldsBelow (λ k. g.O.EntryOperation.gives (get_or l.values k l.other) l.other) l.other l.out l.i;
    }
