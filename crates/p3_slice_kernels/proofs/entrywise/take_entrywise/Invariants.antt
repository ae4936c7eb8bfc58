use Rattle.std.proofs.Common.{◌≡◌, ◌*◌, length, get_or}
use Rattle.p3_theory.specs.Lists.TabulatedEntries.{UpdatedBelow}
use Rattle.p3_slice_kernels.proofs.entrywise.take_entrywise.Given as goal

abbrev pub invariant-loop-block : goal.invariant-loop-block
invariant-loop-block g l =
    let give = g.O.EntryOperation.gives in
    let d = g.O.EntryOperation.past_the_end in
    record {
      long : length l.left ≡ length l.fn.left;
      taken : UpdatedBelow (λ i. give (get_or l.fn.left i d) (get_or l.right i d)) d l.fn.left l.left (16 * l.block);
    }

abbrev pub invariant-loop-i : goal.invariant-loop-i
invariant-loop-i g l =
    let give = g.O.EntryOperation.gives in
    let d = g.O.EntryOperation.past_the_end in
    record {
      long : length l.left ≡ length l.fn.left;
      taken : UpdatedBelow (λ i. give (get_or l.fn.left i d) (get_or l.right i d)) d l.fn.left l.left l.i;
    }
