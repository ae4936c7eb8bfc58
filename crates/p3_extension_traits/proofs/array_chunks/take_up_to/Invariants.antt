use Rattle.std.proofs.Common.{◌≡◌, ◌≤◌, ◌+◌, ◌++◌, List, length, drop}
use Rattle.std.specs.Iterator.{IsFinite, size, Yields}
use Rattle.p3_extension_traits.proofs.array_chunks.take_up_to.Given as goal

abbrev pub invariant-loop-i : goal.invariant-loop-i
invariant-loop-i g l =
    let left = g.I.Iterator.remaining in
    record {
      ready : g.I.Iterator.can_next l.source;
      finite : IsFinite (left l.source);
      nearer : size (left l.source) + l.i ≤ size (left l.initial.source);
      wrote : (xs : List g.row.T.Denot) × (length xs ≡ l.i) × (l.out ≡ xs ++ drop l.i l.initial.out)
          × Yields g.I.Iterator.next_gives l.initial.source xs l.source;
    }
