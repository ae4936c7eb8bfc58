use Rattle.std.proofs.Common.{◌≡◌, ◌≤◌, ◌+◌, ◌*◌, length}
use Rattle.p3_theory.specs.Rings.ColumnwiseProducts.{entry_after_row}
use Rattle.p3_theory.specs.Lists.TabulatedEntries.{UpdatedBelow}
use Rattle.p3_packing_traits.proofs.columnwise.add_scaled_row.Given as goal

abbrev pub invariant-loop-c : goal.invariant-loop-c
invariant-loop-c g l =
    let o = g.PE.PrimeCharacteristicRing.ops in
    record {
      at_index : l.index ≡ l.c * g.row.N;
      updated : UpdatedBelow (entry_after_row o g.PE.Algebra.embed g.row.N l.fn.acc l.row l.scales) o.zero l.fn.acc l.acc l.index;
    }

abbrev pub invariant-loop-j : goal.invariant-loop-j
invariant-loop-j g l =
    let o = g.PE.PrimeCharacteristicRing.ops in
    record {
      at_index : l.index ≡ l.c * g.row.N + l.j;
      group : l.c * g.row.N + g.row.N ≤ length l.acc;
      updated : UpdatedBelow (entry_after_row o g.PE.Algebra.embed g.row.N l.fn.acc l.row l.scales) o.zero l.fn.acc l.acc l.index;
    }
