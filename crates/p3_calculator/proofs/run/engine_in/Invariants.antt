use Rattle.std.proofs.Common.{◌≡◌, ◌+◌, ◌≤◌, List, ℕ, false}
use Rattle.std.specs.Io.KnownBytes.{Appends, Consumes}
use Rattle.p3_calculator.specs.RunSoFar.{RunSoFar}
use Rattle.p3_calculator.proofs.run.engine_in.Given as goal

abbrev pub invariant-reads : goal.invariant-reads
invariant-reads g l =
    (l.machine.number + g.R.Source.bound l.reader ≤ g.R.Source.bound l.fn.reader + 1)
    × (g.R.Source.failed l.reader ≡ false) × (g.W.Sink.failed l.writer ≡ false)
    × ((bytes text : List ℕ) × RunSoFar l.machine bytes text
    × Consumes (g.R.Source.remaining l.fn.reader) (g.R.Source.remaining l.reader) bytes
    × Appends (g.W.Sink.contents l.fn.writer) (g.W.Sink.contents l.writer) text)

abbrev pub decreases-reads : goal.decreases-reads
decreases-reads g l = g.R.Source.bound l.reader
