use Rattle.std.proofs.Common.{◌≤◌, ◌*◌, arith, ap}
use Rattle.std.specs.Iterator.{size}
use Rattle.std.proofs.lemmas.Nat.{mul-le}
use Rattle.p3_packing_traits.proofs.parallel_streams.ParallelByteStreamsIterator.size_hint.Goals as goal

pub returns-clause-lower : goal.returns-clause-lower
returns-clause-lower g c = λ ends.
    let width = g.F.RawDataSerializable.NUM_BYTES in
    let rows = c.size_hint.result.0 in
    let later : width * rows ≤ width * size (g.I.Iterator.remaining c.args.self.now.source) = mul-le width rows width _ (omega arith) (c.size_hint.ensures.lower ends) in
    omega (arith, c.bytes_hint.ensures.lower, c.left_in_row-left.ensures, ap (λ m. m * rows) c.NUM_BYTES.ensures, later)
