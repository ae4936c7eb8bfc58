use Rattle.std.proofs.Common.{◌≡◌, length, arith, refl, sym, ap, ◌∙◌, rules}
use Rattle.std.specs.Iterator.{size}
use Rattle.p3_theory.specs.Polynomials.Coefficients.{length-tabulate}
use Rattle.p3_extension_traits.specs.Streams.{row_bytes, left_of}
use Rattle.p3_extension_traits.specs.StreamLemmas.{one_more_block}
use Rattle.p3_extension_traits.specs.DrawnItems.{drawn_none, drawn_next, draws_some, draws_none}
use Rattle.p3_packing_traits.proofs.parallel_streams.ParallelByteStreamsIterator.next.Goals as goal

pub loop-bytes-init : goal.loop-bytes-init
loop-bytes-init g c =
    let f = g.F.RawDataSerializable in
    let parts = row_bytes f.bytes f.NUM_BYTES in
    let held = left_of parts c.args.self.now.row c.args.self.now.at in
    record {
      ready = search rules;
      finite = search rules;
      nearer = omega arith;
      drawn = drawn_none g.I.Iterator.next_gives parts _ held (λ rest. held ≡ rest) refl;
    }

pub returns-in-Some-clause-steps : goal.returns-in-Some-clause-steps
returns-in-Some-clause-steps g c =
    let f = g.F.RawDataSerializable in
    let parts = row_bytes f.bytes f.NUM_BYTES in
    let held = left_of parts c.loop-bytes.self.row c.loop-bytes.self.at in
    let later = left_of parts c.loop-bytes.self.row c.next_of_row.new.at in
    draws_some g.I.Iterator.next_gives parts _ _ _ _ (λ rest. held ≡ rest) (λ rest. later ≡ rest) c.loop-bytes.invariant.drawn (λ all e. (later, sym e ∙ c.in-Some.ensures.next, refl))

pub returns-in_default-next-clause-steps : goal.returns-in_default-next-clause-steps
returns-in_default-next-clause-steps g c =
    let f = g.F.RawDataSerializable in
    let parts = row_bytes f.bytes f.NUM_BYTES in
    let row = c.loop-bytes.self.row in
    let held = left_of parts row c.loop-bytes.self.at in
    let later = left_of parts row c.next_of_row.new.at in
    draws_none g.I.Iterator.next_gives parts _ _ _ _ (λ rest. held ≡ rest) (λ rest. later ≡ rest) c.loop-bytes.invariant.drawn (λ all e. sym e ∙ c.in_default.ensures.next)
    c.in_default-next.ensures.steps (ap (left_of parts row) c.in_default.ensures.stays ∙ c.in_default.ensures.next)

pub loop-bytes-preserved : goal.loop-bytes-preserved
loop-bytes-preserved g c =
    let f = g.F.RawDataSerializable in
    let parts = row_bytes f.bytes f.NUM_BYTES in
    let left = g.I.Iterator.remaining in
    let held = left_of parts c.loop-bytes.self.row c.loop-bytes.self.at in
    let later = c.in-Some-next.ensures.goes.on c.loop-bytes.invariant.finite in
    let long : length (parts c.in-Some-next.row) ≡ f.NUM_BYTES = length-tabulate f.NUM_BYTES _ in
    record {
      ready = later.0;
      finite = later.1;
      nearer = omega (arith, one_more_block f.NUM_BYTES (size (left c.next.new.self)) (size (left c.loop-bytes.self.source)) later.2, long, c.loop-bytes.invariant.nearer);
      drawn = drawn_next g.I.Iterator.next_gives parts _ _ _ _ _ (λ rest. held ≡ rest) (λ rest. parts c.in-Some-next.row ≡ rest) c.loop-bytes.invariant.drawn
          (λ all e. sym e ∙ c.in_default.ensures.next) c.in-Some-next.ensures.steps refl;
    }
