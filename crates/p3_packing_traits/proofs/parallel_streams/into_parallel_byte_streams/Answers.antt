use Rattle.std.proofs.Common.{[], List, ℕ, ◌*◌, length, sym, subst, refl}
use Rattle.std.specs.Prelude.{◌≡◌}
use Rattle.std.specs.List.{flat_map}
use Rattle.p3_extension_traits.specs.Streams.{row_bytes, left_of, AreParallel, byte_stream, column}
use Rattle.p3_packing_traits.specs.ParallelStreams.{parallel_bytes}
use Rattle.p3_extension_traits.specs.DrawnItems.{draws_held, YieldsExactly-drawn, Drains-drawn}
use Rattle.p3_packing_traits.proofs.parallel_streams.into_parallel_byte_streams.Goals as goal

pub returns-clause-all : goal.returns-clause-all
returns-clause-all g c = λ rows y w.
    let f = g.F.RawDataSerializable in
    let parts = row_bytes f.bytes f.NUM_BYTES in (
      flat_map parts rows,
      YieldsExactly-drawn g.I.Iterator.next_gives parts _ (λ s. s.source) (λ s held. left_of parts s.row s.at ≡ held)
          (λ s t r h. draws_held g.I.Iterator.next_gives parts s.source t.source (left_of parts s.row s.at) (left_of parts t.row t.at) r h) rows _ [] refl y,
      parallel_bytes f.bytes f.NUM_BYTES g.met.F.RawDataSerializable.num_bytes g.row.N rows w,
    )

pub returns-clause-drawn : goal.returns-clause-drawn
returns-clause-drawn g c = record {
  runs = λ items d.
      let f = g.F.RawDataSerializable in
      let parts = row_bytes f.bytes f.NUM_BYTES in
      let rows = Drains-drawn g.I.Iterator.next_gives parts _ (λ s. s.source) (λ s held. left_of parts s.row s.at ≡ held)
      (λ s t r h. draws_held g.I.Iterator.next_gives parts s.source t.source (left_of parts s.row s.at) (left_of parts t.row t.at) r h) items _ [] refl d in (
        rows.0,
        rows.1,
        λ w.
            let P : List (List ℕ) → Type 0 = AreParallel g.row.N (f.NUM_BYTES * length rows.0) (λ j. byte_stream f.bytes (column j rows.0)) in
            subst P (sym rows.2) (parallel_bytes f.bytes f.NUM_BYTES g.met.F.RawDataSerializable.num_bytes g.row.N rows.0 w),
      );
}
