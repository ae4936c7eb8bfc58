use Rattle.std.proofs.Common.{map, replicate, arith, refl}
use Rattle.p3_extension_traits.specs.Streams.{groups, row_words}
use Rattle.p3_extension_traits.specs.StreamLemmas.{YieldsExactly-groups, YieldsExactly-read}
use Rattle.p3_extension_traits.specs.DrawnItems.{DrawnFrom-groups}
use Rattle.p3_packing_traits.specs.ParallelStreams.{parallel_words}
use Rattle.p3_packing_traits.proofs.parallel_streams.into_parallel_u32_streams.Goals as goal

pub returns-clause-all : goal.returns-clause-all
returns-clause-all g c = λ rows y w.
    let n = g.row.N in
    let bytes = c.into_parallel_byte_streams.ensures.all rows y w in (
      map (row_words n) (groups 4 (replicate n 0) bytes.0),
      YieldsExactly-read (row_words n) _ _ (λ s. s) (λ s t r h. h) _ _
          (YieldsExactly-groups _ _ 4 (replicate n 0) (λ s. s.is_over) (λ s. s.source) (λ s t r h. h) bytes.0 _ (omega arith) refl bytes.1),
      parallel_words n 4 _ _ bytes.0 bytes.2,
    )

pub returns-clause-drawn : goal.returns-clause-drawn
returns-clause-drawn g c =
    let n = g.row.N in
    DrawnFrom-groups (row_words n) 4 (replicate n 0) (λ s. s.is_over) (λ s. s.source) (λ s t r h. h) (omega arith) refl (λ items rows p w. parallel_words n 4 _ _ items (p w))
    c.into_parallel_byte_streams.ensures.drawn
