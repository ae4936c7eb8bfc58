use Rattle.p3_extension_traits.specs.StreamLemmas.{wrote_group}
use Rattle.p3_extension_traits.proofs.array_chunks.next_chunk_padded.Goals as goal

pub returns-clause-gathers : goal.returns-clause-gathers
returns-clause-gathers g c =
    rw c.if-is_over.false (wrote_group g.I.Iterator.next_gives g.row.N _ _ _ _ _ c.if-filled-eq0.false c.take_up_to-filled.ensures.taken)
