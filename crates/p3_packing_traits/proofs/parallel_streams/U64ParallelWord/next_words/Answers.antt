use Rattle.p3_packing_traits.proofs.parallel_streams.U64ParallelWord.next_words.Goals as goal

pub returns-in-Some-clause-gathers : goal.returns-in-Some-clause-gathers
returns-in-Some-clause-gathers g c = (c.in-Some.chunk, c.in-Some.ensures.gathers, c.words_by_index.ensures)
