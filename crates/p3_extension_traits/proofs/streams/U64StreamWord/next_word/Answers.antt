use Rattle.std.proofs.Common.{◌≡◌, length, rules, ◌∙◌}
use Rattle.p3_extension_traits.specs.StreamLemmas.{from_bytes}
use Rattle.p3_extension_traits.proofs.streams.U64StreamWord.next_word.Goals as goal

pub returns-in-Some-clause-gathers : goal.returns-in-Some-clause-gathers
returns-in-Some-clause-gathers g c =
    let eight : length c.in-Some.chunk ≡ 8 = search rules in
    (c.in-Some.chunk, c.in-Some.ensures.gathers, c.from_le_bytes.ensures ∙ from_bytes 7 c.in-Some.chunk eight)
