-- Refusals of a call that are refusals of its caller.
use Rattle.std.specs.Prelude.{⊤}
use Rattle.p3_c_words.specs.Calls.{Refused}
use Rattle.p3_c_words.specs.declared.refusal.Refusal.{Refusal}
use Rattle.p3_c_words.specs.declared.refusal.Refusal.TheVariants.{Length, Word, NoInverse, NoRoot, LogSize, Memory, Step, Radix}

-- where the words were tested before
pub words-tested : {W : Type 0} (I : Type 0) (e : Refusal) → W → Refused ⊤ ⊤ ⊤ I ⊤ e → Refused ⊤ ⊤ W I ⊤ e
words-tested I LogSize w h = h
words-tested I Length w h = h
words-tested I Word w h = absurd (h.2 tt)
words-tested I NoInverse w h = (tt, tt, w, h.3)
words-tested I NoRoot w h = h
words-tested I Memory w h = (tt, tt, w, tt)
words-tested I Step w h = h
words-tested I Radix w h = h
