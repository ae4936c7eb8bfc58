-- How the words of the residue types stand for their values.
use Rattle.std.specs.Prelude.{◌≡◌, ◌<◌, ◌%◌}
use Rattle.std.proofs.Common.{ap, sym, ◌∙◌}
use Rattle.std.proofs.Math.Nat.{mod-eq_of_lt}
use Rattle.p3_prime_fields.specs.declared.fp.Fp.{Fp}
use Rattle.p3_prime_fields.specs.declared.form.Form as forms
use Rattle.p3_prime_fields.specs.declared.form.Word as numbers
use Rattle.p3_prime_fields.specs.Elements.{canon, of, is, same_word}
use Rattle.p3_c_words.specs.Words.{Words}

module _ {W T : Type 0} (form : forms.Ghosts W T) where
  -- the word of the residue that a word stands for is that word
  pub word_again : (w : T) → form.number w < form.ORDER → form.word (form.canon w % form.ORDER) ≡ w
  word_again w h = ap form.word (mod-eq_of_lt (form.is_form.canon_below w h)) ∙ form.is_form.word_canon w h

  -- the value that a word stands for
  abbrev pub value_of : {bounds : numbers.Ghosts T} → T → Fp W T form bounds
  value_of w = of form (form.canon w)

  -- a value with that word
  pub with_word : {bounds : numbers.Ghosts T} (x : Fp W T form bounds) (w : T) → form.number w < form.ORDER → x.word ≡ w → x ≡ value_of w
  with_word x w h e = same_word form x (value_of w) (e ∙ sym (word_again w h))

-- the stored word stands for the value
abbrev pub stored_words : {W T : Type 0} {form : forms.Ghosts W T} {bounds : numbers.Ghosts T} → Words T (Fp W T form bounds)
stored_words {form = form} = record {
  order = form.ORDER;
  number = form.number;
  canon = canon form;
  value = value_of form;
  word = λ x. x.word;
  below = λ x. x.below;
  word_value = word_again form;
  value_word = λ x. (is form).of_canon x;
}
