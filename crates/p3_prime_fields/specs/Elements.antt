-- The values of a prime field, in words of any type, as residues.
use Rattle.std.specs.Prelude.{◌≡◌, ◌<◌, ◌%◌, ◌==◌, ℕ, Bool, true, false, refl}
use Rattle.std.specs.Ordering.{on}
use Rattle.std.proofs.Common.{ap, ◌∙◌, sym, subst}
use Rattle.std.proofs.lemmas.Bool.Decides.{Decides-eqb}
use Rattle.std.proofs.Math.Nat.{mod-eq_of_lt}
use Rattle.std.proofs.Math.Bridge.{le_prop}
use Rattle.p3_theory.specs.Rings.Ring.{Ops}
use Rattle.p3_theory.specs.ResidueRings.Residues.{IsResidues, residue_ops, same_canon}
use Rattle.p3_residues.specs.Forms.{remainder_below}
use Rattle.p3_prime_fields.specs.declared.fp.Fp.{Fp}
use Rattle.p3_prime_fields.specs.declared.form.Form as forms
use Rattle.p3_prime_fields.specs.declared.form.Word as words

-- tests that hold in the same cases are one
same_tests : (a b : Bool) → (a ≡ true → b ≡ true) → (b ≡ true → a ≡ true) → a ≡ b
same_tests true b h k = sym (h refl)
same_tests false true h k = k refl
same_tests false false h k = refl

module _ {W T : Type 0} (form : forms.Ghosts W T) {bounds : words.Ghosts T} where
  -- the canonical value
  abbrev pub canon : Fp W T form bounds → ℕ
  canon x = form.canon x.word

  -- the value of a number's residue
  abbrev pub of : ℕ → Fp W T form bounds
  of n = record { word = form.word (n % form.ORDER); of = record {}; below = form.is_form.word_below (n % form.ORDER) (remainder_below form.ORDER n form.is_form.above_one) }

  -- the operations of residues
  abbrev pub ops : Ops (Fp W T form bounds)
  ops = residue_ops form.ORDER canon of

  -- the word settles the value
  pub same_word : (x y : Fp W T form bounds) → x.word ≡ y.word → x ≡ y
  same_word x y e =
      let by : (w : T) → form.number w < form.ORDER → Fp W T form bounds = λ w h. record { word = w; of = record {}; below = h } in
      (subst (λ (v : T). (k : form.number v < form.ORDER) → by x.word x.below ≡ by v k) e (λ k. ap (by x.word) (le_prop x.below k))) y.below

  -- the values are the residues of the order
  pub is : IsResidues form.ORDER canon of
  is = record {
    above_one = form.is_form.above_one;
    canon_of = λ n. form.is_form.canon_word (n % form.ORDER) (remainder_below form.ORDER n form.is_form.above_one);
    of_canon = λ x. same_word _ _ (ap form.word (mod-eq_of_lt (form.is_form.canon_below x.word x.below)) ∙ form.is_form.word_canon x.word x.below);
  }

  -- the words of two values are one number exactly where their canonical values are
  pub same_words : (x y : Fp W T form bounds) → (bounds.number x.word == bounds.number y.word) ≡ on canon ◌==◌ x y
  same_words x y =
      let words = Decides-eqb (bounds.number x.word) (bounds.number y.word) in
      let residues = Decides-eqb (canon x) (canon y) in
      same_tests _ _ (λ h. residues.1 (ap form.canon (bounds.same_number x.word y.word (words.0 h))))
      (λ h. words.1 (ap (λ z. bounds.number z.word) (same_canon is x y (residues.0 h))))

-- the word of a value as a number
abbrev pub word_number : {W : Type 0} {form : forms.Ghosts W ℕ} {bounds : words.Ghosts ℕ} → Fp W ℕ form bounds → ℕ
word_number x = x.word
