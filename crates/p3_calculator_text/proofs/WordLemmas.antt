-- A word at the front of some bytes.
use Rattle.std.proofs.Common.{◌≡◌, ◌≢◌, ◌∙◌, ℕ, ◌+◌, ◌-◌, ◌<◌, ◌≤◌, zero, suc, cond, eqb, List, [], ◌∷◌, length, take, drop, get_or, sym, ap, subst, inl, inr, arith}
use Rattle.std.proofs.lemmas.Bool.{ne_eqb, cases_lt}
use Rattle.std.proofs.lemmas.List.{take_all, get_or-drop, length-drop, drop-drop}
use Rattle.p3_calculator_text.specs.Lines.{words, letter_onto, onto_first}

words-letter : (b : ℕ) (bytes : List ℕ) → (b ≡ 32 → ⊥) → words (b ∷ bytes) ≡ letter_onto b bytes (words bytes)
words-letter b bytes h = ap (λ t. cond t (words bytes) (letter_onto b bytes (words bytes))) (ne_eqb b 32 h)

-- a word ends at a space or with the bytes
front : (b : ℕ) (bytes : List ℕ) (n : ℕ) → n ≤ length bytes → (b ≡ 32 → ⊥) → ((k : ℕ) → k < n → get_or bytes k 0 ≢ 32) → (n < length bytes → get_or bytes n 0 ≡ 32) → words (b ∷ bytes) ≡ (b ∷ take n bytes) ∷ words (drop n bytes)
front b [] n l h each end = let none : n ≡ 0 = omega arith in words-letter b [] h ∙ ap (λ (m : ℕ). (b ∷ take m []) ∷ words (drop m [])) (sym none)
front b (c ∷ bytes) zero l h each end = words-letter b (c ∷ bytes) h ∙ ap (λ t. cond t ((b ∷ []) ∷ words (c ∷ bytes)) (onto_first b (words (c ∷ bytes)))) (ap (λ x. eqb x 32) (end (omega arith)))
front b (c ∷ bytes) (suc n) l h each end =
    words-letter b (c ∷ bytes) h ∙ ap (λ t. cond t ((b ∷ []) ∷ words (c ∷ bytes)) (onto_first b (words (c ∷ bytes)))) (ne_eqb c 32 (each 0 (omega arith)))
    ∙ ap (onto_first b) (front c bytes n (omega arith) (each 0 (omega arith)) (λ k g. each (suc k) (omega arith)) (λ g. end (omega arith)))

at_front : (bytes : List ℕ) (n : ℕ) → 0 < n → n ≤ length bytes → ((k : ℕ) → k < n → get_or bytes k 0 ≢ 32) → (n < length bytes → get_or bytes n 0 ≡ 32) → words bytes ≡ take n bytes ∷ words (drop n bytes)
at_front [] n p l each end = absurd (omega arith)
at_front (b ∷ bytes) zero p l each end = absurd (omega arith)
at_front (b ∷ bytes) (suc n) p l each end = front b bytes n (omega arith) (each 0 (omega arith)) (λ k g. each (suc k) (omega arith)) (λ g. end (omega arith))

pub first_word : (line : List ℕ) (start end : ℕ) → start < end → end ≤ length line → ((k : ℕ) → start ≤ k → k < end → get_or line k 0 ≢ 32) → (end < length line → get_or line end 0 ≡ 32)
    → words (drop start line) ≡ take (end - start) (drop start line) ∷ words (take (length line - end) (drop end line))
first_word line start end s l each last =
    let rest = drop start line in
    let n = end - start in
    let len = length-drop start line in
    let whole : start + n ≡ end = omega arith in
    let same : words (drop n rest) ≡ words (take (length line - end) (drop end line)) =
    ap words (drop-drop n start line ∙ ap (λ (m : ℕ). drop m line) whole ∙ sym (take_all (length line - end) (drop end line) (omega (arith, length-drop end line)))) in
    let word = at_front rest n (omega arith) (omega arith)
    (λ k g. subst (λ (x : ℕ). x ≢ 32) (sym (get_or-drop start line k 0)) (each (start + k) (omega arith) (omega arith)))
    (λ g. get_or-drop start line n 0 ∙ ap (λ (m : ℕ). get_or line m 0) whole ∙ last (omega arith)) in
    word ∙ ap (λ (l : List (List ℕ)). take n rest ∷ l) same

pub apart : (line : List ℕ) (start end : ℕ) → start < length line → start ≤ end → (end < length line → get_or line end 0 ≡ 32) → (get_or line start 0 ≡ 32 → ⊥) → start < end
apart line start end s l last first =
    elim (cases_lt start end) [
      | inl h ↦ h
      | inr h ↦ let e : end ≡ start = omega arith in absurd (first (ap (λ (m : ℕ). get_or line m 0) (sym e) ∙ last (omega arith)))
    ]
