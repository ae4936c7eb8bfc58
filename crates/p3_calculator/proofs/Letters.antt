-- Letters go into the buffer of a line, one after another.
use Rattle.std.proofs.Common.{◌≡◌, ◌∙◌, ℕ, ◌+◌, ◌-◌, ◌<◌, ◌≤◌, List, [], ◌∷◌, ◌++◌, length, take, drop, set, get_or, sym, ap, subst, arith, append_assoc}
use Rattle.std.proofs.lemmas.List.{take_more, take_more_set, length-drop, length-take-le}
use Rattle.p3_calculator.specs.RunSoFar.{HasNoEnd}
use Rattle.p3_calculator.proofs.LineLemmas.{HasNoEnd-append}

-- one more letter stands behind those that were taken
pub one_more : (old line bytes : List ℕ) (used count : ℕ) → used + count < length line → count < length bytes → take (used + count) line ≡ take used old ++ take count bytes
    → take (used + (count + 1)) (set line (used + count) (get_or bytes count 0)) ≡ take used old ++ take (count + 1) bytes
one_more old line bytes used count within some so_far =
    let b = get_or bytes count 0 in
    let at : used + (count + 1) ≡ (used + count) + 1 = omega arith in
    ap (λ n. take n (set line (used + count) b)) at ∙ take_more_set line (used + count) b within
    ∙ ap (λ l. l ++ b ∷ []) so_far ∙ append_assoc (take used old) (take count bytes) (b ∷ [])
    ∙ ap (λ l. take used old ++ l) (sym (take_more bytes count 0 some))

-- and it ends no line
pub no_end : (bytes : List ℕ) (count : ℕ) → count < length bytes → (get_or bytes count 0 ≡ 10 → ⊥) → HasNoEnd (take count bytes) → HasNoEnd (take (count + 1) bytes)
no_end bytes count some letter before =
    subst HasNoEnd (sym (take_more bytes count 0 some)) (HasNoEnd-append (take count bytes) (get_or bytes count 0 ∷ []) before (letter, tt))

-- letters of the bytes that are left are among the bytes
pub still_within : (bytes : List ℕ) (at n : ℕ) → at ≤ length bytes → n ≤ length (take (length bytes - at) (drop at bytes)) → at + n ≤ length bytes
still_within bytes at n within count = omega (arith, within, count, length-drop at bytes, length-take-le (length bytes - at) (drop at bytes) (omega (arith, length-drop at bytes)))
