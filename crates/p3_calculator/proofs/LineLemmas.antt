-- Bytes cut into lines.
use Rattle.std.proofs.Common.{◌≡◌, ◌∙◌, ℕ, ◌≤◌, cond, List, [], ◌∷◌, ◌++◌, length, refl, sym, ap, arith, append_assoc}
use Rattle.std.proofs.lemmas.Bool.{ne_eqb}
use Rattle.std.specs.List.{flat_map}
use Rattle.p3_calculator_text.specs.Lines.{lines_of, onto_first}
use Rattle.p3_calculator.specs.RunSoFar.{HasNoEnd, HaveNoEnd, ended}

-- a byte that ends no line goes onto the first
pub lines_of-letter : (b : ℕ) (bytes : List ℕ) → (b ≡ 10 → ⊥) → lines_of (b ∷ bytes) ≡ onto_first b (lines_of bytes)
lines_of-letter b bytes h = ap (λ t. cond t ([] ∷ lines_of bytes) (onto_first b (lines_of bytes))) (ne_eqb b 10 h)

pub lines_of-line : (line bytes : List ℕ) → HasNoEnd line → lines_of (line ++ 10 ∷ bytes) ≡ line ∷ lines_of bytes
lines_of-line [] bytes h = refl
lines_of-line (b ∷ line) bytes h = lines_of-letter b (line ++ 10 ∷ bytes) h.0 ∙ ap (onto_first b) (lines_of-line line bytes h.1)

pub lines_of-lines : (lines : List (List ℕ)) (bytes : List ℕ) → HaveNoEnd lines → lines_of (flat_map ended lines ++ bytes) ≡ lines ++ lines_of bytes
lines_of-lines [] bytes h = refl
lines_of-lines (line ∷ lines) bytes h =
    ap lines_of (append_assoc (ended line) (flat_map ended lines) bytes ∙ append_assoc line (10 ∷ []) (flat_map ended lines ++ bytes))
    ∙ lines_of-line line (flat_map ended lines ++ bytes) h.0 ∙ ap (λ ls. line ∷ ls) (lines_of-lines lines bytes h.1)

-- a rest that isn't empty is a line
pub lines_of-rest : (b : ℕ) (rest : List ℕ) → HasNoEnd (b ∷ rest) → lines_of (b ∷ rest) ≡ (b ∷ rest) ∷ []
lines_of-rest b [] h = lines_of-letter b [] h.0
lines_of-rest b (c ∷ rest) h = lines_of-letter b (c ∷ rest) h.0 ∙ ap (onto_first b) (lines_of-rest c rest h.1)

onto_some : (b : ℕ) (lines : List (List ℕ)) → (first : List ℕ) × (others : List (List ℕ)) × (onto_first b lines ≡ first ∷ others) × (1 ≤ length first)
onto_some b [] = (b ∷ [], [], refl, omega arith)
onto_some b (line ∷ lines) = (b ∷ line, lines, refl, omega arith)

-- what has begun a line is the beginning of a line, whatever follows
pub begun : (b : ℕ) (rest more : List ℕ) → HasNoEnd (b ∷ rest) → (line : List ℕ) × (lines : List (List ℕ)) × (lines_of (b ∷ rest ++ more) ≡ line ∷ lines) × (length (b ∷ rest) ≤ length line)
begun b [] more h = let o = onto_some b (lines_of more) in (o.0, o.1, lines_of-letter b more h.0 ∙ o.2, o.3)
begun b (c ∷ rest) more h =
    let o = begun c rest more h.1 in
    (b ∷ o.0, o.1, lines_of-letter b (c ∷ rest ++ more) h.0 ∙ ap (onto_first b) o.2, omega (arith, o.3))

pub HasNoEnd-append : (a b : List ℕ) → HasNoEnd a → HasNoEnd b → HasNoEnd (a ++ b)
HasNoEnd-append [] b p q = q
HasNoEnd-append (x ∷ a) b p q = (p.0, HasNoEnd-append a b p.1 q)

pub HaveNoEnd-append : (a b : List (List ℕ)) → HaveNoEnd a → HaveNoEnd b → HaveNoEnd (a ++ b)
HaveNoEnd-append [] b p q = q
HaveNoEnd-append (x ∷ a) b p q = (p.0, HaveNoEnd-append a b p.1 q)

pub flat_map-append : (a b : List (List ℕ)) → flat_map ended (a ++ b) ≡ flat_map ended a ++ flat_map ended b
flat_map-append [] b = refl
flat_map-append (x ∷ a) b = ap (λ l. ended x ++ l) (flat_map-append a b) ∙ sym (append_assoc (ended x) (flat_map ended a) (flat_map ended b))
