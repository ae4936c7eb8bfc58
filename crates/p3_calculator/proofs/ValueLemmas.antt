-- Coefficients, read from the front.
use Rattle.std.proofs.Common.{◌≡◌, ◌∙◌, ℕ, ◌+◌, ◌-◌, ◌<◌, ◌≤◌, zero, suc, List, [], ◌∷◌, ◌++◌, length, take, sym, ap, refl, arith, append_assoc, append-nil, Option, Some, None, set, add-one}
use Rattle.std.proofs.lemmas.List.{take_all}
use Rattle.p3_calculator.specs.Effects.{numbers_below, onto}
use Rattle.p3_calculator_text.specs.Words.{number}

-- coefficients in front of those that are still to be read
abbrev pub prefixed : List ℕ → Option (List ℕ) → Option (List ℕ)
prefixed pre None = None
prefixed pre (Some cs) = Some (pre ++ cs)

onto-next : (pre : List ℕ) (c : ℕ) (t : Option (List ℕ)) → prefixed pre (onto (Some c) t) ≡ prefixed (pre ++ c ∷ []) t
onto-next pre c None = refl
onto-next pre c (Some cs) = ap Some (sym (append_assoc pre (c ∷ []) cs))

take-set : (l : List ℕ) (i c : ℕ) → i < length l → take (suc i) (set l i c) ≡ take i l ++ c ∷ []
take-set [] i c h = absurd (omega arith)
take-set (x ∷ l) zero c h = refl
take-set (x ∷ l) (suc i) c h = ap (λ t. x ∷ t) (take-set l i c (omega arith))

-- a number is read into index i
prefixed-more : (n : ℕ) (l m : List ℕ) (i c : ℕ) (w : List ℕ) (ws : List (List ℕ)) → i < length l → number (n - 1) w ≡ Some c → m ≡ set l i c
    → prefixed (take (i + 1) m) (numbers_below n ws) ≡ prefixed (take i l) (numbers_below n (w ∷ ws))
prefixed-more n l m i c w ws h e s =
    ap (λ k. prefixed (take (i + 1) k) (numbers_below n ws)) s
    ∙ ap (λ t. prefixed t (numbers_below n ws)) (ap (λ j. take j (set l i c)) (add-one i) ∙ take-set l i c h) ∙ sym (onto-next (take i l) c (numbers_below n ws)) ∙ sym (ap (λ o. prefixed (take i l) (onto o (numbers_below n ws))) e)

pub value_more : (n b : ℕ) (l m : List ℕ) (i c : ℕ) (w : List ℕ) (rest ws : List (List ℕ)) (all : Option (List ℕ)) → b ≡ n → rest ≡ w ∷ ws → i < length l → Some c ≡ number (b - 1) w → m ≡ set l i c
    → prefixed (take i l) (numbers_below n rest) ≡ all → prefixed (take (i + 1) m) (numbers_below n ws) ≡ all
value_more n b l m i c w rest ws all order split h read s so_far =
    prefixed-more n l m i c w ws h (ap (λ k. number (k - 1) w) (sym order) ∙ sym read) s
    ∙ ap (λ t. prefixed (take i l) (numbers_below n t)) (sym split) ∙ so_far

-- every number was read
pub prefixed-end : (n : ℕ) (l : List ℕ) (i : ℕ) (ws : List (List ℕ)) → length ws ≡ 0 → length l ≤ i → prefixed (take i l) (numbers_below n ws) ≡ Some l
prefixed-end n l i [] e h = ap Some (append-nil (take i l) ∙ take_all i l h)
prefixed-end n l i (w ∷ ws) e h = absurd (omega (arith, e))
