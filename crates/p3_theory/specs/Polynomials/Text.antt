-- The text of a polynomial: its nonzero terms from the constant one upward, joined by " + ", and "0" where there is none.
use Rattle.std.specs.Prelude.{ℕ, ◌+◌, ◌==◌, if◌then◌else◌, List, [], ◌∷◌, ◌++◌, Bool, true, false, codes, decimal}

-- X to the power i, for i from 1 on
abbrev pub power_text : ℕ → List ℕ
power_text i = if i == 1 then codes "X" else codes "X^" ++ decimal i

-- the term of a coefficient at X^i, by the coefficient's own text; one is left out before X
abbrev pub term_text : ℕ → Bool → List ℕ → List ℕ
term_text i is_one own = if i == 0 then own else (if is_one then power_text i else own ++ 32 ∷ power_text i)

-- a term with what joins it to those before it
abbrev pub next_text : Bool → ℕ → Bool → List ℕ → List ℕ
next_text begun i is_one own = (if begun then codes " + " else []) ++ term_text i is_one own

module _ {A : Type 0} (is_zero is_one : A → Bool) (own : A → List ℕ) where
  -- the terms of coefficients from X^i upward, where some came before or none did
  abbrev pub terms_text : Bool → ℕ → List A → List ℕ
  terms_text begun i [] = if begun then [] else codes "0"
  terms_text begun i (c ∷ cs) =
      if is_zero c then terms_text begun (i + 1) cs else next_text begun i (is_one c) (own c) ++ terms_text true (i + 1) cs

  -- the text of a polynomial, as `3 + 11 X`
  abbrev pub polynomial_text : List A → List ℕ
  polynomial_text cs = terms_text false 0 cs
