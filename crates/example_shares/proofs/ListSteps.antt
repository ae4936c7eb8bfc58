-- One item more of a list of the terms of a sequence.
use Rattle.std.proofs.Common.{◌≡◌, ◌+◌, ℕ, zero, suc, List, [], ◌∷◌, ◌++◌, refl, ap, sym, ◌∙◌, add-one}
use Rattle.p3_theory.specs.Polynomials.Polynomial.{tabulate}

tabulate-last : {A : Type 0} (n : ℕ) (s : ℕ → A) → tabulate (suc n) s ≡ tabulate n s ++ (s n ∷ [])
tabulate-last zero s = refl
tabulate-last (suc n) s = ap (λ l. s zero ∷ l) (tabulate-last n (λ k. s (suc k)))

-- a list of terms and the next term
pub tabulate-more : {A : Type 0} (n : ℕ) (s : ℕ → A) (xs : List A) (x : A) → xs ≡ tabulate n s → x ≡ s n → xs ++ (x ∷ []) ≡ tabulate (n + 1) s
tabulate-more n s xs x e h =
    ap (λ l. l ++ (x ∷ [])) e ∙ ap (λ y. tabulate n s ++ (y ∷ [])) h ∙ sym (tabulate-last n s) ∙ sym (ap (λ k. tabulate k s) (add-one n))
