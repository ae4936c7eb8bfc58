-- The remainder modulo X^5 + X^2 - 1 of a polynomial of degree 8.
use Rattle.std.specs.Prelude.{List, [], ◌∷◌}
use Rattle.p3_theory.specs.Rings.Ring.{Ops, subtract}

-- nine coefficients of a product modulo X^5 + X^2 - 1
abbrev pub quintic_reduced : {A : Type 0} → Ops A → A → A → A → A → A → A → A → A → A → List A
quintic_reduced o c0 c1 c2 c3 c4 c5 c6 c7 c8 =
    o.add c0 (subtract o c5 c8) ∷ o.add c1 c6 ∷ o.add (subtract o c2 (subtract o c5 c8)) c7 ∷ o.add (subtract o c3 c6) c8 ∷ subtract o c4 c7 ∷ []
