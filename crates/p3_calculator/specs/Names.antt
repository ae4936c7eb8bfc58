-- The fields that have a name, by their numbers: a row a name.
use Rattle.std.specs.Prelude.{ℕ, List, [], ◌∷◌, Option, codes}
use Rattle.p3_calculator.specs.Fields.{FieldSpec, ResiduesModulo, PolynomialsModulo}
use Rattle.p3_calculator_text.specs.Tables.{lookup}

-- residues, and extensions of degree 2, of degree 3 and 4, and of degree 5 and more
abbrev pub named_fields : List (List ℕ × FieldSpec)
named_fields =
    (codes "f2", ResiduesModulo 2 1)
    ∷ (codes "f17", ResiduesModulo 17 3)
    ∷ (codes "f17b", ResiduesModulo 17 3)
    ∷ (codes "f31", ResiduesModulo 31 3)
    ∷ (codes "z15", ResiduesModulo 15 2)
    ∷ (codes "bb", ResiduesModulo 2013265921 31)
    ∷ (codes "kb", ResiduesModulo 2130706433 3)
    ∷ (codes "gl", ResiduesModulo 18446744069414584321 7)
    ∷ (codes "f17x2", PolynomialsModulo 17 2 (14 ∷ 0 ∷ 1 ∷ []) (1 ∷ 2 ∷ []))
    ∷ (codes "f17bx2", PolynomialsModulo 17 2 (13 ∷ 0 ∷ 1 ∷ []) (0 ∷ 1 ∷ []))
    ∷ (codes "z15x2", PolynomialsModulo 15 2 (13 ∷ 0 ∷ 1 ∷ []) (0 ∷ 1 ∷ []))
    ∷ (codes "f31c", PolynomialsModulo 31 2 (1 ∷ 0 ∷ 1 ∷ []) (3 ∷ 2 ∷ []))
    ∷ (codes "f31x3", PolynomialsModulo 31 3 (28 ∷ 0 ∷ 0 ∷ 1 ∷ []) (0 ∷ 1 ∷ 0 ∷ []))
    ∷ (codes "f31t3", PolynomialsModulo 31 3 (30 ∷ 30 ∷ 0 ∷ 1 ∷ []) (3 ∷ 0 ∷ 0 ∷ []))
    ∷ (codes "f17x4", PolynomialsModulo 17 4 (14 ∷ 0 ∷ 0 ∷ 0 ∷ 1 ∷ []) (0 ∷ 1 ∷ 0 ∷ 0 ∷ []))
    ∷ (codes "bbx4", PolynomialsModulo 2013265921 4 (2013265890 ∷ 0 ∷ 0 ∷ 0 ∷ 1 ∷ []) (0 ∷ 1 ∷ 0 ∷ 0 ∷ []))
    ∷ (codes "f31x5", PolynomialsModulo 31 5 (28 ∷ 0 ∷ 0 ∷ 0 ∷ 0 ∷ 1 ∷ []) (0 ∷ 1 ∷ 0 ∷ 0 ∷ 0 ∷ []))
    ∷ (codes "f17t5", PolynomialsModulo 17 5 (16 ∷ 0 ∷ 1 ∷ 0 ∷ 0 ∷ 1 ∷ []) (3 ∷ 0 ∷ 0 ∷ 0 ∷ 0 ∷ []))
    ∷ (codes "f2t5", PolynomialsModulo 2 5 (1 ∷ 0 ∷ 1 ∷ 0 ∷ 0 ∷ 1 ∷ []) (0 ∷ 1 ∷ 0 ∷ 0 ∷ 0 ∷ []))
    ∷ (codes "f31x6", PolynomialsModulo 31 6 (28 ∷ 0 ∷ 0 ∷ 0 ∷ 0 ∷ 0 ∷ 1 ∷ []) (1 ∷ 0 ∷ 0 ∷ 1 ∷ 0 ∷ 0 ∷ []))
    ∷ (codes "f17x8", PolynomialsModulo 17 8 (14 ∷ 0 ∷ 0 ∷ 0 ∷ 0 ∷ 0 ∷ 0 ∷ 0 ∷ 1 ∷ []) (0 ∷ 1 ∷ 0 ∷ 0 ∷ 0 ∷ 0 ∷ 0 ∷ 0 ∷ []))
    ∷ (codes "f2t7", PolynomialsModulo 2 7 (1 ∷ 1 ∷ 0 ∷ 0 ∷ 0 ∷ 0 ∷ 0 ∷ 1 ∷ []) (0 ∷ 1 ∷ 0 ∷ 0 ∷ 0 ∷ 0 ∷ 0 ∷ []))
    ∷ []

-- a field by its name
abbrev pub field_named : List ℕ → Option FieldSpec
field_named name = lookup named_fields name
