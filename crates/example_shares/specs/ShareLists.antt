-- The points of shares, and their values.
use Rattle.std.specs.Prelude.{List, map}
use Rattle.example_shares.specs.declared.shares.Share.{Share}

-- the points of the shares
abbrev pub points : {F : Type 0} → List (Share F) → List F
points shares = map (λ s. s.point) shares

-- the values of the shares
abbrev pub values : {F : Type 0} → List (Share F) → List F
values shares = map (λ s. s.value) shares
