use Rattle.std.proofs.Common.{◌≡◌, ◌++◌, ℕ, List, Bool, drop}
use Rattle.std.specs.Fmt.{HasWritten, IsPlainFormatter}
use Rattle.p3_theory.specs.Polynomials.Text.{terms_text, polynomial_text}
use Rattle.p3_extension.proofs.extension.display.ExtFieldDisplay.fmt.Given as goal

abbrev pub invariant-loop-i : goal.invariant-loop-i
invariant-loop-i g l =
    let o = g.F.PrimeCharacteristicRing.ops in
    let is_zero : g.row.F.Denot → Bool = λ c. g.F.PartialEq.eq c o.zero in
    let is_one : g.row.F.Denot → Bool = λ c. g.F.PartialEq.eq c o.one in
    (text : List ℕ)
    × (IsPlainFormatter l.initial.f → HasWritten g.W.Write.write_str_gives l.initial.f text l.f)
    × (text ++ terms_text is_zero is_one g.F.Field.text l.begun l.i (drop l.i l.self.value) ≡ polynomial_text is_zero is_one g.F.Field.text l.self.value)
