use Rattle.std.proofs.Common.{◌≡◌, length}
use Rattle.p3_theory.specs.FrobeniusMaps.TableImages.{coefficient_of_image}
use Rattle.p3_theory.specs.Lists.TabulatedEntries.{HoldsBelow}
use Rattle.p3_extension_formulas.proofs.power_table.image_by_table.Given as goal

abbrev pub invariant-loop-k : goal.invariant-loop-k
invariant-loop-k g l =
    let o = g.F.PrimeCharacteristicRing.ops in
    (length l.res ≡ g.row.D) × HoldsBelow (coefficient_of_image o g.row.D g.T.PowerTable.powers l.fn.a) o.zero l.res l.k
