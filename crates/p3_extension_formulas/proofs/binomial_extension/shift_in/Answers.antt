use Rattle.std.proofs.Common.{◌∷◌, length, arith}
use Rattle.p3_extension_formulas.proofs.ProductRows.{taken}
use Rattle.p3_extension_formulas.proofs.binomial_extension.shift_in.Goals as goal

pub returns : goal.returns
returns g c =
    let v = c.loop-i.invariant in
    taken g.A.PrimeCharacteristicRing.ops.zero (length c.args.row.now) c.loop-i.row (c.args.first ∷ c.args.row.now) v.0 (omega arith) (λ k w. v.2.0 k (omega arith))
