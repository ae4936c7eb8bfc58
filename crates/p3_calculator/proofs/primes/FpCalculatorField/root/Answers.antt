use Rattle.std.proofs.Common.{arith}
use Rattle.p3_prime_fields.specs.Elements.{of}
use Rattle.p3_calculator.proofs.RootSearches.{residues_searched}
use Rattle.p3_calculator.proofs.primes.FpCalculatorField.root.Goals as goal

pub returns : goal.returns
returns g c =
    let form = g.W.Form in
    residues_searched _ form.ORDER form.is_form.above_one (omega (arith, form.is_form.fits)) (of form form.GENERATOR) c.args.self _ c.tonelli_shanks.ensures.root c.tonelli_shanks.ensures.counted
