use Rattle.p3_extension.specs.Conjugates.{inverse_as_list, none_as_list}
use Rattle.p3_extension.proofs.extension.frobenius.ExtField+F+D+S+F.exact_inverse.Goals as goal

pub returns-in-Found : goal.returns-in-Found
returns-in-Found g c =
    inverse_as_list g.F.PrimeCharacteristicRing.ops g.F.ExtensionAlgebra.modulus c.args.self.now c.new.result c.inverse_by_formula.new.res c.new.ensures
    (c.inverse_by_formula.ensures.inverse c.in-Found.is)

pub returns-in-NoInverse : goal.returns-in-NoInverse
returns-in-NoInverse g c =
    none_as_list g.F.PrimeCharacteristicRing.ops g.F.ExtensionAlgebra.modulus c.args.self.now (c.inverse_by_formula.ensures.none c.in-NoInverse.is)
