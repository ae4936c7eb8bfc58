use Rattle.std.specs.Prelude.{refl}
use Rattle.std.proofs.Common.{◌∙◌, ap}
use Rattle.p3_field.specs.Powers.{power}
use Rattle.p3_field.specs.Monomials.{residue_power_undone, inverse_exponents_swap}
use Rattle.example_mersenne31.specs.Elements.{ops, is}
use Rattle.example_mersenne31.specs.declared.words.TheConstants.{P}
use Rattle.example_mersenne31.proofs.streams.Mersenne31PermutationMonomial5.injective_exp_root_n.Goals as goal

pub returns : goal.returns
returns c = λ domain.
    ap (λ z. power ops z 5) c.exp_1717986917.ensures
    ∙ residue_power_undone is domain 1717986917 5 (inverse_exponents_swap P 5 1717986917 (4, refl)) c.args.self.now
