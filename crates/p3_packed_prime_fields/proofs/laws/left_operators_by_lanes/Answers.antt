use Rattle.std.proofs.Common.{get_or}
use Rattle.p3_theory.specs.ResidueRings.Residues.{is_of, is_difference}
use Rattle.p3_prime_fields.specs.Elements.{is}
use Rattle.p3_packed_prime_fields.proofs.laws.left_operators_by_lanes.Goals as goal

pub returns-clause-sum : goal.returns-clause-sum
returns-clause-sum g c = λ h d k below. is_of (is g.W.Form) (get_or c.args.r.value k d) _ (h d k below)

pub returns-clause-difference : goal.returns-clause-difference
returns-clause-difference g c = λ h d k below.
    is_difference (is g.W.Form) c.args.value (get_or c.args.x.value k d) (get_or c.args.r.value k d) (h d k below)

pub returns-clause-product : goal.returns-clause-product
returns-clause-product g c = λ h d k below. is_of (is g.W.Form) (get_or c.args.r.value k d) _ (h d k below)
