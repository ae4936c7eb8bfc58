use Rattle.std.proofs.Common.{◌*◌, ◌%◌, ◌∙◌, ap, get_or}
use Rattle.p3_theory.specs.Lanes.Lanes.{at_replicate}
use Rattle.p3_prime_fields.specs.Elements.{canon}
use Rattle.p3_packed_prime_fields.proofs.scalar_operators.PackedFpMulFp.mul.Goals as goal

pub returns-then-WIDE : goal.returns-then-WIDE
returns-then-WIDE g c = λ d k w.
    c.mul_lanes_apart.ensures d k w
    ∙ ap (λ v. (canon g.W.Form (get_or c.args.self.value k d) * canon g.W.Form v) % g.W.Form.ORDER) (at_replicate g.row.N k c.args.other d _ w c.new-others.ensures)

pub returns-else-WIDE : goal.returns-else-WIDE
returns-else-WIDE g c = λ d k w.
    c.mul_lanes.ensures d k w
    ∙ ap (λ v. (canon g.W.Form (get_or c.args.self.value k d) * canon g.W.Form v) % g.W.Form.ORDER) (at_replicate g.row.N k c.args.other d _ w c.new-others.ensures)
