use Rattle.std.proofs.Common.{◌+◌, ◌-◌, ◌%◌, ◌∙◌, ap, get_or}
use Rattle.std.proofs.lemmas.List.{get_or-replicate}
use Rattle.p3_prime_fields.specs.Elements.{canon}
use Rattle.p3_packed_prime_fields.proofs.left_operators.FpSubPackedFp.sub.Goals as goal

pub returns : goal.returns
returns g c d k h =
    let less = canon g.W.Form (get_or c.args.packing.value k d) in
    c.sub.ensures d k h
    ∙ ap (λ v. (canon g.W.Form v + (g.W.Form.ORDER - less)) % g.W.Form.ORDER) (ap (λ l. get_or l k d) c.from.ensures ∙ get_or-replicate g.row.N k c.args.self d h)
