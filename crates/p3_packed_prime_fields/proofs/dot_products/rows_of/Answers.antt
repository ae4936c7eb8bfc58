use Rattle.std.proofs.Common.{arith, map}
use Rattle.std.proofs.lemmas.List.{same_lists, length-map}
use Rattle.p3_packed_prime_fields.proofs.dot_products.rows_of.Goals as goal

pub returns : goal.returns
returns g c =
    let i = c.loop-i.invariant in
    same_lists c.loop-i.rows (map (λ packing. packing.value) c.args.packings.now) (omega (arith, i.0, c.requires, length-map c.args.packings.now (λ packing. packing.value)))
    (λ k d w. i.1 d k (omega (arith, w, i.0, c.loop-i-test.false)))
