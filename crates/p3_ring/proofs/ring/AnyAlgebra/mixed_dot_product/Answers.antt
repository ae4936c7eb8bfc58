use Rattle.std.proofs.Common.{sym, ap, ◌∙◌}
use Rattle.std.proofs.lemmas.List.{map-id}
use Rattle.p3_theory.specs.Rings.DotProduct.{dot}
use Rattle.p3_ring.proofs.ring.AnyAlgebra.mixed_dot_product.Goals as goal

pub returns : goal.returns
returns g c = c.dot_product.ensures ∙ ap (dot g.R.PrimeCharacteristicRing.ops c.args.a.now) (sym (map-id c.args.f.now))
