use Rattle.p3_theory.specs.ResidueRings.Residues.{is_of}
use Rattle.p3_prime_fields.specs.Elements.{is, ops}
use Rattle.p3_prime_fields.proofs.lane_sums.add_values.Goals as goal

pub returns-else-ORDER-lt-SHORT_ORDERS : goal.returns-else-ORDER-lt-SHORT_ORDERS
returns-else-ORDER-lt-SHORT_ORDERS g c = c.add_entries.ensures (ops g.W.Form).add (λ x y r h. is_of (is g.W.Form) r _ h)
