use Rattle.std.proofs.Common.{◌≡◌, ◌+◌, ◌%◌, ◌^◌, map, drop}
use Rattle.p3_helpers.specs.Digits.{num}
use Rattle.p3_helpers.proofs.packing.reduce_packed_shifted.Given as goal

abbrev pub invariant-loop-i : goal.invariant-loop-i
invariant-loop-i g l = g.TF.Quotient.canon l.sum ≡ num (map (λ v. g.SF.Quotient.canon v + 1) (drop l.i l.vals)) (2 ^ l.fn.radix_bits) % g.TF.Quotient.order
