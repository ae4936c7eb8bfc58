use Rattle.std.proofs.Common.{◌≡◌, ◌+◌, ◌*◌, ◌%◌, ◌^◌, take, fold}
use Rattle.test_packing_lists.proofs.hashes.DigitsHasher.write.Given as goal

abbrev pub invariant-loop-b : goal.invariant-loop-b
invariant-loop-b l = l.self.0 ≡ fold (λ h b. ((h * 257) % 2 ^ 64 + b) % 2 ^ 64) l.initial.self.0 (take l.b-index l.bytes)
