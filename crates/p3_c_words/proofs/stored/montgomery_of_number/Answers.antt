use Rattle.std.proofs.Common.{◌∙◌}
use Rattle.std.proofs.Math.Nat.{mod-eq_of_lt}
use Rattle.p3_c_words.proofs.stored.montgomery_of_number.Goals as goal

pub returns : goal.returns
returns g c = c.new.ensures.residue ∙ mod-eq_of_lt c.requires
