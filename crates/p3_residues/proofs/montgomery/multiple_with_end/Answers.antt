use Rattle.std.proofs.Common.{◌*◌, ◌%◌, ◌^◌, arith, ap, sym, ◌∙◌}
use Rattle.std.proofs.Math.Nat.{mod-lt}
use Rattle.std.proofs.lemmas.Nat.{and_mask}
use Rattle.p3_residues.proofs.Reductions.{same_end, multiple_of}
use Rattle.p3_residues.proofs.montgomery.multiple_with_end.Goals as goal

pub returns-clause-multiple : goal.returns-clause-multiple
returns-clause-multiple c = multiple_of c.args.order _

pub returns-clause-same_end : goal.returns-clause-same_end
returns-clause-same_end c =
    let p = c.args.order in
    let i = c.args.inverse in
    sym (same_end p i (c.args.number % 2 ^ 32) c.requires.inverse (mod-lt c.args.number (omega arith)) c.requires.some)
    ∙ ap (λ low. ((low * i) % 2 ^ 32 * p) % 2 ^ 32) (sym (and_mask c.args.number 32))
