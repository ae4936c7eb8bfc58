use Rattle.std.proofs.Common.{◌+◌, ◌*◌, ◌/◌, ◌%◌, ◌^◌, ap, ap₂, ◌∙◌}
use Rattle.std.proofs.Math.Nat.{mod-add-div}
use Rattle.std.proofs.lemmas.Nat.{and_mask}
use Rattle.p3_residues.proofs.Reductions.{high_reduced}
use Rattle.p3_residues.proofs.montgomery.montgomery_sum.Goals as goal

pub returns-clause-value : goal.returns-clause-value
returns-clause-value c =
    let sum = c.args.sum in
    let order = c.args.order in
    c.montgomery_reduce_word.ensures.value ∙ ap₂ (λ l h. (l + 2 ^ 32 * h) % order) (and_mask sum 32) c.remainder_of_sum-high.ensures
    ∙ high_reduced order (sum % 2 ^ 32) (sum / 2 ^ 32) ∙ ap (λ z. z % order) (mod-add-div sum (2 ^ 32))
