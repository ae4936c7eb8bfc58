use Rattle.std.proofs.Common.{◌≡◌, ◌<◌, length, get_or, rules, subst, sym, ◌∙◌}
use Rattle.std.proofs.lemmas.List.{ext_get_or}
use Rattle.p3_theory.specs.Lists.PairedLists.{zip_with, length-zip, get-zip}
use Rattle.p3_slice_kernels.proofs.entrywise.take_block.Goals as goal

pub returns : goal.returns
returns g c =
    let give = g.O.EntryOperation.gives in
    let d = g.O.EntryOperation.past_the_end in
    let x = c.args.left.now in
    let y = c.args.right.now in
    let blocks = c.of_blocks-results in
    let alike : length x ≡ length y = c.requires.left ∙ sym c.requires.right in
    c.write_values.ensures
    ∙ ext_get_or d blocks.result (zip_with give x y) (blocks.ensures.length ∙ sym (length-zip give x y alike ∙ c.requires.left)) (λ k h.
    let below : k < 16 = subst (λ n. k < n) blocks.ensures.length h in
    blocks.ensures.lanes d k below ∙ (λ ι. give (get_or (c.from_slice-x.ensures ι) k d) (get_or (c.from_slice-y.ensures ι) k d))
    ∙ sym (get-zip give x y k d d d alike (search (rules, below))))
