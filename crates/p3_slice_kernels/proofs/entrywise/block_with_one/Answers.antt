use Rattle.std.proofs.Common.{◌<◌, get_or, map, ap₂, rules, subst, sym, ◌∙◌}
use Rattle.std.proofs.lemmas.List.{ext_get_or, get_or-map, length-map}
use Rattle.std.proofs.lemmas.Simd.{get_or-replicate}
use Rattle.p3_slice_kernels.proofs.entrywise.block_with_one.Goals as goal

pub returns : goal.returns
returns g c =
    let give = g.O.EntryOperation.gives in
    let other = c.args.other in
    let xs = c.args.values.now in
    let by = λ (x : g.row.F.Denot). give x other in
    ext_get_or other c.of_blocks.result (map by xs) (c.of_blocks.ensures.length ∙ sym (length-map xs by ∙ c.requires)) (λ k h.
    let below : k < 16 = subst (λ n. k < n) c.of_blocks.ensures.length h in
    c.of_blocks.ensures.lanes other k below
    ∙ ap₂ give (λ ι. get_or (c.from_slice-x.ensures ι) k other) (get_or-replicate 16 k other other below)
    ∙ sym (get_or-map by xs k other other (search (rules, below))))
