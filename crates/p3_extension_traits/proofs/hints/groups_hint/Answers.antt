use Rattle.std.proofs.Common.{Some, ap, sym, ◌∙◌}
use Rattle.std.specs.Option.{option_map}
use Rattle.p3_extension_traits.specs.Streams.{group_count}
use Rattle.p3_extension_traits.proofs.GroupCounts.{div_ceil-groups}
use Rattle.p3_extension_traits.proofs.hints.groups_hint.Goals.{in-Some, in-None}
use Rattle.p3_extension_traits.proofs.hints.groups_hint.Goals as goal

pub returns-clause-upper : goal.returns-clause-upper
returns-clause-upper c =
    let n = c.args.n in
    elim c.match-items.branch [
      | in-Some w ↦ w.high-is ∙ ap Some (w.div_ceil.ensures ∙ div_ceil-groups n c.requires w.in-Some.count) ∙ sym (ap (option_map (group_count n)) w.in-Some.is)
      | in-None w ↦ w.high-is ∙ sym (ap (option_map (group_count n)) w.in-None.is)
    ]
