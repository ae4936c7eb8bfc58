use Rattle.p3_extension_traits.proofs.GroupCounts.{hint_upper}
use Rattle.p3_extension_traits.proofs.hints.words_hint.Goals as goal

pub returns-clause-most : goal.returns-clause-most
returns-clause-most c = λ left most. hint_upper c.args.n c.requires c.args.is_over left c.args.bytes.1 c.groups_hint.result.1
    (λ e. absurd (cc (e, c.if-is_over.false))) (λ e. c.groups_hint.ensures.upper) most
