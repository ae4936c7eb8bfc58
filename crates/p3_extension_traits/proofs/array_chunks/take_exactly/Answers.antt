use Rattle.std.proofs.Common.{◌≡◌, ◌≤◌, ◌<◌, ◌∙◌, ℕ, List, length, refl, subst, arith, rules}
use Rattle.p3_extension_traits.specs.Streams.{GivesOtherCount}
use Rattle.p3_extension_traits.specs.TakenItems.{too_few, just_enough, too_many, drawn_few, drawn_enough, drawn_more}
use Rattle.p3_extension_traits.proofs.array_chunks.take_exactly.Goals as goal

pub returns-then-count-clause-all : goal.returns-then-count-clause-all
returns-then-count-clause-all g c = λ xs y l.
    let old = c.args.items in
    let long : length old ≡ g.row.N = search rules in
    let few : c.take_up_to-count.result < length old = omega (arith, c.if-count.true, long) in
    let whole : length xs ≡ length old = omega (arith, l, long) in
    too_few g.I.Iterator.next_gives (length old) c.take_up_to-count.result c.args.iter _ old _ xs c.take_up_to-count.ensures.taken y few whole

pub returns-then-count-clause-drawn : goal.returns-then-count-clause-drawn
returns-then-count-clause-drawn g c =
    let steps = g.I.Iterator.next_gives in
    let old = c.args.items in
    let long : length old ≡ g.row.N = search rules in
    let few : c.take_up_to-count.result < length old = omega (arith, c.if-count.true, long) in
    let P : ℕ → Type 0 = λ n. GivesOtherCount steps n c.args.iter in
    subst P long (drawn_few steps (length old) c.take_up_to-count.result c.args.iter c.take_up_to-count.new.source old c.take_up_to-count.new.out c.take_up_to-count.ensures.taken few)

pub returns-in-None-clause-all : goal.returns-in-None-clause-all
returns-in-None-clause-all g c = λ xs y.
    let old = c.args.items in
    let long : length old ≡ g.row.N = search rules in
    let full : length old ≤ c.take_up_to-count.result = omega (arith, c.if-count.false, long) in
    just_enough g.I.Iterator.next_gives (length old) c.take_up_to-count.result c.args.iter c.take_up_to-count.new.source old c.take_up_to-count.new.out xs
    c.take_up_to-count.ensures.taken y full refl c.in-None.ensures.steps

pub returns-in-None-clause-drawn : goal.returns-in-None-clause-drawn
returns-in-None-clause-drawn g c =
    let steps = g.I.Iterator.next_gives in
    let old = c.args.items in
    let long : length old ≡ g.row.N = search rules in
    let full : length old ≤ c.take_up_to-count.result = omega (arith, c.if-count.false, long) in
    (drawn_enough steps (length old) c.take_up_to-count.result c.args.iter c.take_up_to-count.new.source old c.take_up_to-count.new.out
    c.take_up_to-count.ensures.taken full refl c.in-None.ensures.steps)

pub returns-clause-all : goal.returns-clause-all
returns-clause-all g c = λ xs y l.
    let old = c.args.items in
    let long : length old ≡ g.row.N = search rules in
    let full : length old ≤ c.take_up_to-count.result = omega (arith, c.if-count.false, long) in
    let whole : length xs ≡ length old = omega (arith, l, long) in
    too_many g.I.Iterator.next_gives (length old) c.take_up_to-count.result c.args.iter c.take_up_to-count.new.source old c.take_up_to-count.new.out xs
    c.take_up_to-count.ensures.taken y full c.in-Some.ensures.steps whole

pub returns-clause-drawn : goal.returns-clause-drawn
returns-clause-drawn g c =
    let steps = g.I.Iterator.next_gives in
    let old = c.args.items in
    let long : length old ≡ g.row.N = search rules in
    let full : length old ≤ c.take_up_to-count.result = omega (arith, c.if-count.false, long) in
    let P : ℕ → Type 0 = λ n. GivesOtherCount steps n c.args.iter in
    subst P long (drawn_more steps (length old) c.take_up_to-count.result c.args.iter c.take_up_to-count.new.source old c.take_up_to-count.new.out c.take_up_to-count.ensures.taken full c.in-Some.ensures.steps)
