use Rattle.std.proofs.Common.{refl, ap, map, Err, ◌∙◌}
use Rattle.std.proofs.lemmas.List.{take_at}
use Rattle.p3_c_words.specs.Words.{values}
use Rattle.p3_c_calls.proofs.RunLengths.{same-run}
use Rattle.p3_c_calls.proofs.runs.run.Goals as goal

pub returns-then-not-all_stand : goal.returns-then-not-all_stand
returns-then-not-all_stand g c = ((c.if-not-are_steps.ensures.0 refl, λ h. absurd (cc (c.if-not-all_stand.ensures.1 h))), refl)

pub decode_all-requires : goal.decode_all-requires
decode_all-requires g c = c.if-not-are_steps.ensures.0 refl

pub returns-in_default : goal.returns-in_default
returns-in_default g c = ((c.if-not-are_steps.ensures.0 refl, c.if-not-all_stand.ensures.0 refl), refl)

pub returns-in_default-values_of : goal.returns-in_default-values_of
returns-in_default-values_of g c = ((c.if-not-are_steps.ensures.0 refl, c.if-not-all_stand.ensures.0 refl), refl)

pub returns-in-Ok-run_values : goal.returns-in-Ok-run_values
returns-in-Ok-run_values g c =
    let w = g.F.Stored.words in
    let new = c.run_values.new.registers in
    let run = same-run g.F.PrimeCharacteristicRing.ops g.F.Field.size g.F.Field.generator _ c.in-Ok.known.items _ (values w c.args.registers.now) new _ _ c.deref.ensures.value
    (c.deref_mut.ensures.value ∙ c.in-Ok-values_of.ensures) refl c.in-Ok-run_values.ensures.run in (
      (c.if-not-are_steps.ensures.0 refl, c.if-not-all_stand.ensures.0 refl),
      (c.in-Ok.known.items, new, c.in-Ok.ensures.steps, run, c.write.ensures ∙ ap (map w.word) (c.deref-in-Ok-run_values.ensures.value ∙ take_at new _ _ (c.run_values.ensures.length ∙ c.deref_mut.ensures.len))),
    )

pub returns-in-NoInverse : goal.returns-in-NoInverse
returns-in-NoInverse g c =
    let w = g.F.Stored.words in
    let i = c.in-Err.refused.index in
    let new = c.run_values.new.registers in
    let run = same-run g.F.PrimeCharacteristicRing.ops g.F.Field.size g.F.Field.generator _ c.in-Ok.known.items _ (values w c.args.registers.now) new _ _ c.deref.ensures.value
    (c.deref_mut.ensures.value ∙ c.in-Ok-values_of.ensures) (ap (λ k. Err (record { index = i; kind = k })) c.in-NoInverse.is) c.in-Err.ensures.run in
    ((c.if-not-are_steps.ensures.0 refl, c.if-not-all_stand.ensures.0 refl, (c.in-Ok.known.items, i, new, c.in-Ok.ensures.steps, run)), refl)

pub returns : goal.returns
returns g c =
    let w = g.F.Stored.words in
    let i = c.in-Err.refused.index in
    let new = c.run_values.new.registers in
    let run = same-run g.F.PrimeCharacteristicRing.ops g.F.Field.size g.F.Field.generator _ c.in-Ok.known.items _ (values w c.args.registers.now) new _ _ c.deref.ensures.value
    (c.deref_mut.ensures.value ∙ c.in-Ok-values_of.ensures) (ap (λ k. Err (record { index = i; kind = k })) c.in-NoRoot.is) c.in-Err.ensures.run in
    ((c.if-not-are_steps.ensures.0 refl, c.if-not-all_stand.ensures.0 refl, (c.in-Ok.known.items, i, new, c.in-Ok.ensures.steps, run)), refl)
