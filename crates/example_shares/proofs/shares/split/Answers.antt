use Rattle.std.proofs.Common.{◌≡◌, ◌+◌, ℕ, suc, List, [], ◌∷◌, ◌++◌, map, sym, ap, ap₂, ◌∙◌, add-one}
use Rattle.std.proofs.lemmas.List.{map-append}
use Rattle.p3_theory.specs.Rings.Ring.{Ops}
use Rattle.p3_theory.specs.Rings.Multiples.{of_nat}
use Rattle.example_shares.specs.Secrets.{value_at, first_points}
use Rattle.example_shares.specs.ShareLists.{points, values}
use Rattle.example_shares.specs.declared.shares.Share.{Share}
use Rattle.example_shares.proofs.ListSteps.{tabulate-more}
use Rattle.example_shares.proofs.shares.split.Goals as goal

-- one share more
pushed : {F : Type 0} (o : Ops F) (c : List F) (i : ℕ) (old new : List (Share F)) (share : Share F) → new ≡ old ++ (share ∷ [])
    → share.point ≡ of_nat o (i + 1) → share.value ≡ value_at o c share.point → points old ≡ first_points o i → values old ≡ map (value_at o c) (points old)
    → (points new ≡ first_points o (i + 1)) × (values new ≡ map (value_at o c) (points new))
pushed o c i old new share e point value at known =
    let more : points new ≡ points old ++ (share.point ∷ []) = ap points e ∙ map-append (λ s. s.point) old (share ∷ []) in (
      more ∙ tabulate-more i (λ k. of_nat o (suc k)) (points old) share.point at (point ∙ ap (of_nat o) (add-one i)),
      ap values e ∙ map-append (λ s. s.value) old (share ∷ []) ∙ ap₂ (λ l v. l ++ (v ∷ [])) known value
          ∙ sym (map-append (value_at o c) (points old) (share.point ∷ [])) ∙ sym (ap (map (value_at o c)) more),
    )

pub loop-i-preserved : goal.loop-i-preserved
loop-i-preserved g c =
    let o = g.F.PrimeCharacteristicRing.ops in
    let made = pushed o c.args.coefficients.now c.loop-i.i c.loop-i.shares.items c.push.new.self.items (record { point = c.from_usize-point.result; value = c.evaluate-value.result })
    c.in_ok-push.ensures.items c.from_usize-point.ensures c.evaluate-value.ensures c.loop-i.invariant.placed c.loop-i.invariant.evaluated in
    record { placed = made.0; evaluated = made.1 }
