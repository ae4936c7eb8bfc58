use Rattle.std.proofs.Common.{◌≡◌, ℕ, ◌+◌, ◌-◌, ◌/◌, ◌%◌, ◌<◌, ap, ◌∙◌, arith, get_or, length, refl}
use Rattle.std.proofs.lemmas.List.{length-set}
use Rattle.p3_residues.proofs.Interleaving.{after_even, set_next, set_elsewhere, passed}
use Rattle.p3_residues.proofs.interleaves.interleave.Goals.{then-i-eq0, else-i-eq0}
use Rattle.p3_residues.proofs.interleaves.interleave.Goals as goal

pub bounds-x-i : goal.bounds-x-i
bounds-x-i g c = after_even g.row.L g.row.N c.lanes.i c.requires.block c.requires.pairs c.lanes-test.true c.if-i-eq0.true

pub lanes-preserved : goal.lanes-preserved
lanes-preserved g c =
    let even : ℕ → Type 0 = λ k. k / g.row.L % 2 ≡ 0 in
    let odd : ℕ → Type 0 = λ k. k / g.row.L % 2 ≡ 1 in
    let held = c.lanes.invariant in
    let i : ℕ = c.lanes.i in
    elim c.if-i-eq0.branch [
      | then-i-eq0 w ↦
          (let not_i : c.lanes.i / g.row.L % 2 ≡ 1 → ⊥ = λ o. absurd (omega (arith, o, w.if-i-eq0.true)) in
          let room : c.lanes.i < length c.lanes.second = omega arith in (
            omega arith,
            ap length w.first-is ∙ held.1,
            ap length w.second-is ∙ length-set _ _ _ ∙ held.2,
            (λ k p. ap (λ zs. get_or zs k 0) w.first-is ∙ held.3 k p),
            (λ k l p. ap (λ zs. get_or zs k 0) w.first-is ∙ passed odd (λ m. get_or c.args.v1 (m - g.row.L) 0) c.lanes.first i not_i held.4 k l p),
            (λ k l p. ap (λ zs. get_or zs k 0) w.second-is ∙ set_next even (λ m. get_or c.args.v0 (m + g.row.L) 0) c.lanes.second i _ room refl held.5 k l p),
            (λ k p. ap (λ zs. get_or zs k 0) w.second-is ∙ set_elsewhere odd (λ m. get_or c.args.v1 m 0) c.lanes.second i _ not_i held.6 k p),
          ))
      | else-i-eq0 w ↦
          (let not_i : c.lanes.i / g.row.L % 2 ≡ 0 → ⊥ = w.if-i-eq0.false in
          let room : c.lanes.i < length c.lanes.first = omega arith in (
            omega arith,
            ap length w.first-is ∙ length-set _ _ _ ∙ held.1,
            ap length w.second-is ∙ held.2,
            (λ k p. ap (λ zs. get_or zs k 0) w.first-is ∙ set_elsewhere even (λ m. get_or c.args.v0 m 0) c.lanes.first i _ not_i held.3 k p),
            (λ k l p. ap (λ zs. get_or zs k 0) w.first-is ∙ set_next odd (λ m. get_or c.args.v1 (m - g.row.L) 0) c.lanes.first i _ room refl held.4 k l p),
            (λ k l p. ap (λ zs. get_or zs k 0) w.second-is ∙ passed even (λ m. get_or c.args.v0 (m + g.row.L) 0) c.lanes.second i not_i held.5 k l p),
            (λ k p. ap (λ zs. get_or zs k 0) w.second-is ∙ held.6 k p),
          ))
    ]
