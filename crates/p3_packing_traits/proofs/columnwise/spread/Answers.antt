use Rattle.std.proofs.Common.{◌≡◌, ◌∙◌, ℕ, length, map, get_or, ap, sym, rules, arith}
use Rattle.std.proofs.Math.ListN.{get_or-map}
use Rattle.std.proofs.lemmas.List.{ext_get_or}
use Rattle.p3_theory.specs.Rings.Homomorphism.{length-map}
use Rattle.p3_packing_traits.specs.IndexAnswers.{each_answer}
use Rattle.p3_packing_traits.proofs.columnwise.spread.Goals as goal

pub returns : goal.returns
returns g c =
    let e = g.PE.Algebra.embed in
    let zero = g.EF.PrimeCharacteristicRing.ops.zero in
    let scales = c.args.scales.now in
    let Holds : ℕ → g.row.PE.Denot → Type 0 = λ i y. y ≡ e (get_or scales i zero) in
    let long : length c.from_fn.result ≡ length (map e scales) = c.from_fn.ensures.items.long ∙ sym c.requires ∙ sym (length-map e scales) in
    ext_get_or (e zero) c.from_fn.result (map e scales) long
    (λ k w. each_answer _ (λ f. f.0.now ≡ scales) Holds
    (λ f i y q kept h. (h.met.1.0 zero ∙ ap (λ xs. e (get_or xs i zero)) kept, ap (λ r. r.now) h.met.1.1 ∙ kept))
    _ c.from_fn.result g.row.N (search rules) c.from_fn.ensures.items k (e zero) (omega (arith, c.from_fn.ensures.items.long)) ∙ sym (get_or-map e scales k zero))
