use Rattle.std.proofs.Common.{get_or, ◌≡◌, ◌/◌, ◌%◌, ◌^◌, [], ◌∷◌, length, map, ◌∙◌, ap, rules}
use Rattle.p3_kernels.proofs.SmallDotProducts.{four_rows}
use Rattle.p3_kernels.proofs.small_dot_products.halves_of_rows_4.Goals as goal

pub returns-clause-even : goal.returns-clause-even
returns-clause-even c k l =
    let four : length c.args.rows ≡ 4 = search rules in
    (λ ι. c.halfwords_of_4.ensures.even k l ι ∷ c.halfwords_of_4-2.ensures.even k l ι ∷ c.halfwords_of_4-3.ensures.even k l ι ∷ c.halfwords_of_4-4.ensures.even k l ι ∷ [])
    ∙ ap (map (λ row. get_or row k 0 % 2 ^ 16)) (four_rows [] c.args.rows four)

pub returns-clause-odd : goal.returns-clause-odd
returns-clause-odd c k l =
    let four : length c.args.rows ≡ 4 = search rules in
    (λ ι. c.halfwords_of_4.ensures.odd k l ι ∷ c.halfwords_of_4-2.ensures.odd k l ι ∷ c.halfwords_of_4-3.ensures.odd k l ι ∷ c.halfwords_of_4-4.ensures.odd k l ι ∷ [])
    ∙ ap (map (λ row. get_or row k 0 / 2 ^ 16)) (four_rows [] c.args.rows four)
