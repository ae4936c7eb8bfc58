use Rattle.std.proofs.Common.{◌≡◌, ◌<◌, ℕ, List, length, get_or, sym, ap, subst, ◌∙◌}
use Rattle.p3_theory.specs.Rings.Ring.{Invertible, ring_of}
use Rattle.p3_theory.specs.Rings.Operators.{product_list}
use Rattle.example_shares.specs.Denominators.{each_factor, apart, invertible, inverses_are_weights}
use Rattle.example_shares.specs.ShareLists.{points}
use Rattle.example_shares.proofs.recovery.weights.Goals as goal

pub returns-in-None-clause-inverse : goal.returns-in-None-clause-inverse
returns-in-None-clause-inverse g c e known =
    let o = g.F.PrimeCharacteristicRing.ops in
    let ds = c.in_ok-products.products.items in
    let whole : c.product-whole.result ≡ product_list o ds = c.product-whole.ensures ∙ ap (product_list o) c.deref.ensures.value in
    let unit = invertible (ring_of g.met.F.PrimeCharacteristicRing.ring) (points c.args.shares.now) ds c.in_ok-products.ensures known in
    c.in-None.ensures unit.0 (ap (λ z. o.mul z unit.0) whole ∙ unit.1)

pub batch_multiplicative_inverse-requires : goal.batch_multiplicative_inverse-requires
batch_multiplicative_inverse-requires g c =
    let o = g.F.PrimeCharacteristicRing.ops in
    let ds = c.in_ok-products.products.items in
    let whole : c.product-whole.result ≡ product_list o ds = c.product-whole.ensures ∙ ap (product_list o) c.deref.ensures.value in
    let unit : Invertible o (product_list o ds) = (c.in-Some.field-0, sym (ap (λ z. o.mul z c.in-Some.field-0) whole) ∙ c.in-Some.ensures) in
    let P : List g.row.F.Denot → Type 0 = λ l. Invertible o (product_list o l) in
    each_factor (ring_of g.met.F.PrimeCharacteristicRing.ring) c.deref-in-Some.result.now (subst P (sym c.deref-in-Some.ensures.value) unit)

pub returns-clause-weights : goal.returns-clause-weights
returns-clause-weights g c =
    let o = g.F.PrimeCharacteristicRing.ops in
    let ds = c.in_ok-products.products.items in
    let ws = c.in_ok-inverses-in-Some.inverses.items in
    let P : List g.row.F.Denot → Type 0 = λ l. (d : g.row.F.Denot) (i : ℕ) → i < length l → o.mul (get_or l i d) (get_or ws i d) ≡ o.one in
    inverses_are_weights (ring_of g.met.F.PrimeCharacteristicRing.ring) (points c.args.shares.now) ds ws c.in_ok-products.ensures
    (c.in_ok-inverses-in-Some.ensures.lengths ∙ ap length c.deref-in-Some.ensures.value) (subst P c.deref-in-Some.ensures.value c.in_ok-inverses-in-Some.ensures.inverses)

pub returns-clause-apart : goal.returns-clause-apart
returns-clause-apart g c =
    let o = g.F.PrimeCharacteristicRing.ops in
    let ds = c.in_ok-products.products.items in
    let whole : c.product-whole.result ≡ product_list o ds = c.product-whole.ensures ∙ ap (product_list o) c.deref.ensures.value in
    let unit : Invertible o (product_list o ds) = (c.in-Some.field-0, sym (ap (λ z. o.mul z c.in-Some.field-0) whole) ∙ c.in-Some.ensures) in
    apart (ring_of g.met.F.PrimeCharacteristicRing.ring) (points c.args.shares.now) ds c.in_ok-products.ensures unit
