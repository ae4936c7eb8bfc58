-- Lanes of vectors of packings.
use Rattle.std.specs.Prelude.{◌≡◌, ◌<◌, ◌*◌, ◌/◌, ◌%◌, ℕ, zero, suc, List, get_or, length, Some, slice_get}
use Rattle.std.proofs.Common.{arith, sym, ap, ◌∙◌}
use Rattle.std.proofs.lemmas.Option.{get_or_from_slice_get}
use Rattle.std.proofs.Math.Nat.{div-lt_iff_lt-mul, mod-lt, mul_comm}
use Rattle.p3_theory.specs.Lists.ByIndex.{read_at}
use Rattle.p3_theory.specs.Rings.Ring.{Ops, Hom}
use Rattle.p3_theory.specs.Rings.Homomorphism.{compose}
use Rattle.p3_theory.specs.Lanes.Lanes.{lane, KeepsLanes}
use Rattle.p3_theory.specs.Lanes.Rows.{Row, rows}
use Rattle.p3_theory.specs.Lanes.RowRing.{row_ops, item_keeps}

-- lane i of a vector of packings of w lanes is lane i mod w of part i / w
abbrev pub vector_lane : {P B : Type 0} {n : ℕ} → Ops P → Ops B → (P → List B) → ℕ → ℕ → Row P n → B
vector_lane O Q lanes w i v = lane Q lanes (i % w) (get_or v.items (i / w) O.zero)

pub some-width : (w n i : ℕ) → i < w * n → 0 < w
some-width zero n i h = absurd (omega (arith, h))
some-width (suc w) n i h = omega arith

pub part-below : (w n i : ℕ) → i < w * n → i / w < n
part-below w n i h = (div-lt_iff_lt-mul {k = w} {x = i} {y = n} (some-width w n i h)).1 (let e : w * n ≡ n * w = mul_comm w n in omega (arith, h, e))

-- each lane keeps the operations
pub vector_keeps : {P B : Type 0} {n : ℕ} (O : Ops P) (Q : Ops B) (lanes : P → List B) (w : ℕ) → KeepsLanes O Q lanes w
    → (i : ℕ) → i < w * n → Hom (row_ops (rows {A = P} {n = n}) O) Q (vector_lane O Q lanes w i)
vector_keeps {n = n} O Q lanes w keeps i h = compose (item_keeps rows O (i / w) (part-below w n i h)) (keeps (i % w) (mod-lt i (some-width w n i h)))

-- what is read of a part that is read is the lane
pub read_lane : {P B : Type 0} {n : ℕ} (O : Ops P) (Q : Ops B) (lanes : P → List B) (w u i : ℕ) (v : Row P n) (items : List P) (part : P) (r : B)
    → u ≡ w → i < w * n → items ≡ v.items → part ≡ get_or items (i / u) part → slice_get (lanes part) (i % u) ≡ Some r → r ≡ vector_lane O Q lanes w i v
read_lane {P} {B} {n} O Q lanes w u i v items part r a h e k s =
    let within : i / w < n = part-below w n i h in
    let inside : i / u < length items = omega (arith, within, ap (λ x. i / x) a, v.sized, ap length e) in
    sym (get_or_from_slice_get (lanes part) (i % u) r Q.zero s)
    ∙ ap (λ p. get_or (lanes p) (i % u) Q.zero) (sym (read_at items (i / u) part O.zero inside k) ∙ ap (λ l. get_or l (i / u) O.zero) e)
    ∙ ap (λ x. get_or (lanes (get_or v.items (i / x) O.zero)) (i % x) Q.zero) a
