use Rattle.std.proofs.Common.{◌≡◌, ◌<◌, ◌*◌, ◌/◌, ◌%◌, ℕ, zero, suc, get_or, subst, sym, ap, arith, mul_comm, ◌∙◌}
use Rattle.std.specs.Prelude.{slice_index}
use Rattle.std.proofs.lemmas.Nat.{div_below, mod_below}
use Rattle.p3_extension_traits.specs.StreamLemmas.{byte_stream-at}
use Rattle.p3_extension.proofs.extension.streams.ExtFieldRawDataSerializable.byte_at.Goals as goal

positive : (m i k : ℕ) → i < m * k → 0 < m
positive zero i k h = absurd (omega (arith, h))
positive (suc m) i k h = omega arith

-- the width w is the count m of a coefficient's bytes
some_width : (w m i k : ℕ) → w ≡ m → i < m * k → 0 < w
some_width w m i k e h = subst (λ n. 0 < n) (sym e) (positive m i k h)

index_below : (w m i k : ℕ) → w ≡ m → i < m * k → i / w < k
index_below w m i k e h = div_below i w k (some_width w m i k e h) (subst (λ n. i < k * n) (sym e) (subst (λ n. i < n) (mul_comm m k) h))

pub bounds-self-i : goal.bounds-self-i
bounds-self-i g c = index_below c.NUM_BYTES-width.result g.F.RawDataSerializable.NUM_BYTES c.args.i g.row.D c.NUM_BYTES-width.ensures c.requires

pub offset_bounds-self-i : goal.offset_bounds-self-i
offset_bounds-self-i g c =
    let below = index_below c.NUM_BYTES-width.result g.F.RawDataSerializable.NUM_BYTES c.args.i g.row.D c.NUM_BYTES-width.ensures c.requires in
    omega (arith, below)

pub nonzero_rem-i : goal.nonzero_rem-i
nonzero_rem-i g c = some_width c.NUM_BYTES-width.result g.F.RawDataSerializable.NUM_BYTES c.args.i g.row.D c.NUM_BYTES-width.ensures c.requires

pub byte_at-requires : goal.byte_at-requires
byte_at-requires g c =
    let width = c.NUM_BYTES-width.result in
    let m = g.F.RawDataSerializable.NUM_BYTES in
    subst (λ n. c.args.i % width < n) c.NUM_BYTES-width.ensures
    (mod_below c.args.i width (some_width width m c.args.i g.row.D c.NUM_BYTES-width.ensures c.requires))

pub returns : goal.returns
returns g c =
    let F = g.F.RawDataSerializable in
    let i = c.args.i in
    let value = c.args.self.value in
    let coefficient = c.index-self-i.result in
    let room = subst (λ n. i < F.NUM_BYTES * n) (sym c.args.self.sized) c.requires in
    c.byte_at.ensures
    ∙ ap (λ m. slice_index (F.bytes (get_or value (i / m) coefficient)) (i % m)) c.NUM_BYTES-width.ensures
    ∙ byte_stream-at F.bytes F.NUM_BYTES g.met.F.RawDataSerializable.num_bytes value coefficient i room
