use Rattle.std.proofs.Common.{rules, ◌≡◌, ◌≤◌, ◌-◌, ◌^◌, ℕ, length, get_or, take, drop, ◌+◌, ◌*◌, ◌<◌, sym, ap, ap₂, ◌∙◌, arith}
use Rattle.std.proofs.Math.Nat.{pow-le-pow_right}
use Rattle.std.proofs.lemmas.List.{get_or-take, get_or-drop}
use Rattle.std.proofs.lemmas.Slice.{between-put_mid}
use borrow.Rule.Slice.PartMut.{put_mid}
use Rattle.p3_field.specs.ByIndex.{get-tabulate}
use Rattle.p3_field.specs.GeometricSequence.{geometric_term}
use Rattle.p3_field.specs.Polynomial.{at}
use Rattle.poly_eval.proofs.PointTables.{table-points}
use Rattle.poly_eval.proofs.points.Points.+write_few.Goals as goal

pub returns-then-self-gt0-clause-points : goal.returns-then-self-gt0-clause-points
returns-then-self-gt0-clause-points g t c =
    let m = g.met.F.PrimeCharacteristicRing in
    let o = g.F.PrimeCharacteristicRing.ops in
    let two_adic = g.F.TwoAdicField.two_adic in
    let points = c.args.self in
    let squares = c.squares in
    let k = squares.result.log_size in
    let half = c.half_size-half.result in
    let one : points.log_size ≡ k + 1 = omega (arith, c.if-self-gt0.true, squares.ensures.log_size) in
    let size : half ≡ 2 ^ k = c.half_size-half.ensures ∙ ap (λ n. 2 ^ n) (sym squares.ensures.log_size) in
    let sequence = c.shifted_powers-points in
    let written = put_mid half (2 * half - half) c.args.table.now c.fill.new.slice in
    let most : 2 ^ (points.log_size - 1) ≤ 2 ^ 5 = pow-le-pow_right {n = 2} (omega arith) {i = points.log_size - 1} {j = 5} (omega (arith, c.requires.few)) in
    let room : half + half ≤ 64 = omega (arith, most, c.half_size-half.ensures) in
    let before = take (2 * half - half) (drop half c.args.table.now) in
    let part : take (2 * half - half) (drop half written) ≡ c.fill.new.slice =
    between-put_mid half (2 * half - half) c.args.table.now c.fill.new.slice (2 * half) (omega (arith, room, c.requires.table)) (search (rules, room, c.requires.table)) in
    let first : (i : ℕ) → i < 2 ^ k → at o c.write_few.new.table (2 ^ k + i) ≡ geometric_term o (two_adic points.log_size) points.shift i =
    λ i h.
    let inside : i < half = omega (arith, h, size) in
    c.write_few.ensures.kept (2 ^ k + i) (omega arith) ∙ ap (λ n. get_or written (n + i) o.zero) (sym size)
    ∙ sym (get_or-take (2 * half - half) (drop half written) i o.zero (omega (arith, inside)) ∙ get_or-drop half written i o.zero)
    ∙ ap (λ l. get_or l i o.zero) (part ∙ c.fill.ensures)
    ∙ get-tabulate (length before) (geometric_term o sequence.result.base sequence.result.current) i o.zero (search (rules, inside, room, c.requires.table))
    ∙ ap₂ (λ b s. geometric_term o b s i) (sequence.ensures.base ∙ c.requires.generator) sequence.ensures.current in
    table-points m.ring two_adic points.shift squares.result.shift points.log_size k c.write_few.new.table one squares.ensures.shift c.write_few.ensures.points first
