use Rattle.std.proofs.Common.{◌+◌, ◌≤◌, ◌∙◌, ◌-◌, length, drop, take, ap, arith}
use Rattle.p3_calculator_text.proofs.Pieces.{moved, ended}
use Rattle.p3_calculator_text.proofs.memory.MemSourceSource.read.Goals as goal

pub returns-clause-bytes : goal.returns-clause-bytes
returns-clause-bytes c =
    let s = c.args.self.now in
    let d = c.deref.ensures.value in
    let n = c.min-count.result in
    let within : s.at + n ≤ length s.bytes.items = omega (arith, s.bytes.ok.0) in
    (moved s.bytes.items c.args.buf.now _ s.at n within (c.copy_from_slice.ensures.after ∙ ap (λ l. take (s.at + n - s.at) (drop s.at l)) d), λ e h. ended s.bytes.items c.args.buf.now _ s.at n s.piece _ _ e c.min-count.ensures c.min.ensures s.moves (c.len.ensures ∙ s.bytes.ok.0) c.copy_from_slice.ensures.len h (omega arith))
