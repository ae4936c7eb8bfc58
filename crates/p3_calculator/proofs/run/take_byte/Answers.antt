use Rattle.std.proofs.Common.{◌≤◌, [], ◌∷◌, length, arith, refl}
use Rattle.std.proofs.lemmas.List.{take_more_set, length-take-le}
use Rattle.std.proofs.KnownBytes.{Appends-nil}
use Rattle.p3_calculator.proofs.TakenBytes.{overlong, letters}
use Rattle.p3_calculator.proofs.run.take_byte.Goals as goal

pub returns-then-machine-eq256-clause-takes : goal.returns-then-machine-eq256-clause-takes
returns-then-machine-eq256-clause-takes g c =
    let m = c.args.machine.now in
    let fits : m.line.used ≤ length m.line.bytes = omega (arith, m.line.full) in
    λ before text st. ([], Appends-nil _, overlong m before text c.args.byte st c.if-byte-ne10.true (omega (arith, length-take-le m.line.used m.line.bytes fits)))

pub returns-then-byte-ne10-clause-takes : goal.returns-then-byte-ne10-clause-takes
returns-then-byte-ne10-clause-takes g c =
    let m = c.args.machine.now in
    λ before text st. ([], Appends-nil _, letters m _ before text (c.args.byte ∷ []) st (c.if-byte-ne10.true, tt) refl refl (take_more_set m.line.bytes m.line.used c.args.byte (omega (arith, m.line.full, m.line.within))))

pub returns-clause-takes : goal.returns-clause-takes
returns-clause-takes g c = rw c.if-byte-ne10.false c.carry_out.ensures.takes
