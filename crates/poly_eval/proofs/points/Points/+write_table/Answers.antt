use Rattle.std.proofs.Common.{◌≤◌, ◌^◌, arith}
use Rattle.std.proofs.Math.Nat.{pow-le-pow_right}
use Rattle.poly_eval.proofs.PointTables.{table-of-points}
use Rattle.poly_eval.proofs.points.Points.+write_table.Goals as goal

pub returns-else-self-le-LOG_TABLE-clause-points : goal.returns-else-self-le-LOG_TABLE-clause-points
returns-else-self-le-LOG_TABLE-clause-points g t c =
    let squares = c.squares in
    let most : 2 ^ 7 ≤ 2 ^ c.args.self.log_size = pow-le-pow_right {n = 2} (omega arith) {i = 7} {j = c.args.self.log_size} (omega (arith, c.if-self-le-LOG_TABLE.false)) in
    table-of-points g.met.F.PrimeCharacteristicRing.ring g.F.TwoAdicField.two_adic c.args.self.shift squares.result.shift c.args.self.log_size squares.result.log_size c.write_table.new.table
    (omega (arith, c.if-self-le-LOG_TABLE.false, squares.ensures.log_size)) (omega (arith, most, c.write_table.ensures.length)) squares.ensures.shift c.write_table.ensures.points
