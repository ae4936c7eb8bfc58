use Rattle.poly_eval.proofs.points.Points.+write_table.Given as goal

abbrev pub decreases-write_table : goal.decreases-write_table
decreases-write_table g l = l.self.log_size
