use Rattle.poly_eval.proofs.points.Points.+write_few.Given as goal

abbrev pub decreases-write_few : goal.decreases-write_few
decreases-write_few g l = l.self.log_size
