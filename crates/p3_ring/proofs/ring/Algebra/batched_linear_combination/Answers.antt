use Rattle.p3_ring.proofs.ring.Algebra.batched_linear_combination.Goals as goal

pub returns-in-1 : goal.returns-in-1
returns-in-1 g c = c.chunked_linear_combination.ensures

pub returns-in-2 : goal.returns-in-2
returns-in-2 g c = c.chunked_linear_combination-in-2.ensures

pub returns-in-4 : goal.returns-in-4
returns-in-4 g c = c.chunked_linear_combination-in-4.ensures

pub returns-in-8 : goal.returns-in-8
returns-in-8 g c = c.chunked_linear_combination-in-8.ensures

pub returns-in-16 : goal.returns-in-16
returns-in-16 g c = c.chunked_linear_combination-in-16.ensures

pub returns-in-32 : goal.returns-in-32
returns-in-32 g c = c.chunked_linear_combination-in-32.ensures

pub returns-in-64 : goal.returns-in-64
returns-in-64 g c = c.chunked_linear_combination-in-64.ensures
