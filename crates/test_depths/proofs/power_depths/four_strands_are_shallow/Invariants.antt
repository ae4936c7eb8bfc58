use Rattle.test_depths.proofs.power_depths.four_strands_are_shallow.Given as goal

abbrev pub ghosts-polynomial_depth : goal.ghosts-polynomial_depth
ghosts-polynomial_depth g a = record { place = a.depths.ref_ptr }
