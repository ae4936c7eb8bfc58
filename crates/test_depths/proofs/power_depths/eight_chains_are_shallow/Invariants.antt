use Rattle.test_depths.proofs.power_depths.eight_chains_are_shallow.Given as goal

abbrev pub ghosts-collected_depth : goal.ghosts-collected_depth
ghosts-collected_depth g a = record { place = a.depths.ref_ptr }
