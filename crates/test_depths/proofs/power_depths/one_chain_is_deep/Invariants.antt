use Rattle.test_depths.proofs.power_depths.one_chain_is_deep.Given as goal

abbrev pub ghosts-chained_depth : goal.ghosts-chained_depth
ghosts-chained_depth g a = record { place = a.depths.ref_ptr }
