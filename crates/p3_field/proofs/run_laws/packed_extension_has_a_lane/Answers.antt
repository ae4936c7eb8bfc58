use Rattle.p3_field.proofs.run_laws.packed_extension_has_a_lane.Goals as goal

pub returns : goal.returns
returns g c = g.met.PE.ExtensionLanes.some_ext_lane
