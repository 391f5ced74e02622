use Rattle.std.proofs.Common.{◌<◌, None, Some}
use Rattle.fab_desk.specs.Memory.{map_of}
use Rattle.fab_outputs.specs.Storing.{IsDone}
use Rattle.fab_sample_runs_laws.specs.fab_simulate_command_Simulating.{HasSimulateCause, MakesTrace, SimulationFiles}
use Rattle.fab_sampling.proofs.Named.{never, simulation_named}
use Rattle.fab_sampling.proofs.Traced.{simulate_ends, traced}
use Rattle.fab_sampling.proofs.run.Run.simulate.Goals as goal

pub returns-in-Ok-clause-traced : goal.returns-in-Ok-clause-traced
returns-in-Ok-clause-traced g c = λ flowed.
    traced c.args.self.now flowed c.flow_files_simulate.ensures (map_of c.do_simulate.new.desk)
    (simulation_named (λ (n : SimulationFiles). IsDone (λ files. MakesTrace files n None) (Some (map_of c.args.self.now.shelf)) (Some (map_of c.do_simulate.new.desk))) _ _ _ _ _
    c.in_ok-verilog.ensures c.in_ok-bit.ensures c.in_ok-state.ensures c.in_ok-stimulus.ensures c.in_ok-trace.ensures c.in-Ok.ensures.done)

pub only_memory-requires : goal.only_memory-requires
only_memory-requires g c =
    simulate_ends c.args.self.now c.requires c.samples_simulate.ensures (0 < 0) (0 < 0) never never c.in-Err.fault
    (simulation_named (λ (n : SimulationFiles). HasSimulateCause (Some (map_of c.args.self.now.shelf)) n (0 < 0) (0 < 0) c.in-Err.fault) _ _ _ _ _
    c.in_ok-verilog.ensures c.in_ok-bit.ensures c.in_ok-state.ensures c.in_ok-stimulus.ensures c.in_ok-trace.ensures c.in-Err.ensures.cause)
