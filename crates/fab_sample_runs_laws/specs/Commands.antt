-- The commands that a sample runs through, by the names of their files.
use Rattle.std.specs.Prelude.{ℕ, codes, None}
use Rattle.fab_flow_laws.specs.fab_flow_Flowing.{FlowFiles, flow_files}
use Rattle.fab_flow_laws.specs.fab_simulate_command_Simulating.{SimulationFiles, simulation_files}

-- `flow sample.csv sample.blif sample`, which may take 32 rounds
abbrev pub names : FlowFiles
names = flow_files (codes "sample.csv") (codes "sample.blif") None None (codes "sample")

abbrev pub rounds : ℕ
rounds = 32

-- `simulate sample.v sample.bit sample.state sample.stim sample.trace`
abbrev pub simulated : SimulationFiles
simulated = simulation_files (codes "sample.v") (codes "sample.bit") (codes "sample.state") (codes "sample.stim") (codes "sample.trace")
