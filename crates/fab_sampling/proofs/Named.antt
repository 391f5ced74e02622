-- The names of a sample's files, as the code has them.
use Rattle.std.proofs.Common.{◌≡◌, ◌<◌, ℕ, List, codes, None, subst, arith}
use Rattle.fab_designs.specs.Designs.{DesignFiles, design_files}
use Rattle.fab_sample_runs_laws.specs.fab_flow_Flowing.{FlowFiles, flow_files}
use Rattle.fab_sample_runs_laws.specs.fab_simulate_command_Simulating.{SimulationFiles, simulation_files}
use Rattle.fab_sample_runs_laws.specs.Commands.{names, simulated}

pub design_named : (P : DesignFiles → Type 0) (fabric blif : List ℕ) → fabric ≡ codes "sample.csv" → blif ≡ codes "sample.blif" → P (design_files fabric blif None) → P names.design
design_named P fabric blif f b p = subst (λ (n : List ℕ). P (design_files n (codes "sample.blif") None)) f (subst (λ (n : List ℕ). P (design_files fabric n None)) b p)

pub flow_named : (P : FlowFiles → Type 0) (fabric blif base : List ℕ) → fabric ≡ codes "sample.csv" → blif ≡ codes "sample.blif" → base ≡ codes "sample"
    → P (flow_files fabric blif None None base) → P names
flow_named P fabric blif base f b e p =
    subst (λ (n : List ℕ). P (flow_files n (codes "sample.blif") None None (codes "sample"))) f
    (subst (λ (n : List ℕ). P (flow_files fabric n None None (codes "sample"))) b (subst (λ (n : List ℕ). P (flow_files fabric blif None None n)) e p))

pub simulation_named : (P : SimulationFiles → Type 0) (verilog bit state stimulus trace : List ℕ) → verilog ≡ codes "sample.v" → bit ≡ codes "sample.bit" → state ≡ codes "sample.state"
    → stimulus ≡ codes "sample.stim" → trace ≡ codes "sample.trace" → P (simulation_files verilog bit state stimulus trace) → P simulated
simulation_named P verilog bit state stimulus trace v b s i t p =
    subst (λ (n : List ℕ). P (simulation_files n (codes "sample.bit") (codes "sample.state") (codes "sample.stim") (codes "sample.trace"))) v
    (subst (λ (n : List ℕ). P (simulation_files verilog n (codes "sample.state") (codes "sample.stim") (codes "sample.trace"))) b
    (subst (λ (n : List ℕ). P (simulation_files verilog bit n (codes "sample.stim") (codes "sample.trace"))) s
    (subst (λ (n : List ℕ). P (simulation_files verilog bit state n (codes "sample.trace"))) i (subst (λ (n : List ℕ). P (simulation_files verilog bit state stimulus n)) t p))))

-- no count of failed calls rises
pub never : 0 < 0 → ⊥
never rose = omega (arith, rose)
