-- The names of ports in the state of a design.
use Rattle.std.proofs.Common.{◌≡◌, ℕ, List, [], ◌∷◌, map, refl, ap}
use Rattle.std.proofs.lemmas.Simd.{map-map}
use Rattle.fab_netlist.specs.declared.net_id.NetId.{NetId}
use Rattle.fab_netlist.specs.Packing.{net_of, packed}
use Rattle.fab_netlist.specs.Plain.{PlainNetlist, name_of}
use Rattle.fab_implementation.specs.Plain.{Pad}
use Rattle.fab_flow.specs.fab_use_defs_Registers.{bound_pad}
use Rattle.fab_stimulus.specs.Stimuli.{ports_of}

pub input_names : (lines : List Pad) (ports : List (List ℕ)) → ports_of (map (bound_pad lines) ports) ≡ ports
input_names lines [] = refl
input_names lines (port ∷ ports) = ap (λ (names : List (List ℕ)). port ∷ names) (input_names lines ports)

pub output_names : (lines : List Pad) (ports : List (List ℕ × NetId)) → ports_of (map (λ port. bound_pad lines port.0) ports) ≡ map (λ port. port.0) ports
output_names lines [] = refl
output_names lines (port ∷ ports) = ap (λ (names : List (List ℕ)). port.0 ∷ names) (output_names lines ports)

-- those of a packed netlist are the names of the nets
pub output_ports : (netlist : PlainNetlist) → map (λ port. port.0) (packed netlist).outputs ≡ map (name_of netlist) netlist.outputs
output_ports netlist = map-map (λ (port : List ℕ × NetId). port.0) (λ net. (name_of netlist net, net_of netlist net)) netlist.outputs
