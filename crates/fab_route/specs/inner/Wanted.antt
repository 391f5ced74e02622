-- The nets of the router: the nodes of their roots, and the nodes before their sinks.
use Rattle.std.specs.Prelude.{◌≡◌, ◌↔◌, ℕ, ◌<◌, List, Vec, map, filter, length, Contains}
use Rattle.fab_model.specs.Grid.{PlainFabric}
use Rattle.fab_fabric.specs.Fabric.{wire_count}
use Rattle.fab_fabric.specs.Wires.{numbered_wire}
use Rattle.fab_fabric.specs.declared.wire.Wire.{Wire}
use Rattle.fab_netlist.specs.declared.net_id.NetId.{NetId}
use Rattle.fab_netlist.specs.Packed.{PlainPacked}
use Rattle.fab_implementation.specs.Plain.{PlainImplementation}
use Rattle.fab_legal.specs.inner.Keeping.{AreSites, port_number}
use Rattle.fab_legal.specs.Lines.{named}
use Rattle.fab_legal.specs.Nets.{IsRoot}
use Rattle.fab_legal.specs.Nets as legal
use Rattle.fab_legal.specs.Sinks.{packed_net}
use Rattle.fab_legal.specs.Steps.{IsJoined}
use Rattle.fab_pathfinder.specs.Rounds.{Net}
use Rattle.fab_ways_laws.specs.Placing.{same_net}
use Rattle.fab_ways_laws.specs.Routing.{sinks_of}
use Rattle.fab_nodes_laws.specs.Nets.{AreGoals}
use Rattle.fab_route.specs.Plain.{PlainNodes, graph_of, numbering_of}
use Rattle.fab_route.specs.declared.sources.Sources.{Sources}

-- ---- sinks

-- the numbers of wires by groups, without where they lie in memory
abbrev pub wire_groups : {A : Type 0} → List (Vec Wire A) → List (List ℕ)
wire_groups groups = map (λ group. map (λ (wire : Wire). wire.0) group.items) groups

-- those of some sinks that a net has to reach
abbrev pub sinks_among : List (NetId × Wire) → NetId → List ℕ
sinks_among sinks net = map (λ sink. sink.1.0) (filter (λ sink. same_net sink.0 net) sinks)

-- a wire to which none is joined
pub record IsUnjoined (fabric : PlainFabric) (wire : Wire) : Type 0 where
  pub low : wire.0 < wire_count fabric
  pub unjoined : (from : Wire) → IsJoined fabric from wire → ⊥

-- ---- roots

-- a node whose wire is a root of a net
abbrev pub IsRootNode : PlainFabric → PlainImplementation → PlainNodes → legal.Net → ℕ → Type 0
IsRootNode fabric placement nodes net node =
    (node < (graph_of nodes).nodes) × IsRoot fabric placement net (numbered_wire ((numbering_of nodes).wire node))

abbrev pub AreRoots : PlainFabric → PlainImplementation → PlainNodes → legal.Net → (roots : List ℕ) → Type 0
AreRoots fabric placement nodes net roots = (node : ℕ) → Contains roots node ↔ IsRootNode fabric placement nodes net node

-- for each input port the number of the line that names it
abbrev pub input_lines : PlainPacked → PlainImplementation → List ℕ
input_lines packed placement = map (port_number (named placement.ins)) packed.inputs

-- what is kept of where nets begin
pub record AreSources (fabric : PlainFabric) (packed : PlainPacked) (placement : PlainImplementation) (nodes : PlainNodes) (sources : Sources) : Type 0 where
  pub zeros : AreRoots fabric placement nodes legal.zero_net sources.zeros.items
  pub ones : AreRoots fabric placement nodes legal.one_net sources.ones.items
  pub lines : sources.lines.items ≡ input_lines packed placement
  pub cells : AreSites placement.cells (length packed.cells) sources.cells.items

-- ---- nets

-- a net of the router stands for one of the design
pub record IsNetFor (fabric : PlainFabric) (packed : PlainPacked) (placement : PlainImplementation) (nodes : PlainNodes) (net : NetId) (told : Net) : Type 0 where
  pub roots : AreRoots fabric placement nodes (packed_net packed net) told.roots
  pub goals : AreGoals fabric (graph_of nodes) (numbering_of nodes) (sinks_of fabric packed placement net) told.goals
