-- The netlist of a flattened text: its nets by number, and what the lines say of them.
use Rattle.std.specs.Prelude.{ℕ, Bool, false, not, List, [], ◌∷◌, ◌++◌, map, filter, flat_map, option_to_list, option_and_then, position, slice_get, Option, Some, None, nat_eq}
use Rattle.std.specs.List.{position_or_len}
use Rattle.indexmap.specs.IndexSet.{insert_all}
use Rattle.fab_blif_models.specs.Plain.{PlainModel}
use Rattle.fab_netlist.specs.declared.netlist.Latch.{Latch}
use Rattle.fab_netlist.specs.Plain.{PlainNetlist}
use Rattle.fab_netlist.specs.Wide.{PlainWide, PlainWideCover, tabled}
use Rattle.fab_blif.specs.declared.design.Use.{Use}
use Rattle.fab_blif.specs.Flat.{PlainNet, net_eq, Placed, placed_inputs, placed_outputs, placed_clock, copied_clock, placed_cover, placed_latch, flat_lines}

-- the nets that a line names, in its order
abbrev pub named : Placed → List PlainNet
named (placed_inputs line nets) = nets
named (placed_outputs line nets) = nets
named (placed_clock line net) = net ∷ []
named (copied_clock line net) = []
named (placed_cover line nets output on rows) = nets ++ output ∷ []
named (placed_latch line input output control initial) = input ∷ output ∷ option_to_list control

-- the nets of a text, each where it is first named
abbrev pub nets_of : List Placed → List PlainNet
nets_of text = insert_all net_eq [] (flat_map named text)

-- the number of a net
abbrev pub number_in : List PlainNet → PlainNet → ℕ
number_in nets net = position_or_len (net_eq net) nets

-- A net that a line names as a clock, and the latch whose control it is, if it is one. It has no number where no other line names it.
pub record PlainClock : Type 0 where
  pub line : ℕ
  pub net : PlainNet
  pub latch : Option Latch

abbrev pub uses : List PlainNet → (line : ℕ) → List PlainNet → List Use
uses nets line names = map (λ net. record { line = line; net = number_in nets net }) names

-- the input ports that `.inputs` declares
abbrev pub inputs_by : List PlainNet → Placed → List Use
inputs_by nets (placed_inputs line names) = uses nets line names
inputs_by nets _ = []

abbrev pub outputs_by : List PlainNet → Placed → List Use
outputs_by nets (placed_outputs line names) = uses nets line names
outputs_by nets _ = []

-- the input ports that `.clock` declares
abbrev pub clock_ports_by : List PlainNet → Placed → List Use
clock_ports_by nets (placed_clock line net) = uses nets line (net ∷ [])
clock_ports_by nets _ = []

abbrev pub covers_by : List PlainNet → Placed → List PlainWideCover
covers_by nets (placed_cover line names output on rows) = record { line = line; inputs = map (number_in nets) names; output = number_in nets output; on = on; rows = rows } ∷ []
covers_by nets _ = []

abbrev pub latch_by : List PlainNet → (input output : PlainNet) → (initial : ℕ) → Latch
latch_by nets input output initial = record { input = number_in nets input; output = number_in nets output; init = initial }

abbrev pub latches_by : List PlainNet → Placed → List Latch
latches_by nets (placed_latch line input output control initial) = latch_by nets input output initial ∷ []
latches_by nets _ = []

abbrev pub latch_lines : Placed → List ℕ
latch_lines (placed_latch line input output control initial) = line ∷ []
latch_lines _ = []

-- the clocks that a line names
abbrev pub clocks_by : List PlainNet → Placed → List PlainClock
clocks_by nets (placed_clock line net) = record { line = line; net = net; latch = None } ∷ []
clocks_by nets (copied_clock line net) = record { line = line; net = net; latch = None } ∷ []
clocks_by nets (placed_latch line input output control initial) = map (λ net. record { line = line; net = net; latch = Some (latch_by nets input output initial) }) (option_to_list control)
clocks_by nets _ = []

-- What the lines of a text say of its nets.
pub record PlainDesign : Type 0 where
  pub nets : List PlainNet
  pub inputs : List Use
  pub outputs : List Use
  pub clock_ports : List Use
  pub covers : List PlainWideCover
  pub latches : List Latch
  pub latch_lines : List ℕ
  pub clocks : List PlainClock

-- where the nets have these numbers
abbrev pub design_by : List PlainNet → List Placed → PlainDesign
design_by nets text = record {
  nets = nets;
  inputs = flat_map (inputs_by nets) text;
  outputs = flat_map (outputs_by nets) text;
  clock_ports = flat_map (clock_ports_by nets) text;
  covers = flat_map (covers_by nets) text;
  latches = flat_map (latches_by nets) text;
  latch_lines = flat_map latch_lines text;
  clocks = flat_map (clocks_by nets) text;
}

abbrev pub design_of : List Placed → PlainDesign
design_of text = design_by (nets_of text) text

-- The number of the clock. All lines that name a clock name the same one, and it is a net of the text.
abbrev pub clock_number : PlainDesign → Option ℕ
clock_number design = option_and_then (λ name. position (net_eq name.net) design.nets) (slice_get design.clocks 0)

abbrev pub is_number : Option ℕ → ℕ → Bool
is_number None number = false
is_number (Some other) number = nat_eq other number

-- the nets of the input ports, without the clock
abbrev pub data_inputs : (clock : Option ℕ) → List Use → List ℕ
data_inputs clock ports = filter (λ net. not (is_number clock net)) (map (λ port. port.net) ports)

-- The netlist of a design, its covers by their rows.
abbrev pub wide_of : PlainDesign → PlainWide
wide_of design = record {
  nets = map (λ net. net.name) design.nets;
  inputs = data_inputs (clock_number design) design.inputs;
  outputs = map (λ port. port.net) design.outputs;
  covers = design.covers;
  latches = design.latches;
}

-- and with tables. A text names no reset port.
abbrev pub netlist_of : PlainDesign → PlainNetlist
netlist_of design = tabled (wide_of design)

-- the netlist of models
abbrev pub flattened : List PlainModel → PlainWide
flattened models = wide_of (design_of (flat_lines models))
