-- What is known of the flattened text after one line of it after another.
use Rattle.std.specs.Prelude.{ℕ, Bool, List, [], ◌∷◌, ◌++◌, Vec, map, fold, Some, None, option_to_list}
use Rattle.indexmap.specs.IndexSet.{insert_all, insert_key}
use Rattle.fab_netlist.specs.declared.netlist.Latch.{Latch}
use Rattle.fab_netlist.specs.declared.wide.Cube.{Cube}
use Rattle.fab_blif.specs.declared.design.ClockName.{ClockName}
use Rattle.fab_blif.specs.declared.design.Use.{Use}
use Rattle.fab_blif.specs.declared.net.Net.{Net}
use Rattle.fab_blif.specs.Flat.{PlainNet, net_eq, Placed, placed_inputs, placed_outputs, placed_clock, copied_clock, placed_cover, placed_latch}
use Rattle.fab_blif.specs.Design.{PlainClock, PlainDesign, number_in}

abbrev pub plain_net : Net → PlainNet
plain_net net = record { depth = net.depth; name = net.name.items }

abbrev pub plain_nets : List Net → List PlainNet
plain_nets nets = map plain_net nets

abbrev pub plain_clock : ClockName → PlainClock
plain_clock name = record { line = name.line; net = plain_net name.net; latch = name.latch }

-- the joins that a map holds
abbrev pub plain_joins : {A : Type 0} → List (Vec ℕ A × Net) → List (List ℕ × PlainNet)
plain_joins entries = map (λ entry. (entry.0.items, plain_net entry.1)) entries

-- ---- nets by number as they come

-- the numbers that nets get one after another
abbrev pub net_numbers : List PlainNet → List PlainNet → List ℕ
net_numbers nets [] = []
net_numbers nets (net ∷ more) = number_in nets net ∷ net_numbers (insert_key net_eq nets net) more

abbrev pub used_at : (line : ℕ) → List ℕ → List Use
used_at line numbers = map (λ number. record { line = line; net = number }) numbers

abbrev pub with_inputs : PlainDesign → ℕ → List PlainNet → PlainDesign
with_inputs design line names = record design { nets = insert_all net_eq design.nets names; inputs = design.inputs ++ used_at line (net_numbers design.nets names) }

abbrev pub with_outputs : PlainDesign → ℕ → List PlainNet → PlainDesign
with_outputs design line names = record design { nets = insert_all net_eq design.nets names; outputs = design.outputs ++ used_at line (net_numbers design.nets names) }

abbrev pub with_clock : PlainDesign → ℕ → PlainNet → PlainDesign
with_clock design line net = record design { clocks = design.clocks ++ record { line = line; net = net; latch = None } ∷ [] }

abbrev pub with_clock_port : PlainDesign → ℕ → PlainNet → PlainDesign
with_clock_port design line net = record design { nets = insert_key net_eq design.nets net; clock_ports = design.clock_ports ++ used_at line (number_in design.nets net ∷ []) }

abbrev pub with_cover : PlainDesign → ℕ → List PlainNet → PlainNet → (on : Bool) → (rows : List Cube) → PlainDesign
with_cover design line names output on rows = record design {
  nets = insert_key net_eq (insert_all net_eq design.nets names) output;
  covers = design.covers ++ record { line = line; inputs = net_numbers design.nets names; output = number_in (insert_all net_eq design.nets names) output; on = on; rows = rows } ∷ [];
}

abbrev pub clocked : (line : ℕ) → Latch → List PlainNet → List PlainClock
clocked line latch nets = map (λ net. record { line = line; net = net; latch = Some latch }) nets

abbrev pub with_control : PlainDesign → ℕ → Latch → List PlainNet → PlainDesign
with_control design line latch nets = record design { nets = insert_all net_eq design.nets nets; clocks = design.clocks ++ clocked line latch nets }

-- a latch where its nets come next
abbrev pub latch_next : List PlainNet → (input output : PlainNet) → (initial : ℕ) → Latch
latch_next nets input output initial = record { input = number_in nets input; output = number_in (insert_key net_eq nets input) output; init = initial }

abbrev pub with_latch : PlainDesign → ℕ → PlainNet → PlainNet → ℕ → PlainDesign
with_latch design line input output initial = record design {
  nets = insert_key net_eq (insert_key net_eq design.nets input) output;
  latches = design.latches ++ latch_next design.nets input output initial ∷ [];
  latch_lines = design.latch_lines ++ line ∷ [];
}

-- a design after one more line
abbrev pub after : PlainDesign → Placed → PlainDesign
after design (placed_inputs line names) = with_inputs design line names
after design (placed_outputs line names) = with_outputs design line names
after design (placed_clock line net) = with_clock (with_clock_port design line net) line net
after design (copied_clock line net) = with_clock design line net
after design (placed_cover line names output on rows) = with_cover design line names output on rows
after design (placed_latch line input output control initial) = with_control (with_latch design line input output initial) line (latch_next design.nets input output initial) (option_to_list control)

abbrev pub after_all : PlainDesign → List Placed → PlainDesign
after_all design text = fold after design text

abbrev pub nothing : PlainDesign
nothing = record { nets = []; inputs = []; outputs = []; clock_ports = []; covers = []; latches = []; latch_lines = []; clocks = [] }
