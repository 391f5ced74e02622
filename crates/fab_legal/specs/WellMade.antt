-- What holds of a packed design.
use Rattle.std.specs.Prelude.{◌≡◌, ◌≢◌, ℕ, ◌+◌, ◌<◌, ◌≤◌, ◌%◌, ◌^◌, All, AllPairs, List, ◌++◌, length, map, Some, Ok}
use Rattle.fab_implementation.specs.fab_netlist.specs.declared.net_id.NetId.{NetId}
use Rattle.fab_implementation.specs.fab_netlist.specs.declared.net_id.NetId.TheVariants as ids
use Rattle.fab_implementation.specs.fab_netlist.specs.Plain.{PlainNetlist}
use Rattle.fab_implementation.specs.fab_netlist.specs.WellMade.{IsWellMade, most_nets, table_bit}
use Rattle.fab_implementation.specs.fab_netlist.specs.Packed.{PlainCell, PlainPacked}
use Rattle.fab_implementation.specs.fab_netlist.specs.Packing.{packing}

abbrev pub output_name : List ℕ × NetId → List ℕ
output_name output = output.0

abbrev pub output_ports : PlainPacked → List (List ℕ)
output_ports packed = map output_name packed.outputs

-- the data ports, inputs first
abbrev pub ports : PlainPacked → List (List ℕ)
ports packed = packed.inputs ++ output_ports packed

-- a net of the design, by the numbers of its inputs and cells
abbrev pub IsNetId : PlainPacked → NetId → Type 0
IsNetId packed ids.Zero = Unit {0}
IsNetId packed ids.One = Unit {0}
IsNetId packed (ids.In number) = number < length packed.inputs
IsNetId packed (ids.Cell number) = number < length packed.cells

pub record IsWellMadeCell (packed : PlainPacked) (cell : PlainCell) : Type 0 where
  pub few_inputs : length cell.inputs ≤ 4
  pub nets : All (IsNetId packed) cell.inputs
  pub repeats : (place : ℕ) → place < 16 → table_bit cell.table place ≡ table_bit cell.table (place % 2 ^ length cell.inputs)
  pub initial : (init : ℕ) → cell.latch ≡ Some init → init ≤ 3

pub record IsWellMadePacked (packed : PlainPacked) : Type 0 where
  pub few_cells : length packed.cells ≤ most_nets
  pub few_ports : length packed.inputs + length packed.outputs ≤ most_nets
  pub cells : All (IsWellMadeCell packed) packed.cells
  pub nets : All (λ output. IsNetId packed output.1) packed.outputs
  pub reset_below : (place : ℕ) → packed.reset ≡ Some place → place < length packed.inputs
  pub ports_differ : AllPairs (λ first second. first ≢ second) (ports packed)

-- what packing gives of a netlist is well made
abbrev pub PackedIsWellMade : Type 0
PackedIsWellMade =
    (netlist : PlainNetlist) (luts pads : ℕ) (packed : PlainPacked) → IsWellMade netlist → packing netlist luts pads ≡ Ok packed → IsWellMadePacked packed
