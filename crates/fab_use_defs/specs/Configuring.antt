-- When configuration bits are those of a design.
use Rattle.std.specs.Prelude.{◌≡◌, ◌<◌, ℕ, ◌+◌, Bool, false, ◌&&◌, Contains, Some, is_some, nat_eq, nat_lt, if◌then◌else◌}
use Rattle.std.specs.Option.{option_map_or}
use Rattle.fab_model.specs.Tiles.{PlainTile, bits_before}
use Rattle.fab_model.specs.Wires.{PlainWire, IsMatrixOutput}
use Rattle.fab_model.specs.Grid.{PlainFabric, tile_at}
use Rattle.fab_model.specs.Drive.{PlainBits}
use Rattle.fab_text_loads_laws.specs.fab_fabric_Wires.{IsIndexOf}
use Rattle.fab_text_loads_laws.specs.fab_fabric_wire_Site.{Site}
use Rattle.fab_state.specs.fab_netlist.specs.Meaning.{begins_high}
use Rattle.fab_state.specs.fab_netlist.specs.WellMade.{table_bit}
use Rattle.fab_state.specs.fab_netlist.specs.Packed.{PlainCell, PlainPacked}
use Rattle.fab_state.specs.fab_implementation.specs.Plain.{Edge, PlainTree, PlainImplementation}
use Rattle.fab_text_loads_laws.specs.fab_tile_drives_laws_Tiles.{picked}
use Rattle.fab_use_defs.specs.Design.{IsBound}

-- The 19 configuration bits of the LUT4c of a cell: 0 to 15 are its table, and 16 selects the flip-flop where the cell has a latch; 17 leaves
-- I0 in the index. 18 is what a reset loads: 1 for a latch that begins with 1, in a design with a reset port.
abbrev pub cell_bit : (resets : Bool) → PlainCell → (bit : ℕ) → Bool
cell_bit resets cell bit =
    if nat_lt bit 16 then table_bit cell.table bit
    else if nat_eq bit 16 then is_some cell.latch
    else (nat_eq bit 18 && (resets && option_map_or begins_high cell.latch false))

-- Each site of a cell has these bits, and each edge into an output of a switch matrix is what the matrix picks there.
pub record Configures (fabric : PlainFabric) (packed : PlainPacked) (implementation : PlainImplementation) (bits : PlainBits) : Type 0 where
  pub cells : (cell_number bit : ℕ) (site : Site) (cell : PlainCell) (tile : PlainTile) → IsBound packed implementation cell_number site cell →
      tile_at fabric site.x site.y ≡ Some tile → bit < 19 → bits site.x site.y (bits_before tile.bels site.bel + bit) ≡ cell_bit (is_some packed.reset) cell bit
  pub edges : (tree : PlainTree) (edge : Edge) (x y : ℕ) (tile : PlainTile) (output input : PlainWire) → Contains implementation.trees tree → Contains tree.edges edge →
      tile_at fabric x y ≡ Some tile → IsIndexOf fabric edge.1.0 x y output → IsMatrixOutput tile output → IsIndexOf fabric edge.0.0 x y input →
      picked tile (bits x y) output ≡ Some input
