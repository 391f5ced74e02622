-- A small fabric of which the law speaks: two rows, each of a tile with two pads and a tile with a LUT side by side; in frames, and with a
-- chain.
use Rattle.std.specs.Prelude.{◌≡◌, ℕ, List, [], ◌∷◌, ◌++◌, map, codes, Option, Some, None}
use Rattle.std.specs.List.{filter_map}
use Rattle.fab_syntax.specs.Plain.{PlainItem, wire, PlainModule}
use Rattle.fab_fabric_text_defs.specs.fab_meaning_Points.{point}
use Rattle.fab_fabric_text_defs.specs.fab_meaning_Settled.{Assignment}
use Rattle.fab_fabric_text_defs.specs.fab_model_mode_Mode_TheVariants as modes
use Rattle.fab_fabric_text_defs.specs.fab_model_Grid.{PlainFabric}
use Rattle.fab_fabric_text_defs.specs.fab_model_Wires.{dest_of}
use Rattle.fab_fabric_text_defs.specs.fab_model_Drive.{PlainBits}
use Rattle.fab_fabric_text_defs.specs.fab_fabric_Fabric.{fabric_of, in_mode}
use Rattle.fab_fabric_text_defs.specs.fab_fabric_Examples.{pads, lut}
use Rattle.fab_fabric_text_defs.specs.Places.{placed_tiles}
use Rattle.fab_fabric_text_defs.specs.Chain.{chain_source}
use Rattle.fab_tile_drives_laws.specs.Stands.{IsSettledOnDeclared}
use Rattle.fab_drives_laws.specs.Points.{ShowsBits, IsOwn}

abbrev pub small_grid : List (Option ℕ)
small_grid = Some 0 ∷ Some 1 ∷ Some 0 ∷ Some 1 ∷ []

abbrev pub small_fabric : PlainFabric
small_fabric = fabric_of (pads ∷ lut ∷ []) 2 small_grid

-- the same with a chain
abbrev pub small_chain : PlainFabric
small_chain = in_mode modes.Chain small_fabric

-- ---- a wire

-- the wire E1END1 of the tile with the LUT in the second row, by its names in the text, has the value of E1BEG1 of the tile with pads beside it
abbrev pub ShowsCrossing : List PlainModule → Type 0
ShowsCrossing text =
    (bits : PlainBits) (inputs held now : Assignment) → ShowsBits small_fabric bits now →
    IsSettledOnDeclared (IsOwn small_fabric bits 1 1 lut (dest_of 0 1)) text inputs held now →
    now (point (codes "X1Y1" ∷ []) (codes "E1END1") 0) ≡ now (point (codes "X0Y1" ∷ []) (codes "E1BEG1") 0)

-- ---- names

abbrev pub wire_name_of : PlainItem → Option (List ℕ)
wire_name_of (wire shape name) = Some name
wire_name_of _ = None

-- what a module calls its ports and wires
abbrev pub declared_names : PlainModule → List (List ℕ)
declared_names m = map (λ port. port.name) m.ports ++ filter_map wire_name_of m.items

-- those of the small fabric's top: its ports, the nets of the loader, and the wires between tiles
abbrev pub small_port_names : List (List ℕ)
small_port_names =
    codes "CLK" ∷ codes "UserCLK" ∷ codes "WriteStrobe" ∷ codes "WriteData"
    ∷ codes "X0Y0_A_O_top" ∷ codes "X0Y0_A_I_top" ∷ codes "X0Y0_A_T_top" ∷ codes "X0Y0_B_O_top" ∷ codes "X0Y0_B_I_top" ∷ codes "X0Y0_B_T_top"
    ∷ codes "X0Y1_A_O_top" ∷ codes "X0Y1_A_I_top" ∷ codes "X0Y1_A_T_top" ∷ codes "X0Y1_B_O_top" ∷ codes "X0Y1_B_I_top" ∷ codes "X0Y1_B_T_top" ∷ []

abbrev pub small_wire_names : List (List ℕ)
small_wire_names =
    codes "X0Y0_E1BEG_0" ∷ codes "X0Y0_E1BEG_1" ∷ codes "X0Y1_E1BEG_0" ∷ codes "X0Y1_E1BEG_1" ∷ codes "X1Y0_W1BEG_0" ∷ codes "X1Y1_W1BEG_0" ∷ []

abbrev pub small_top_names : List (List ℕ)
small_top_names =
    small_port_names
    ++ (codes "Address" ∷ codes "Strobe" ∷ codes "Row0" ∷ codes "Row1" ∷ codes "fab_strobe_0" ∷ codes "fab_strobe_1" ∷ small_wire_names)

-- with a chain a wire behind each tile, column by column
abbrev pub small_chain_names : List (List ℕ)
small_chain_names =
    small_port_names
    ++ (codes "X0Y0_fab_chain" ∷ codes "X0Y1_fab_chain" ∷ codes "X1Y0_fab_chain" ∷ codes "X1Y1_fab_chain" ∷ small_wire_names)

-- what comes to each tile by the chain
abbrev pub small_sources : List (List ℕ)
small_sources = map (λ placed. chain_source small_chain placed.x placed.y) (placed_tiles small_chain)
