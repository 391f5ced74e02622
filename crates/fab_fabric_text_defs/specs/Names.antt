-- The names that the generator makes in the top module.
use Rattle.std.specs.Prelude.{ℕ, List, ◌∷◌, ◌++◌, codes, decimal}
use Rattle.fab_gen_tile.specs.fab_model.specs.declared.tiles.WireRow.{WireRow}
use Rattle.fab_fabric.specs.Names.{place_name}
use Rattle.fab_gen_tile.specs.Names.{border_name, letter}

abbrev pub top_module_name : List ℕ
top_module_name = codes "eFPGA"

abbrev pub loader_instance_name : List ℕ
loader_instance_name = codes "fab_loader"

-- ---- ports

-- the port of a pad to the outside, as X1Y0_A_O_top
abbrev pub pad_port_name : (x y bel : ℕ) → (port : List ℕ) → List ℕ
pad_port_name x y bel port = place_name x y ++ (codes "_" ++ letter bel ∷ (codes "_" ++ port))

-- ---- wires

-- the frame strobes of a column of tiles
abbrev pub column_strobe_name : (x : ℕ) → List ℕ
column_strobe_name x = codes "fab_strobe_" ++ decimal x

-- the wire behind the bits of the tile at a place in a chain through tiles, as X1Y0_fab_chain
abbrev pub chain_wire_name : (x y : ℕ) → List ℕ
chain_wire_name x y = place_name x y ++ codes "_fab_chain"

-- a border bit that goes out of a row of the tile at a place, as X1Y0_N1BEG_0
abbrev pub begin_wire_name : (x y : ℕ) → WireRow → (bit : ℕ) → List ℕ
begin_wire_name x y row bit = place_name x y ++ (codes "_" ++ border_name row.source bit)
