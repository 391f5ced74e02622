-- The module of a tile's configuration bits. In frames a latch keeps each bit, which has a bit of the frame data while its frame's strobe
-- is 1. In a chain a flip-flop keeps each bit, and takes the bit before it at each tick at which a bit is written.
use Rattle.std.specs.Prelude.{ℕ, zero, suc, true, false, List, [], ◌∷◌, ◌++◌, reverse, slice_index_or}
use Rattle.fab_syntax.specs.declared.tree.Shape.TheVariants.{Scalar}
use Rattle.fab_syntax.specs.declared.tree.Port.{Port}
use Rattle.fab_syntax.specs.Plain.{PlainItem, PlainExpr, PlainModule, variable, part, conditional, concatenation, plain_exprs, reg, assign, latch, clocked}
use Rattle.fab_matrix.specs.fab_meaning.specs.Ports.{scalar, config_name}
use Rattle.fab_matrix.specs.fab_meaning.specs.Runs.{clock_name}
use Rattle.fab_matrix.specs.fab_meaning.specs.Loading.{write_strobe_name}
use Rattle.fab_model.specs.declared.mode.Mode.{Mode}
use Rattle.fab_model.specs.declared.mode.Mode.TheVariants as modes
use Rattle.fab_model.specs.Tiles.{PlainTile, counted, tile_bits}
use Rattle.fab_gen_tile.specs.Names.{config_module_name, frame_data_name, frame_strobe_name, chain_in_name, chain_out_name, latch_name, vector}

-- ---- ports

abbrev pub frame_ports : List Port
frame_ports = vector true 32 frame_data_name ∷ vector true 20 frame_strobe_name ∷ []

abbrev pub chain_ports : List Port
chain_ports = scalar true clock_name ∷ scalar true write_strobe_name ∷ scalar true chain_in_name ∷ scalar false chain_out_name ∷ []

-- the ports by which its bits come to a tile, and on to its configuration
abbrev pub config_ports : Mode → List Port
config_ports modes.Frames = frame_ports
config_ports modes.Chain = chain_ports

-- ---- latches

-- the latch of a bit whose place is a frame and a bit of it
abbrev pub latch_at : (bit : ℕ) → (place : ℕ × ℕ) → PlainItem
latch_at bit place = latch (latch_name bit) (part frame_strobe_name place.0 place.0) (part frame_data_name place.1 place.1)

-- the latch of a bit of a tile; tables give a place to each bit
abbrev pub bit_latch : PlainTile → (bit : ℕ) → PlainItem
bit_latch tile bit = latch_at bit (slice_index_or tile.table bit (0, 0))

-- ---- a chain

-- what stands before a bit in the chain of its tile: the bit before it, and before the first what comes in
abbrev pub before_bit : (bit : ℕ) → List ℕ
before_bit zero = chain_in_name
before_bit (suc bit) = latch_name bit

-- the flip-flop of a bit
abbrev pub bit_flop : (bit : ℕ) → PlainItem
bit_flop bit = clocked clock_name (latch_name bit) (conditional (variable write_strobe_name) (variable (before_bit bit)) (variable (latch_name bit)))

-- what goes out behind so many bits; without any it is what comes in
abbrev pub chain_end : (bits : ℕ) → PlainItem
chain_end bits = assign chain_out_name (variable (before_bit bits))

-- ---- the module

-- what keeps the bits
abbrev pub keeping_items : Mode → PlainTile → List PlainItem
keeping_items modes.Frames tile = counted (tile_bits tile) (bit_latch tile)
keeping_items modes.Chain tile = counted (tile_bits tile) bit_flop ++ chain_end (tile_bits tile) ∷ []

-- all bits that are kept, the last of them first
abbrev pub all_latches : (bits : ℕ) → PlainExpr
all_latches bits = concatenation (plain_exprs (reverse (counted bits (λ bit. variable (latch_name bit)))))

abbrev pub config_items : Mode → PlainTile → List PlainItem
config_items mode tile =
    counted (tile_bits tile) (λ bit. reg Scalar (latch_name bit))
    ++ (keeping_items mode tile
    ++ assign config_name (all_latches (tile_bits tile)) ∷ [])

-- It is written where the tile has configuration bits.
abbrev pub config_module : Mode → PlainTile → PlainModule
config_module mode tile = record {
  name = config_module_name tile;
  ports = config_ports mode ++ vector false (tile_bits tile) config_name ∷ [];
  items = config_items mode tile;
}
