-- The features that configuration bits spell: each field of a BEL that is not 0, and the input of each output of a switch matrix that does not
-- have its first input.
use Rattle.std.specs.Prelude.{ℕ, ◌+◌, ◌-◌, Bool, List, [], ◌∷◌, ◌++◌, length, codes, nat_eq, slice_get, slice_index_or, option_map, Option, None, if◌then◌else◌}
use Rattle.std.specs.List.{flat_map, filter_map}
use Rattle.std.specs.Option.{option_map_or}
use Rattle.fab_bits.specs.Bits.{number, first_bits}
use Rattle.fab_kinds.specs.declared.kind.Kind.{Kind}
use Rattle.fab_kinds.specs.declared.kind.Kind.TheVariants as kinds
use Rattle.fab_select.specs.Selection.{in_order}
use Rattle.fab_model.specs.Tiles.{PlainTile, counted, matrix_names, numbered_pairs, bits_before}
use Rattle.fab_model.specs.Grid.{PlainFabric}
use Rattle.fab_model.specs.Drive.{PlainBits, select_value, matrix_inputs}
use Rattle.fab_fabric.specs.Names.{place_name}
use Rattle.fab_fabric.specs.declared.wire.Site.{Site}
use Rattle.fab_fasm.specs.declared.feature.Feature.{Feature}
use Rattle.fab_fasm.specs.Printing.{line_by_line}
use Rattle.fab_use_defs.specs.fab_fabric_text_defs_Places.{PlacedTile, placed_tiles}
use Rattle.fab_features.specs.Design.{feature_of, field_name, site_in}

-- the bits of a tile, by number
abbrev pub TileBits : Type 0
TileBits = ℕ → Bool

-- the number that bits from this one on spell, the least significant first
abbrev pub value_of : TileBits → (low width : ℕ) → ℕ
value_of bits low width = number (first_bits width (λ place. bits (low + place)))

-- nothing where the value is 0
abbrev pub unless_zero : (name : List ℕ) → (high value : ℕ) → List Feature
unless_zero name high value = if nat_eq value 0 then [] else feature_of name high 0 value ∷ []

-- ---- BELs

-- a field of the BEL at a site, whose bits begin at this one
abbrev pub field_features : TileBits → Site → (field : List ℕ) → (low width : ℕ) → List Feature
field_features bits site field low width = unless_zero (field_name site field) (width - 1) (value_of bits low width)

abbrev pub kind_features : TileBits → Site → (low : ℕ) → Kind → List Feature
kind_features bits site low kinds.Lut4c =
    field_features bits site (codes "INIT") low 16 ++ field_features bits site (codes "FF") (low + 16) 1 ++ field_features bits site (codes "IOmux") (low + 17) 1
    ++ field_features bits site (codes "SET_NORESET") (low + 18) 1
kind_features bits site low kinds.Io = []
kind_features bits site low kinds.Mux8 = field_features bits site (codes "c0") low 1 ++ field_features bits site (codes "c1") (low + 1) 1

abbrev pub bel_features : TileBits → PlacedTile → (bel : ℕ) → List Feature
bel_features bits placed bel = option_map_or (λ found. kind_features bits (site_in placed bel) (bits_before placed.tile.bels bel) found.kind) (slice_get placed.tile.bels bel) []

-- ---- the switch matrix

-- the input that the select bits of an output pick, unless it is the first, or there are fewer
abbrev pub picked_input : PlainTile → TileBits → (output : ℕ) → Option ℕ
picked_input tile bits output = if nat_eq (select_value tile bits output) 0 then None else slice_get (matrix_inputs tile output) (select_value tile bits output)

-- as X1Y2.E1END0.LA_I0: the input, and then the output
abbrev pub tile_pair_name : PlacedTile → (input output : ℕ) → List ℕ
tile_pair_name placed input output =
    place_name placed.x placed.y ++ codes "." ++ slice_index_or (matrix_names placed.tile) input [] ++ codes "." ++ slice_index_or (matrix_names placed.tile) output []

abbrev pub tile_picks : TileBits → PlacedTile → (output : ℕ) → Option Feature
tile_picks bits placed output = option_map (λ input. feature_of (tile_pair_name placed input output) 0 0 1) (picked_input placed.tile bits output)

-- ---- all of them

-- by letter those of the BELs, and then the outputs in the order of their first pairs
abbrev pub tile_spells : TileBits → PlacedTile → List Feature
tile_spells bits placed =
    flat_map (bel_features bits placed) (counted (length placed.tile.bels) (λ bel. bel))
    ++ filter_map (tile_picks bits placed) (in_order nat_eq (numbered_pairs placed.tile))

abbrev pub place_spells : PlainBits → PlacedTile → List Feature
place_spells bits placed = tile_spells (bits placed.x placed.y) placed

-- column by column, in a column from the top; line numbers count from 1
abbrev pub features_in : PlainFabric → PlainBits → List Feature
features_in fabric bits = line_by_line 1 (flat_map (place_spells bits) (placed_tiles fabric))
