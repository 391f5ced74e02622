-- A tile block so far.
use Rattle.std.specs.Prelude.{◌≡◌, ◌≤◌, ℕ, Bool, true, All, List, [], ◌∷◌, ◌++◌, map, length, Option, Some, None}
use Rattle.std.specs.List.{IsDistinct, flat_map}
use Rattle.std.specs.Str.{bytes_eq}
use Rattle.fab_kinds.specs.Pins.{pin_names}
use Rattle.fab_lines.specs.Numbers.{capped}
use Rattle.fab_model.specs.declared.tiles.WireRow.{WireRow}
use Rattle.fab_model.specs.declared.tiles.Bel.{Bel}
use Rattle.fab_model.specs.Rows.{IsWireRow, source_bits, dest_bits}
use Rattle.fab_model.specs.Tiles.{PlainTile, bare_tile}
use Rattle.fab_names.specs.Names.{PlainFamily, PlainNames, names_of, sides_of, all_names}

-- Counts of wires have no bound here: how many matrix names a block has is judged at its end.
pub record PlainBlock : Type 0 where
  pub name : List ℕ
  pub rows : List WireRow
  pub bels : List Bel
  -- the file of its switch matrix, where a row has named it
  pub matrix : Option (List ℕ)

abbrev pub new_block : (name : List ℕ) → PlainBlock
new_block name = record { name = name; rows = []; bels = []; matrix = None }

-- the tile of a block, without pairs and without places of configuration bits
abbrev pub bare : PlainBlock → PlainTile
bare block = bare_tile block.name block.rows block.bels

-- the bits of one side of a row, where it is there
abbrev pub side_of : Option (List ℕ) → (bits : ℕ) → Option PlainFamily
side_of None bits = None
side_of (Some name) bits = Some (record { base = name; bits = bits })

abbrev pub source_of : WireRow → Option PlainFamily
source_of row = side_of row.source (source_bits row)

abbrev pub dest_of : WireRow → Option PlainFamily
dest_of row = side_of row.dest (dest_bits row)

abbrev pub row_families : WireRow → List PlainFamily
row_families row = sides_of (source_of row) (dest_of row)

-- the matrix names of a row of wires: its source bits, and then its destination bits
unfoldable pub row_names : WireRow → List (List ℕ)
row_names row = names_of (row_families row)

-- those of a BEL
abbrev pub bel_names : Bel → List (List ℕ)
bel_names bel = map (λ pin. bel.prefix ++ pin) (pin_names bel.kind)

-- The matrix names of a block, row by row and then BEL by BEL. They are those of its tile; but they are right for counts of any size, too.
abbrev pub plain_names : PlainBlock → PlainNames
plain_names block = record { families = flat_map row_families block.rows; pins = flat_map bel_names block.bels }

unfoldable pub names : PlainBlock → List (List ℕ)
names block = all_names (plain_names block)

-- ---- one row more

abbrev pub with_row : PlainBlock → WireRow → PlainBlock
with_row block row = record { name = block.name; rows = block.rows ++ row ∷ []; bels = block.bels; matrix = block.matrix }

abbrev pub with_bel : PlainBlock → Bel → PlainBlock
with_bel block bel = record { name = block.name; rows = block.rows; bels = block.bels ++ bel ∷ []; matrix = block.matrix }

abbrev pub with_matrix : PlainBlock → (file : List ℕ) → PlainBlock
with_matrix block file = record { name = block.name; rows = block.rows; bels = block.bels; matrix = Some file }

-- what holds of every block that rows make
pub record IsBlock (block : PlainBlock) : Type 0 where
  pub rows : All IsWireRow block.rows
  pub apart : IsDistinct bytes_eq (names block)
  pub few_bels : length block.bels ≤ 26

-- what a block keeps beside its rows: its names, which lack some only after memory was refused, and how many there are
pub record IsKept (block : PlainBlock) (kept : PlainNames) (is_whole : Bool) (count : ℕ) : Type 0 where
  pub is_block : IsBlock block
  pub same : is_whole ≡ true → kept ≡ plain_names block
  pub counted : count ≡ capped (length (names block))
