-- What the bounds ask of a tile.
use Rattle.std.proofs.Common.{◌≡◌, ◌≤◌, ◌&&◌, Bool, true, List, [], ◌∷◌, length, All}
use Rattle.std.specs.Prelude.{nat_le}
use Rattle.std.specs.List.{list_all}
use Rattle.std.proofs.lemmas.Bool.{and_parts, leb-true}
use Rattle.std.proofs.lemmas.List.Elements.{All-nil, All-cons}
use Rattle.fab_model.specs.declared.tiles.WireRow.{WireRow}
use Rattle.fab_model.specs.Tiles.{PlainTile}
use Rattle.fab_gen_tile.specs.Borders.{border}
use Rattle.fab_sample_laws.proofs.Words.{side_bytes}

-- few wires, with short names
pub record IsShortRow (row : WireRow) : Type 0 where
  pub few : border row ≤ 6
  pub source : side_bytes row.source ≤ 8
  pub dest : side_bytes row.dest ≤ 8

pub record IsSmallTile (tile : PlainTile) : Type 0 where
  pub name : length tile.name ≤ 8
  pub few_rows : length tile.rows ≤ 6
  pub rows : All IsShortRow tile.rows
  pub few_bels : length tile.bels ≤ 2

-- the same of a row as a test
abbrev pub is_short : WireRow → Bool
is_short row = nat_le (border row) 6 && (nat_le (side_bytes row.source) 8 && nat_le (side_bytes row.dest) 8)

short_row : (row : WireRow) → is_short row ≡ true → IsShortRow row
short_row row is =
    let few = and_parts (nat_le (border row) 6) (nat_le (side_bytes row.source) 8 && nat_le (side_bytes row.dest) 8) is in
    let names = and_parts (nat_le (side_bytes row.source) 8) (nat_le (side_bytes row.dest) 8) few.1 in
    record {
      few = leb-true (border row) 6 few.0;
      source = leb-true (side_bytes row.source) 8 names.0;
      dest = leb-true (side_bytes row.dest) 8 names.1;
    }

pub short_rows : (rows : List WireRow) → list_all is_short rows ≡ true → All IsShortRow rows
short_rows [] are = All-nil IsShortRow
short_rows (row ∷ rows) are =
    let parts = and_parts (is_short row) (list_all is_short rows) are in
    All-cons IsShortRow row rows (short_row row parts.0) (short_rows rows parts.1)
