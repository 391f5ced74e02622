-- The reader of configuration tables follows their format.
use Rattle.std.proofs.Common.{◌≡◌, ℕ, true, List, [], ◌∷◌, ◌++◌, Ok, map, refl, sym, ap, ◌∙◌, append-nil}
use Rattle.std.specs.List.{flat_map}
use Rattle.std.proofs.lemmas.Grind.{flat_map-append}
use Rattle.std.proofs.lemmas.List.{map_push}
use Rattle.fab_lines.specs.Order.{judged}
use Rattle.fab_lines.proofs.Wholes.{FollowsFormat}
use Rattle.fab_rows.specs.Rows.{PlainRow}
use Rattle.fab_model.specs.Tiles.{PlainTile, tile_bits}
use Rattle.fab_tables.specs.declared.entry.Entry.{Entry}
use Rattle.fab_tables.specs.Config.{frame_of, row_entries, frames_of, entries_of, entry_bits, config_judge, config_format, end_problem, rows_behind}
use Rattle.fab_tables.specs.inner.FollowingConfig.{TableState, after_table_row, row_problem, table_start, table_end, table_of}

-- what is known after rows
abbrev pub table_summary : (bits : ℕ) → List PlainRow → TableState
table_summary bits [] = table_start bits
table_summary bits (first ∷ rows) = record { bits = bits; begun = true; frames = frames_of rows; entries = entries_of rows }

-- one row more
pub frames_more : (rows : List PlainRow) (row : PlainRow) → frames_of (rows ++ row ∷ []) ≡ frames_of rows ++ frame_of row.cells ∷ []
frames_more rows row = map_push (λ (r : PlainRow). frame_of r.cells) rows row

pub entries_more : (rows : List PlainRow) (row : PlainRow) → entries_of (rows ++ row ∷ []) ≡ entries_of rows ++ row_entries row.cells
entries_more rows row =
    let entries : PlainRow → List Entry = λ r. row_entries r.cells in
    flat_map-append entries rows (row ∷ []) ∙ ap (λ back. flat_map entries rows ++ back) (append-nil (entries row))

table_step : (bits : ℕ) (front : List PlainRow) (row : PlainRow) → after_table_row (table_summary bits front) row ≡ judged (config_judge bits front row) (table_summary bits (front ++ row ∷ []))
table_step bits [] row = refl
table_step bits (first ∷ rows) row =
    let frames = sym (frames_more rows row) in
    let entries = sym (entries_more rows row) in
    λ j. judged (row_problem (table_summary bits (first ∷ rows)) row.cells) (record { bits = bits; begun = true; frames = frames j; entries = entries j })

table_finish : (bits : ℕ) (text : List PlainRow) → table_end (table_summary bits text) ≡ judged (end_problem bits text) (table_of bits (entries_of (rows_behind text)))
table_finish bits [] = refl
table_finish bits (first ∷ rows) = refl

pub follows_config : (tile : PlainTile) → FollowsFormat (config_format tile) after_table_row (table_summary (tile_bits tile)) table_end (λ text. table_of (tile_bits tile) (entries_of (rows_behind text)))
follows_config tile = record {
  lines = record { answers = λ front row fine. table_step (tile_bits tile) front row };
  end = λ text fine. table_finish (tile_bits tile) text;
}
