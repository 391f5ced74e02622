-- What the rows of a configuration table say, and why a row is refused. Each row behind the first names a frame, the bits of it
-- that are used, and the configuration bits that stand there.
use Rattle.std.specs.Prelude.{◌≡◌, ◌<◌, ℕ, zero, suc, ◌+◌, ◌-◌, ◌==◌, ◌||◌, ◌&&◌, Bool, true, false, List, [], ◌∷◌, ◌++◌, map, filter, not, nat_eq, nat_lt, nat_le, length, codes, slice_get, slice_index_or, unwrap_or, is_some, option_map, Option, Some, None, if◌then◌else◌}
use Rattle.std.specs.List.{list_all, list_any, find, flat_map, zip, slice_split, before_first, after_first}
use Rattle.std.specs.Str.{bytes_eq, str_eq_ignore_ascii_case}
use Rattle.fab_base.specs.declared.words.Reason.{Reason}
use Rattle.fab_base.specs.declared.words.Reason.TheVariants as reasons
use Rattle.fab_base.specs.declared.problem.Problem.{Problem}
use Rattle.fab_base.specs.declared.problem.Problem.TheVariants as problems
use Rattle.fab_lines.specs.Numbers.{is_number, number_of}
use Rattle.fab_lines.specs.Order.{Format, IsWhole}
use Rattle.fab_rows.specs.Rows.{PlainRow}
use Rattle.fab_model.specs.Tiles.{PlainTile, counted, tile_bits}
use Rattle.fab_tables.specs.declared.entry.Entry.{Entry}

-- an absent cell is as an empty one
abbrev pub cell_at : (cells : List (List ℕ)) → (place : ℕ) → List ℕ
cell_at cells place = slice_index_or cells place []

-- ---- the first row

abbrev pub is_header : (cells : List (List ℕ)) → Bool
is_header cells =
    bytes_eq (cell_at cells 0) (codes "frame_name")
    && bytes_eq (cell_at cells 1) (codes "frame_index")
    && bytes_eq (cell_at cells 2) (codes "bits_used_in_frame")
    && bytes_eq (cell_at cells 3) (codes "used_bits_mask")
    && bytes_eq (cell_at cells 4) (codes "ConfigBits_ranges")

abbrev pub header_problem : (cells : List (List ℕ)) → Option Problem
header_problem cells =
    if not (length cells == 5) then Some (problems.Malformed reasons.Row)
    else if not (is_header cells) then Some (problems.Malformed reasons.Header)
    else None

-- ---- the mask

-- 32 digits `0` and `1`; `_` may stand between them, and at both ends
abbrev pub mask_digits : (mask : List ℕ) → List ℕ
mask_digits mask = filter (λ byte. not (byte == 95)) mask

abbrev pub is_binary_digit : ℕ → Bool
is_binary_digit byte = (byte == 48) || (byte == 49)

abbrev pub is_mask : (mask : List ℕ) → Bool
is_mask mask = (length (mask_digits mask) == 32) && list_all is_binary_digit (mask_digits mask)

-- the bits whose digit is `1`, from the left; a digit's bit is how many digits stand behind it
abbrev pub ones : (digits : List ℕ) → List ℕ
ones [] = []
ones (digit ∷ rest) = if digit == 49 then length rest ∷ ones rest else ones rest

abbrev pub used_bits : (mask : List ℕ) → List ℕ
used_bits mask = ones (mask_digits mask)

-- ---- the ranges

abbrev pub is_colon : ℕ → Bool
is_colon byte = byte == 58

abbrev pub is_semicolon : ℕ → Bool
is_semicolon byte = byte == 59

-- the two ends of an item: a number alone is both
abbrev pub first_end : (item : List ℕ) → List ℕ
first_end item = before_first is_colon item

abbrev pub last_end : (item : List ℕ) → List ℕ
last_end item = if list_any is_colon item then after_first is_colon item else item

abbrev pub is_item : (item : List ℕ) → Bool
is_item item = is_number (first_end item) && is_number (last_end item)

-- the numbers from one to another, in either direction
abbrev pub run : (first last : ℕ) → List ℕ
run first last = if nat_le first last then counted (last + 1 - first) (λ step. first + step) else counted (first + 1 - last) (λ step. first - step)

abbrev pub item_bits : (item : List ℕ) → List ℕ
item_bits item = run (number_of (first_end item)) (number_of (last_end item))

abbrev pub lists_nothing : (ranges : List ℕ) → Bool
lists_nothing ranges = (length ranges == 0) || str_eq_ignore_ascii_case ranges (codes "NULL")

abbrev pub items : (ranges : List ℕ) → List (List ℕ)
items ranges = if lists_nothing ranges then [] else slice_split is_semicolon ranges

abbrev pub are_ranges : (ranges : List ℕ) → Bool
are_ranges ranges = list_all is_item (items ranges)

-- the configuration bits that ranges list, in order
abbrev pub listed_bits : (ranges : List ℕ) → List ℕ
listed_bits ranges = flat_map item_bits (items ranges)

-- ---- a row

-- frames are 0 to 19
abbrev pub frame_count : ℕ
frame_count = 20

abbrev pub frame_of : (cells : List (List ℕ)) → ℕ
frame_of cells = number_of (cell_at cells 1)

abbrev pub row_ones : (cells : List (List ℕ)) → List ℕ
row_ones cells = used_bits (cell_at cells 3)

abbrev pub row_bits : (cells : List (List ℕ)) → List ℕ
row_bits cells = listed_bits (cell_at cells 4)

-- the used bits of a frame, from the left, take the listed configuration bits in order
abbrev pub entry_in : (frame : ℕ) → ℕ × ℕ → Entry
entry_in frame pair = record { bit = pair.0; place = (frame, pair.1) }

abbrev pub entries_with : (frame : ℕ) → (bits places : List ℕ) → List Entry
entries_with frame bits places = map (entry_in frame) (zip bits places)

abbrev pub row_entries : (cells : List (List ℕ)) → List Entry
row_entries cells = entries_with (frame_of cells) (row_bits cells) (row_ones cells)

-- some bit stands among those before it
abbrev pub bits_twice : (before bits : List ℕ) → Bool
bits_twice before [] = false
bits_twice before (bit ∷ more) = list_any (nat_eq bit) before || bits_twice (before ++ bit ∷ []) more

abbrev pub shape_reason : (cells : List (List ℕ)) → Option Reason
shape_reason cells =
    if not ((length cells == 4) || (length cells == 5)) then Some reasons.Row
    else if not (is_number (cell_at cells 1) && is_number (cell_at cells 2)) then Some reasons.Number
    else None

-- why the frame of a row is refused, where these frames have a row already
abbrev pub frame_reason : (frames : List ℕ) → (frame : ℕ) → Option Reason
frame_reason frames frame = if not (nat_lt frame frame_count) || list_any (nat_eq frame) frames then Some reasons.Frame else None

abbrev pub mask_reason : (mask : List ℕ) → (count : ℕ) → Option Reason
mask_reason mask count = if is_mask mask && (length (used_bits mask) == count) then None else Some reasons.Mask

abbrev pub range_reason : (ranges : List ℕ) → (count : ℕ) → Option Reason
range_reason ranges count = if are_ranges ranges && (length (listed_bits ranges) == count) then None else Some reasons.Range

abbrev pub are_below : (bound : ℕ) → (bits : List ℕ) → Bool
are_below bound bits = list_all (λ bit. nat_lt bit bound) bits

-- the tile has fewer configuration bits, or some of these have a place already
abbrev pub outside_reason : (tile_bits : ℕ) → (bits : List ℕ) → Option Reason
outside_reason tile_bits bits = if are_below tile_bits bits then None else Some reasons.Bit

abbrev pub twice_reason : (placed bits : List ℕ) → Option Reason
twice_reason placed bits = if bits_twice placed bits then Some reasons.Bit else None

-- the first of two
abbrev pub or_else : Option Reason → Option Reason → Option Reason
or_else None next = next
or_else (Some reason) next = Some reason

abbrev pub row_reason : (tile_bits : ℕ) → (frames placed : List ℕ) → (cells : List (List ℕ)) → Option Reason
row_reason tile_bits frames placed cells =
    or_else (shape_reason cells)
    (or_else (frame_reason frames (frame_of cells))
    (or_else (mask_reason (cell_at cells 3) (number_of (cell_at cells 2)))
    (or_else (range_reason (cell_at cells 4) (length (row_ones cells)))
    (or_else (outside_reason tile_bits (row_bits cells))
    (twice_reason placed (row_bits cells))))))

-- ---- the table as a whole

abbrev pub entries_of : List PlainRow → List Entry
entries_of rows = flat_map (λ row. row_entries row.cells) rows

abbrev pub frames_of : List PlainRow → List ℕ
frames_of rows = map (λ row. frame_of row.cells) rows

abbrev pub entry_bits : List Entry → List ℕ
entry_bits entries = map (λ entry. entry.bit) entries

abbrev pub config_judge : (tile_bits : ℕ) → (before : List PlainRow) → PlainRow → Option Problem
config_judge tile_bits [] row = header_problem row.cells
config_judge tile_bits (first ∷ before) row =
    option_map problems.Malformed (row_reason tile_bits (frames_of before) (entry_bits (entries_of before)) row.cells)

-- the place that entries give to a bit, if they give one
abbrev pub place_of : List Entry → (bit : ℕ) → Option (ℕ × ℕ)
place_of entries bit = option_map (λ entry. entry.place) (find (λ entry. nat_eq entry.bit bit) entries)

abbrev pub all_below : ℕ → (ℕ → Bool) → Bool
all_below zero test = true
all_below (suc n) test = all_below n test && test n

-- each configuration bit of the tile has a place
abbrev pub is_complete : (tile_bits : ℕ) → List Entry → Bool
is_complete tile_bits entries = all_below tile_bits (λ bit. is_some (place_of entries bit))

abbrev pub end_problem : (tile_bits : ℕ) → List PlainRow → Option Problem
end_problem tile_bits [] = Some (problems.Malformed reasons.EndOfFile)
end_problem tile_bits (first ∷ rows) = if is_complete tile_bits (entries_of rows) then None else Some (problems.Malformed reasons.Bit)

abbrev pub config_format : PlainTile → Format PlainRow
config_format tile = record { number = λ row. row.line; judge = config_judge (tile_bits tile); ending = end_problem (tile_bits tile) }

-- the rows behind the first
abbrev pub rows_behind : List PlainRow → List PlainRow
rows_behind [] = []
rows_behind (first ∷ rows) = rows

-- Nothing is refused, and each configuration bit has the place that the rows give it.
pub record SpellsTable (tile : PlainTile) (rows : List PlainRow) (table : List (ℕ × ℕ)) : Type 0 where
  pub whole : IsWhole (config_format tile) rows
  pub as_many : length table ≡ tile_bits tile
  pub each : (bit : ℕ) → bit < tile_bits tile → slice_get table bit ≡ place_of (entries_of (rows_behind rows)) bit
