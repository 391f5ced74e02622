-- A tile that is read of a block is a tile, and its table is one.
use Rattle.std.proofs.Common.{◌≡◌, ◌<◌, ◌≤◌, ℕ, Bool, true, false, All, List, [], ◌∷◌, length, get_or, nat_lt, Option, Some, None, refl, sym, subst, ◌∙◌, arith, if◌then◌else◌}
use Rattle.std.specs.Prelude.{not, position, slice_get}
use Rattle.std.specs.List.{IsDistinct, cons_option}
use Rattle.std.specs.Option.{option_and_then}
use Rattle.std.specs.Str.{bytes_eq}
use Rattle.std.proofs.lemmas.Bool.Decides.{nat_tests}
use Rattle.std.proofs.lemmas.List.{ext_get_or}
use Rattle.std.proofs.lemmas.List.Elements.{All-cons, All-nil}
use Rattle.std.proofs.lemmas.Option.{slice_get-get_or}
use Rattle.fab_base.specs.declared.problem.Problem.{Problem}
use Rattle.fab_desk.specs.Files.{Map}
use Rattle.fab_kinds.specs.declared.kind.Kind.{Kind}
use Rattle.fab_rows.specs.Rows.{PlainRow, rows_of}
use Rattle.fab_select.specs.declared.pair.Pair.{Pair as NumberPair}
use Rattle.fab_names.specs.Names.{all_names}
use Rattle.fab_model.specs.Rows.{IsWireRow}
use Rattle.fab_model.specs.Tables.{HasTable}
use Rattle.fab_model.specs.Tiles.{IsPair, IsTile, PlainTile, TileWire, is_matrix_output, matrix_names, tile_bits, wire_passes, with_table}
use Rattle.fab_tables.specs.Config.{SpellsTable, entries_of, rows_behind}
use Rattle.fab_tables.specs.inner.FollowingConfig.{table_of}
use Rattle.fab_tables.specs.Lists.{Pair}
use Rattle.fab_tables.specs.Matrix.{input_number, output_number, passing}
use Rattle.fab_tables.proofs.Tabled.{spelled_table, table_of_rows}
use Rattle.fab_tables.proofs.Wired.{pairs_of_tile}
use Rattle.fab_blocks.specs.Blocks.{IsBlock, PlainBlock, bare, names, new_block, with_row}
use Rattle.fab_blocks.specs.Rows.{WireCells, bel_problem_of, row_of, wire_problem, with_bel_of}
use Rattle.fab_blocks.proofs.Bridge.{is_tile}
use Rattle.fab_blocks.proofs.Fine.{block_with_bel, block_with_row, known_kind}
use Rattle.fab_spelled_fabrics_laws.specs.fab_read_Tiles.{End, ReadsMatrix, ReadsTable, ReadsTile, block_problem, by_default, by_table, most_names, no_matrix, number_pair, pairs_by_number, of_list, of_table, pair_of, paired}
use Rattle.fab_spelled_fabrics_laws.proofs.fab_read_Places.{default_table}
use Rattle.fab_spelled_fabrics_laws.proofs.Keeping.{Keeps}
use Rattle.fab_spelled_fabrics_laws.proofs.Sizes.{HasName, sizes_kept}

-- ---- blocks

-- the block of a tile, whose matrix file does not count
abbrev block_of : PlainTile → PlainBlock
block_of tile = record { name = tile.name; rows = tile.rows; bels = tile.bels; matrix = None }

abbrev pub IsOfBlock : PlainTile → Type 0
IsOfBlock tile = IsBlock (block_of tile)

-- the file of a block's matrix changes nothing
same_names : (block : PlainBlock) → names (block_of (bare block)) ≡ names block
unfolding names
same_names block = refl

from_bare : (block : PlainBlock) → IsOfBlock (bare block) → IsBlock block
from_bare block kept = record { rows = kept.rows; apart = subst (IsDistinct bytes_eq) (same_names block) kept.apart; few_bels = kept.few_bels }

to_bare : (block : PlainBlock) → IsBlock block → IsOfBlock (bare block)
to_bare block is = record { rows = is.rows; apart = subst (IsDistinct bytes_eq) (sym (same_names block)) is.apart; few_bels = is.few_bels }

with_wires : (block : PlainBlock) (cells : WireCells) → IsOfBlock (bare block) → wire_problem block cells ≡ None → IsOfBlock (bare (with_row block (row_of cells)))
with_wires block cells kept fine = to_bare (with_row block (row_of cells)) (block_with_row block cells (from_bare block kept) fine)

with_bels : (block : PlainBlock) (kind : Option Kind) (holder file prefix : List ℕ) → IsOfBlock (bare block) → bel_problem_of block kind holder file prefix ≡ None → IsOfBlock (bare (with_bel_of block kind prefix))
with_bels block None holder file prefix kept fine = absurd (known_kind block holder file prefix fine)
with_bels block (Some kind) holder file prefix kept fine = to_bare (with_bel_of block (Some kind) prefix) (block_with_bel block kind holder file prefix (from_bare block kept) fine)

-- ---- pairs

passing_passes : (test : TileWire → Bool) (tile : PlainTile) (number other : ℕ) (passes : Bool) → wire_passes test tile number ≡ passes → (if passes then Some number else None) ≡ Some other →
    wire_passes test tile other ≡ true
passing_passes test tile number other true is same = subst (λ (n : ℕ). wire_passes test tile n ≡ true) (inner same) is
  where
    inner : Some number ≡ Some other → number ≡ other
    inner e = cc
passing_passes test tile number other false is same = absurd cc

found_passes : (test : TileWire → Bool) (tile : PlainTile) (found : Option ℕ) (other : ℕ) → option_and_then (passing test tile) found ≡ Some other → wire_passes test tile other ≡ true
found_passes test tile None other same = absurd cc
found_passes test tile (Some number) other same = passing_passes test tile number other (wire_passes test tile number) refl same

-- a pair by number is one of the tile
is_pair : (tile : PlainTile) (output input : Option ℕ) (pair : NumberPair) → ((n : ℕ) → output ≡ Some n → wire_passes is_matrix_output tile n ≡ true) →
    ((n : ℕ) → input ≡ Some n → wire_passes (λ wire. not (is_matrix_output wire)) tile n ≡ true) → pair_of output input ≡ Some pair → IsPair tile pair
is_pair tile None input pair outputs inputs same = absurd cc
is_pair tile (Some output) None pair outputs inputs same = absurd cc
is_pair tile (Some output) (Some input) pair outputs inputs same =
    subst (IsPair tile) (inner same) (record { output = outputs output refl; input = inputs input refl })
  where
    inner : Some (record { output = output; input = input }) ≡ Some pair → record { output = output; input = input } ≡ pair
    inner e = cc

pair_of_tile : (tile : PlainTile) (named : Pair) (pair : NumberPair) → number_pair tile named ≡ Some pair → IsPair tile pair
pair_of_tile tile named pair is =
    is_pair tile (output_number tile named.0) (input_number tile named.1) pair
    (λ n found. found_passes is_matrix_output tile (position (bytes_eq named.0) (matrix_names tile)) n found)
    (λ n found. found_passes (λ wire. not (is_matrix_output wire)) tile (position (bytes_eq named.1) (matrix_names tile)) n found) is

pushed_pair : (tile : PlainTile) (found : Option NumberPair) (rest : List NumberPair) → ((pair : NumberPair) → found ≡ Some pair → IsPair tile pair) → All (IsPair tile) rest →
    All (IsPair tile) (cons_option found rest)
pushed_pair tile None rest is all = all
pushed_pair tile (Some pair) rest is all = All-cons (IsPair tile) pair rest (is pair refl) all

pairs_of_list : (tile : PlainTile) (pairs : List Pair) → All (IsPair tile) (pairs_by_number tile pairs)
pairs_of_list tile [] = All-nil (IsPair tile)
pairs_of_list tile (named ∷ pairs) = pushed_pair tile (number_pair tile named) (pairs_by_number tile pairs) (λ pair is. pair_of_tile tile named pair is) (pairs_of_list tile pairs)

pairs_read : (files : Map) (left : ℕ) (tile : PlainTile) (file : Option (List ℕ)) (pairs : List NumberPair) → ReadsMatrix files left tile file pairs → All (IsPair tile) pairs
pairs_read files left tile _ _ no_matrix = All-nil (IsPair tile)
pairs_read files left tile _ _ (of_list {pairs = pairs} is read) = pairs_of_list tile pairs
pairs_read files left tile _ pairs (of_table {bytes = bytes} is found spells) = pairs_of_tile tile _ pairs (spells.whole, spells.in_order)

-- ---- the table

-- rows spell one table
spelled_once : (tile : PlainTile) (rows : List PlainRow) (first second : List (ℕ × ℕ)) → SpellsTable tile rows first → SpellsTable tile rows second → first ≡ second
spelled_once tile rows first second a b =
    ext_get_or (0, 0) first second (a.as_many ∙ sym b.as_many) (λ i below.
    let small : i < tile_bits tile = omega (arith, below, a.as_many) in
    same_item first second i below (omega (arith, small, b.as_many)) (a.each i small ∙ sym (b.each i small)))
  where
    same_item : (xs ys : List (ℕ × ℕ)) (i : ℕ) → i < length xs → i < length ys → slice_get xs i ≡ slice_get ys i → get_or xs i (0, 0) ≡ get_or ys i (0, 0)
    same_item xs ys i here there same = some_is (sym (slice_get-get_or xs i (0, 0) here) ∙ same ∙ slice_get-get_or ys i (0, 0) there)
      where
        some_is : {a b : ℕ × ℕ} → Some a ≡ Some b → a ≡ b
        some_is e = cc

table_read : (files : Map) (tile : PlainTile) (file : Option (List ℕ)) (table : List (ℕ × ℕ)) → tile_bits tile ≤ 640 → ReadsTable files tile file table → HasTable (with_table tile table)
table_read files tile file table few (by_default none has) = default_table tile table few has
table_read files tile file table few (by_table {bytes = bytes} found spells) =
    let rows = rows_of bytes in
    let made = table_of (tile_bits tile) (entries_of (rows_behind rows)) in
    let same : table ≡ made = spelled_once tile rows table made spells (spelled_table tile rows made (spells.whole, refl)) in
    table_of_rows tile rows table (spells.whole, same)

-- ---- the tile

few_names : (block : PlainBlock) → block_problem block ≡ None → length (names block) ≤ 4096
few_names block fine = by_test (nat_lt most_names (length (names block))) _ refl fine
  where
    by_test : (many : Bool) (problem : Problem) → nat_lt most_names (length (names block)) ≡ many → (if many then Some problem else None) ≡ None → length (names block) ≤ 4096
    by_test true problem is none = absurd cc
    by_test false problem is none = grind (arith, nat_tests)

abbrev pub IsRead : PlainTile → Type 0
IsRead tile = IsTile tile × HasTable tile

abbrev pub IsStarted : PlainTile → Type 0
IsStarted tile = HasName tile × IsOfBlock tile

read_tile : (files : Map) (end : End) (block : PlainBlock) (tile : PlainTile) → IsStarted (bare block) → ReadsTile files end block tile → IsRead tile
read_tile files end block tile (named, kept) read =
    let made = with_table (paired block read.pairs) read.table in
    let base = is_tile block (from_bare block kept) (few_names block read.read.few_names) in
    let known : All (IsPair (bare block)) read.pairs = pairs_read files end.left (bare block) block.matrix read.pairs read.read.matrix in
    let pairs : All (IsPair made) read.pairs = λ k d few. (let pair = known k d few in record { output = pair.output; input = pair.input }) in
    let same : ReadsTile files end block made = record { pairs = read.pairs; table = read.table; read = read.read; fitting = read.fitting; placed = read.placed; is = refl } in
    let few : tile_bits made ≤ 640 = (sizes_kept.tile files end block made named same).few_bits in
    let whole : IsTile made = record { rows = base.rows; apart = base.apart; few = base.few; pairs = pairs } in
    subst IsRead (sym read.is) (whole, table_read files (paired block read.pairs) _ read.table few read.placed)

nothing_twice : IsDistinct bytes_eq []
unfolding IsDistinct
nothing_twice = tt

new_names : (name : List ℕ) → names (block_of (bare (new_block name))) ≡ []
unfolding names all_names
new_names name = refl

new_is_block : (name : List ℕ) → IsOfBlock (bare (new_block name))
new_is_block name = record { rows = All-nil IsWireRow; apart = subst (IsDistinct bytes_eq) (sym (new_names name)) nothing_twice; few_bels = omega arith }

pub tiles_kept : Keeps IsStarted IsRead
tiles_kept = record {
  new = λ name is. (sizes_kept.new name is, new_is_block name);
  wire = λ block cells kept fine. (kept.0, with_wires block cells kept.1 fine);
  bel = λ block kind holder file prefix kept fine. (sizes_kept.bel block kind holder file prefix kept.0 fine, with_bels block kind holder file prefix kept.1 fine);
  matrix = λ block file kept. kept;
  tile = read_tile;
}
