-- What the block of a tile says with the files that it names: its switch matrix, and the places of its configuration bits.
use Rattle.std.specs.Prelude.{◌≡◌, ◌<◌, ℕ, Bool, true, false, List, [], ◌++◌, map, length, codes, is_some, nat_eq, nat_lt, slice_index_or, if◌then◌else◌, Option, Some, None, Result, Ok, Err}
use Rattle.std.specs.List.{list_all, filter_map, ends_with}
use Rattle.fab_base.specs.Reading.{fault_at}
use Rattle.fab_base.specs.declared.fault.Fault.{Fault}
use Rattle.fab_base.specs.declared.words.Reason.TheVariants as reasons
use Rattle.fab_base.specs.declared.words.Quantity.TheVariants as quantities
use Rattle.fab_base.specs.declared.problem.Problem.{Problem}
use Rattle.fab_base.specs.declared.problem.Problem.TheVariants as problems
use Rattle.fab_desk.specs.Files.{Map}
use Rattle.fab_lines.specs.Numbers.{capped}
use Rattle.fab_lines.specs.Order.{IsTextFault}
use Rattle.fab_paths.specs.Paths.{file_of}
use Rattle.fab_rows.specs.Rows.{rows_of}
use Rattle.fab_select.specs.declared.pair.Pair.{Pair as NumberPair}
use Rattle.fab_model.specs.Tiles.{PlainTile, pair_numbers, with_pairs, with_table, tile_bits}
use Rattle.fab_tables.specs.Lists.{Pair}
use Rattle.fab_tables.specs.Matrix.{output_number, input_number, pair_with, matrix_format, SpellsMatrix}
use Rattle.fab_tables.specs.Config.{config_format, SpellsTable}
use Rattle.fab_tables.specs.Frames.{default_place}
use Rattle.fab_lines.specs.Counts.{last_line}
use Rattle.fab_files.specs.Files.{handed_out, handed_out_if_there, Event, asks, refuses, MeetsFile}
use Rattle.fab_list_files.specs.Lists.{Knowledge, ReadsListFile, MeetsListFile}
use Rattle.fab_list_files.specs.Sides.{crowd, crowd_limit}
use Rattle.fab_blocks.specs.Blocks.{PlainBlock, bare, names}

-- where a block ends: the file and the line of its end, and how many INCLUDE rows may still be opened there
pub record End : Type 0 where
  pub file : List ℕ
  pub line : ℕ
  pub left : ℕ

-- ---- the switch matrix

abbrev pub pair_of : (output input : Option ℕ) → Option NumberPair
pair_of (Some output) (Some input) = Some (pair_with output input)
pair_of _ _ = None

-- a pair by number, where the tile has its output and its input
abbrev pub number_pair : PlainTile → Pair → Option NumberPair
number_pair tile pair = pair_of (output_number tile pair.0) (input_number tile pair.1)

abbrev pub is_known : PlainTile → Pair → Bool
is_known tile pair = is_some (number_pair tile pair)

abbrev pub known_in : PlainTile → Knowledge
known_in tile before new = if list_all (is_known tile) new then None else Some reasons.UnknownName

abbrev pub pairs_by_number : PlainTile → List Pair → List NumberPair
pairs_by_number tile pairs = filter_map (number_pair tile) pairs

-- a matrix file is a table where its name ends so, and else a switch list
abbrev pub is_table : (file : List ℕ) → Bool
is_table file = ends_with nat_eq file (codes ".csv")

-- The pairs that the matrix file of a block says, where it has one.
pub data ReadsMatrix (files : Map) (left : ℕ) (tile : PlainTile) : (file : Option (List ℕ)) → List NumberPair → Type 0 where
  no_matrix : ReadsMatrix files left tile None []
  of_list : {file : List ℕ} {pairs : List Pair} → is_table file ≡ false → ReadsListFile files (known_in tile) left file [] pairs → ReadsMatrix files left tile (Some file) (pairs_by_number tile pairs)
  of_table : {file bytes : List ℕ} {pairs : List NumberPair} → is_table file ≡ true → handed_out files file ≡ Ok bytes → SpellsMatrix tile (rows_of bytes) pairs → ReadsMatrix files left tile (Some file) pairs

-- what a reader of the matrix file comes upon
pub data MeetsMatrix (files : Map) (left : ℕ) (tile : PlainTile) : (file : Option (List ℕ)) → Event → Type 0 where
  in_list : {file : List ℕ} {event : Event} → is_table file ≡ false → MeetsListFile files (known_in tile) left file [] event → MeetsMatrix files left tile (Some file) event
  at_table : {file : List ℕ} {event : Event} → is_table file ≡ true → MeetsFile files file event → MeetsMatrix files left tile (Some file) event
  in_table : {file bytes : List ℕ} {fault : Fault} → is_table file ≡ true → handed_out files file ≡ Ok bytes → IsTextFault (matrix_format tile) file (rows_of bytes) (last_line bytes) fault
      → MeetsMatrix files left tile (Some file) (refuses fault)

-- ---- the places of configuration bits

-- the file of a tile's configuration table, in the directory of the file that holds its block
abbrev pub table_file : (file name : List ℕ) → Option (List ℕ)
table_file file name = file_of file (name ++ codes "_ConfigMem.csv")

abbrev pub table_bytes : (files : Map) → (file : Option (List ℕ)) → Result (Option (List ℕ)) Fault
table_bytes files None = Ok None
table_bytes files (Some file) = handed_out_if_there files file

-- so many bits have the places that they take where there is no table
pub record HasDefaultPlaces (bits : ℕ) (table : List (ℕ × ℕ)) : Type 0 where
  pub as_many : length table ≡ bits
  pub each : (bit : ℕ) → bit < bits → slice_index_or table bit (0, 0) ≡ default_place bits bit

-- The places that the table says, or the default ones where there is none.
pub data ReadsTable (files : Map) (tile : PlainTile) (file : Option (List ℕ)) : List (ℕ × ℕ) → Type 0 where
  by_default : {table : List (ℕ × ℕ)} → table_bytes files file ≡ Ok None → HasDefaultPlaces (tile_bits tile) table → ReadsTable files tile file table
  by_table : {bytes : List ℕ} {table : List (ℕ × ℕ)} → table_bytes files file ≡ Ok (Some bytes) → SpellsTable tile (rows_of bytes) table → ReadsTable files tile file table

pub data MeetsTable (files : Map) (tile : PlainTile) : (file : Option (List ℕ)) → Event → Type 0 where
  asks_table : {file : List ℕ} → MeetsTable files tile (Some file) (asks file)
  long_table : {file : Option (List ℕ)} {fault : Fault} → table_bytes files file ≡ Err fault → MeetsTable files tile file (refuses fault)
  bad_table : {file bytes : List ℕ} {fault : Fault} → table_bytes files (Some file) ≡ Ok (Some bytes) → IsTextFault (config_format tile) file (rows_of bytes) (last_line bytes) fault
      → MeetsTable files tile (Some file) (refuses fault)

-- ---- the tile

abbrev pub most_names : ℕ
most_names = 4096

abbrev pub most_bits : ℕ
most_bits = 640

-- with the pairs of its switch matrix
abbrev pub paired : PlainBlock → List NumberPair → PlainTile
paired block pairs = with_pairs (bare block) pairs

-- ---- problems of a block as a whole, which stand at its end

abbrev pub at_end : End → Problem → Event
at_end end problem = refuses (fault_at end.file end.line problem)

abbrev pub block_problem : PlainBlock → Option Problem
block_problem block = if nat_lt most_names (length (names block)) then Some (problems.Limit quantities.MatrixNames (capped (length (names block))) most_names) else None

abbrev pub bits_problem : (bits : ℕ) → Option Problem
bits_problem bits = if nat_lt most_bits bits then Some (problems.Limit quantities.ConfigurationBits bits most_bits) else None

-- too many inputs of an output come first
abbrev pub crowd_or : Option ℕ → Option Problem → Option Problem
crowd_or None next = next
crowd_or (Some inputs) next = Some (crowd_limit inputs)

abbrev pub pairs_problem : (tile : PlainTile) → List NumberPair → Option Problem
pairs_problem tile pairs = crowd_or (crowd nat_eq (map pair_numbers pairs)) (bits_problem (tile_bits (with_pairs tile pairs)))

-- ---- the tile

-- The block has few enough matrix names, and these are the pairs of its switch matrix.
pub record ReadsPairs (files : Map) (end : End) (block : PlainBlock) (pairs : List NumberPair) : Type 0 where
  pub few_names : block_problem block ≡ None
  pub matrix : ReadsMatrix files end.left (bare block) block.matrix pairs

pub record ReadsTile (files : Map) (end : End) (block : PlainBlock) (tile : PlainTile) : Type 0 where
  pub pairs : List NumberPair
  pub table : List (ℕ × ℕ)
  pub read : ReadsPairs files end block pairs
  pub fitting : pairs_problem (bare block) pairs ≡ None
  pub placed : ReadsTable files (paired block pairs) (table_file end.file block.name) table
  pub is : tile ≡ with_table (paired block pairs) table

-- What a reader of a block's files comes upon, in this order: too many matrix names, the matrix file, what is wrong with its pairs, and
-- the configuration table.
pub data MeetsTile (files : Map) (end : End) (block : PlainBlock) : Event → Type 0 where
  bad_block : {problem : Problem} → block_problem block ≡ Some problem → MeetsTile files end block (at_end end problem)
  in_matrix : {event : Event} → block_problem block ≡ None → MeetsMatrix files end.left (bare block) block.matrix event → MeetsTile files end block event
  bad_pairs : {pairs : List NumberPair} {problem : Problem} → ReadsPairs files end block pairs → pairs_problem (bare block) pairs ≡ Some problem → MeetsTile files end block (at_end end problem)
  in_places : {pairs : List NumberPair} {event : Event} → ReadsPairs files end block pairs → pairs_problem (bare block) pairs ≡ None
      → MeetsTable files (paired block pairs) (table_file end.file block.name) event
      → MeetsTile files end block event
