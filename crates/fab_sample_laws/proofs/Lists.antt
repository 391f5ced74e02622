-- The switch lists of a sample name wires of their tiles, and no output has too many inputs.
use Rattle.std.proofs.Common.{◌≡◌, true, false, List, [], codes, length, refl, None}
use Rattle.std.specs.Prelude.{nat_lt}
use Rattle.std.specs.Fmt.{digits}
use Rattle.csv.specs.Machine.{next_record}
use Rattle.csv.specs.Reading.{strip_bom}
use Rattle.fab_base.specs.declared.TheConstants.{MAX_FILE_BYTES}
use Rattle.fab_bits.specs.Widths.{select_width}
use Rattle.fab_rows.specs.Rows.{rows_of}
use Rattle.fab_select.specs.declared.pair.Pair.{Pair as NumberPair}
use Rattle.fab_model.specs.Tiles.{counted}
use Rattle.fab_names.specs.Names.{all_names, text_of}
use Rattle.fab_blocks.specs.Blocks.{PlainBlock, bare, names, row_names}
use Rattle.fab_list_files.specs.Lists.{most_open}
use Rattle.fab_read.specs.Tiles.{known_in, pairs_by_number, block_problem, pairs_problem, is_table}
use Rattle.fab_sample.specs.declared.side.Side.TheVariants.{East, West}
use Rattle.fab_sample.specs.Lines.{Line, text}
use Rattle.fab_sample.specs.Lists.{bits, table_inputs, table_lines, begin_lines, logic_lines, pad_lines, edge_lines}
use Rattle.fab_sample_laws.proofs.Blocks.{west, logic, east}
use Rattle.fab_sample_laws.proofs.ListRuns.{Listing, listing}

-- what the lines of a list come to
abbrev pub listed : PlainBlock → (file : Line) → (lines : List Line) → Listing
listed block file lines = listing (known_in (bare block)) most_open file [] (rows_of (text lines))

abbrev pub pairs_in : PlainBlock → (file : Line) → (lines : List Line) → List NumberPair
pairs_in block file lines = pairs_by_number (bare block) (listed block file lines).pairs

-- the list of a block is read, and its pairs fit
pub record IsListed (block : PlainBlock) (file : Line) (lines : List Line) : Type 0 where
  pub fine : (listed block file lines).is_fine ≡ true
  pub is_list : is_table file ≡ false
  pub few_names : block_problem block ≡ None
  pub fitting : pairs_problem (bare block) (pairs_in block file lines) ≡ None
  pub short : nat_lt MAX_FILE_BYTES (length (text lines)) ≡ false

pub west_listed : IsListed west (codes "SW.list") (edge_lines East West)
unfolding digits next_record strip_bom select_width counted all_names text_of names row_names bits pad_lines edge_lines
west_listed = record { fine = refl; is_list = refl; few_names = refl; fitting = refl; short = refl }

pub east_listed : IsListed east (codes "SE.list") (edge_lines West East)
unfolding digits next_record strip_bom select_width counted all_names text_of names row_names bits pad_lines edge_lines
east_listed = record { fine = refl; is_list = refl; few_names = refl; fitting = refl; short = refl }

pub logic_listed : IsListed logic (codes "SLOG.list") logic_lines
unfolding digits next_record strip_bom select_width counted all_names text_of names row_names bits table_inputs table_lines begin_lines logic_lines
logic_listed = record { fine = refl; is_list = refl; few_names = refl; fitting = refl; short = refl }
