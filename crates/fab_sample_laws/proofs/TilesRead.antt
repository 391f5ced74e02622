-- The tiles of a sample's fabric are read.
use Rattle.std.proofs.Common.{◌≡◌, ℕ, true, false, List, [], length, map, codes, refl, Ok, Some, None, arith}
use Rattle.std.specs.Prelude.{nat_lt}
use Rattle.std.specs.List.{range_with_len}
use Rattle.std.specs.Str.{is_utf8}
use Rattle.std.proofs.lemmas.List.FromFn.{get_or-map-range_with_len, length-map-range_with_len}
use Rattle.fab_base.specs.declared.TheConstants.{MAX_FILE_BYTES}
use Rattle.fab_desk.specs.Files.{Map}
use Rattle.fab_rows.specs.Rows.{rows_of}
use Rattle.fab_files.specs.Files.{handed_out}
use Rattle.fab_tables.specs.Frames.{default_place}
use Rattle.fab_select.specs.declared.pair.Pair.{Pair as NumberPair}
use Rattle.fab_model.specs.Tiles.{tile_bits, with_table}
use Rattle.fab_blocks.specs.Blocks.{PlainBlock, bare}
use Rattle.fab_list_files.specs.Lists.{most_open}
use Rattle.fab_read.specs.Tiles.{known_in, paired, table_file, table_bytes, of_list, by_default, HasDefaultPlaces, ReadsTile}
use Rattle.fab_sample.specs.Lines.{Line, text}
use Rattle.fab_sample_laws.proofs.ListRuns.{lists}
use Rattle.fab_sample_laws.proofs.Lists.{pairs_in, IsListed}

-- a file that is there and not too long is handed out
pub handed : (files : Map) (file bytes : List ℕ) → is_utf8 file ≡ true → files file ≡ Some bytes → nat_lt MAX_FILE_BYTES (length bytes) ≡ false → handed_out files file ≡ Ok bytes
handed files file bytes is_text there short = rw (is_text, there, short) refl

-- the places that bits take where no table says them
abbrev pub default_places : (bits : ℕ) → List (ℕ × ℕ)
default_places bits = map (default_place bits) (range_with_len 0 bits)

have_default : (bits : ℕ) → HasDefaultPlaces bits (default_places bits)
have_default bits = record {
  as_many = length-map-range_with_len (default_place bits) 0 bits;
  each = λ bit below. get_or-map-range_with_len (default_place bits) 0 bits bit bit (0, 0) below (omega arith);
}

module _ (files : Map) (block : PlainBlock) (file table : Line) (lines : List Line) (listed : IsListed block file lines) (named : block.matrix ≡ Some file)
    (is_text : is_utf8 file ≡ true) (there : files file ≡ Some (text lines))
    (table_is : table_file (codes "sample.csv") block.name ≡ Some table) (table_text : is_utf8 table ≡ true) (no_table : files table ≡ None) where
  no_bytes : table_bytes files (table_file (codes "sample.csv") block.name) ≡ Ok None
  no_bytes = rw (table_is, table_text, no_table) refl

  abbrev pub pairs : List NumberPair
  pairs = pairs_in block file lines

  abbrev pub table_of : List (ℕ × ℕ)
  table_of = default_places (tile_bits (paired block pairs))

  pub tile_reads : (line : ℕ) → ReadsTile files (record { file = codes "sample.csv"; line = line; left = most_open }) block (with_table (paired block pairs) table_of)
  tile_reads line = record {
    pairs = pairs;
    table = table_of;
    read = record {
      few_names = listed.few_names;
      matrix = rw named (of_list listed.is_list (record {
        bytes = text lines;
        found = handed files file (text lines) is_text there listed.short;
        reads = lists files (known_in (bare block)) most_open file [] (rows_of (text lines)) listed.fine;
      }));
    };
    fitting = listed.fitting;
    placed = by_default no_bytes (have_default (tile_bits (paired block pairs)));
    is = refl;
  }
