-- The files of a sample's fabric are read.
use Rattle.std.proofs.Common.{◌≡◌, ◌≤◌, ℕ, true, List, [], ◌∷◌, codes, refl, sym, ap, subst, Some, arith}
use Rattle.std.specs.Prelude.{if◌then◌else◌}
use Rattle.std.specs.Str.{bytes_eq, is_utf8, chars}
use lib.Utf8.{encode}
use Rattle.std.proofs.lemmas.Bool.{leb-true}
use Rattle.fab_desk.specs.Files.{Map}
use Rattle.fab_rows.specs.Rows.{rows_of}
use Rattle.fab_paths.specs.Paths.{resolved, is_file_name}
use Rattle.fab_select.specs.declared.pair.Pair.{Pair as NumberPair}
use Rattle.fab_model.specs.Grid.{PlainFabric}
use Rattle.fab_model.specs.Tiles.{PlainTile, tile_bits, with_table}
use Rattle.fab_fabric.specs.Fabric.{wire_count}
use Rattle.fab_blocks.specs.Blocks.{PlainBlock}
use Rattle.fab_blocks.specs.Reading.{PlainReading, start}
use Rattle.fab_list_files.specs.Lists.{most_open}
use Rattle.fab_read.specs.Tiles.{paired, table_file, ReadsTile}
use Rattle.fab_read.specs.Rows.{ReadsRows}
use Rattle.fab_read.specs.Fabrics.{top, most_wires, SpellsFabric}
use Rattle.fab_sample.specs.declared.file.File.{File}
use Rattle.fab_sample.specs.declared.side.Side.TheVariants.{East, West}
use Rattle.fab_sample.specs.Lines.{Line, text}
use Rattle.fab_sample.specs.Grid.{fabric_lines}
use Rattle.fab_sample.specs.Lists.{logic_lines, edge_lines}
use Rattle.fab_sample_laws.specs.Fabrics.{TellsFabric, IsSampleFabric}
use Rattle.fab_sample_laws.proofs.Blocks.{west, logic, east, grid_from}
use Rattle.fab_sample_laws.proofs.Runs.{Outcome, run, HaveTiles, run_reads}
use Rattle.fab_sample_laws.proofs.Lists.{pairs_in, west_listed, logic_listed, east_listed}
use Rattle.fab_sample_laws.proofs.TilesRead.{handed, default_places, tile_reads}
use Rattle.fab_sample_laws.proofs.Sizes as sizes

abbrev table : Line
table = codes "sample.csv"

table_text : is_utf8 table ≡ true
unfolding is_utf8 chars encode
table_text = refl

-- the tile of a block with these pairs and the places that bits take where no table says them
abbrev pub tile_with : PlainBlock → List NumberPair → PlainTile
tile_with block pairs = with_table (paired block pairs) (default_places (tile_bits (paired block pairs)))

-- a block has this tile
abbrev IsRead : Map → PlainBlock → List NumberPair → Type 0
IsRead files block pairs = (line : ℕ) → ReadsTile files (record { file = table; line = line; left = most_open }) block (tile_with block pairs)

module _ (files : Map) (size : ℕ) (least : 2 ≤ size) (most : size ≤ 16) (there : files table ≡ Some (text (fabric_lines size))) (wests logics easts : List NumberPair)
    (west_read : IsRead files west wests) (logic_read : IsRead files logic logics) (east_read : IsRead files east easts) where
  abbrev pairs_of : PlainBlock → List NumberPair
  pairs_of block = if bytes_eq block.name (codes "SW") then wests else if bytes_eq block.name (codes "SLOG") then logics else easts

  abbrev table_of : PlainBlock → List (ℕ × ℕ)
  table_of block = default_places (tile_bits (paired block (pairs_of block)))

  abbrev tile_of : PlainBlock → PlainTile
  tile_of = sizes.tile_of pairs_of table_of

  abbrev fabric : PlainFabric
  fabric = sizes.fabric_at pairs_of table_of size

  is_run : sizes.IsRun pairs_of table_of size
  is_run = sizes.runs pairs_of table_of size least most

  known : HaveTiles files (top table) tile_of (west ∷ logic ∷ east ∷ [])
  known = (west_read, (logic_read, (east_read, tt)))

  rows_read : ReadsRows files (top table) start (rows_of (text (fabric_lines size))) (sizes.reading_of pairs_of table_of size)
  rows_read =
      let outcome : Outcome = run tile_of (top table) start (rows_of (text (fabric_lines size))) in
      let have = subst (λ (blocks : List PlainBlock). HaveTiles files (top table) tile_of blocks) (sym (ap (λ (o : Outcome). o.blocks) is_run.outcome)) known in
      subst (λ (reading : PlainReading). ReadsRows files (top table) start (rows_of (text (fabric_lines size))) reading) (ap (λ (o : Outcome). o.reading) is_run.outcome)
      (run_reads files tile_of (top table) start (rows_of (text (fabric_lines size))) (ap (λ (o : Outcome). o.is_fine) is_run.outcome) have)

  spelled : SpellsFabric files table fabric
  spelled = record {
    bytes = text (fabric_lines size);
    types = sizes.types pairs_of table_of;
    lines = grid_from size 2 size;
    parts = record {
      reading = sizes.reading_of pairs_of table_of size;
      read = record { found = handed files table (text (fabric_lines size)) table_text there is_run.short; reads = rows_read; closed = refl };
      types_are = refl;
      grid_is = refl;
      named = is_run.named;
    };
    few_wires = leb-true (wire_count fabric) most_wires is_run.few_wires;
    is = refl;
  }

  is_sample : IsSampleFabric size fabric
  is_sample = record { columns = is_run.columns; rows = is_run.rows; grid = is_run.grid; mode = refl; names = refl; bels = refl }

  pub read : (f : PlainFabric) × SpellsFabric files table f × IsSampleFabric size f × (f.types ≡ tile_with west wests ∷ tile_with logic logics ∷ tile_with east easts ∷ [])
  read = (fabric, spelled, is_sample, refl)

-- the names of the lists and of the tables
record HasNames (block : PlainBlock) (list places : Line) : Type 0 where
  list_text : is_utf8 list ≡ true
  places_are : table_file table block.name ≡ Some places
  places_text : is_utf8 places ≡ true

west_names : HasNames west (codes "SW.list") (codes "SW_ConfigMem.csv")
unfolding is_utf8 chars encode resolved is_file_name
west_names = record { list_text = refl; places_are = refl; places_text = refl }

logic_names : HasNames logic (codes "SLOG.list") (codes "SLOG_ConfigMem.csv")
unfolding is_utf8 chars encode resolved is_file_name
logic_names = record { list_text = refl; places_are = refl; places_text = refl }

east_names : HasNames east (codes "SE.list") (codes "SE_ConfigMem.csv")
unfolding is_utf8 chars encode resolved is_file_name
east_names = record { list_text = refl; places_are = refl; places_text = refl }

-- the types of each sample's fabric, with the pairs of their lists
abbrev pub west_pairs : List NumberPair
west_pairs = pairs_in west (codes "SW.list") (edge_lines East West)

abbrev pub logic_pairs : List NumberPair
logic_pairs = pairs_in logic (codes "SLOG.list") logic_lines

abbrev pub east_pairs : List NumberPair
east_pairs = pairs_in east (codes "SE.list") (edge_lines West East)

abbrev pub west_tile : PlainTile
west_tile = tile_with west west_pairs

abbrev pub logic_tile : PlainTile
logic_tile = tile_with logic logic_pairs

abbrev pub east_tile : PlainTile
east_tile = tile_with east east_pairs

pub fabrics_typed : (files : Map) (size : ℕ) → 2 ≤ size → size ≤ 16 → TellsFabric files size →
    (f : PlainFabric) × SpellsFabric files table f × IsSampleFabric size f × (f.types ≡ west_tile ∷ logic_tile ∷ east_tile ∷ [])
fabrics_typed files size least most told =
    let none : File = record { name = []; text = [] } in
    read files size least most (told.stand 0 none (omega arith)) west_pairs logic_pairs east_pairs
    (tile_reads files west (codes "SW.list") (codes "SW_ConfigMem.csv") (edge_lines East West) west_listed refl west_names.list_text (told.stand 1 none (omega arith)) west_names.places_are west_names.places_text (told.no_places 0 [] (omega arith)))
    (tile_reads files logic (codes "SLOG.list") (codes "SLOG_ConfigMem.csv") logic_lines logic_listed refl logic_names.list_text (told.stand 2 none (omega arith)) logic_names.places_are logic_names.places_text (told.no_places 1 [] (omega arith)))
    (tile_reads files east (codes "SE.list") (codes "SE_ConfigMem.csv") (edge_lines West East) east_listed refl east_names.list_text (told.stand 3 none (omega arith)) east_names.places_are east_names.places_text (told.no_places 2 [] (omega arith)))

pub fabrics_read : (files : Map) (size : ℕ) → 2 ≤ size → size ≤ 16 → TellsFabric files size → (f : PlainFabric) × SpellsFabric files table f × IsSampleFabric size f
fabrics_read files size least most told = let typed = fabrics_typed files size least most told in (typed.0, typed.1, typed.2)
