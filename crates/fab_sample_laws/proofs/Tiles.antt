-- The modules of a sample's tiles: how long they are printed, and how many points and instances each tile has. They are the same at each size.
use Rattle.std.proofs.Common.{◌≡◌, ℕ, Bool, true, List, [], ◌∷◌, ◌++◌, codes, length, reverse, refl}
use Rattle.std.specs.Prelude.{nat_le}
use Rattle.std.specs.List.{flat_map}
use Rattle.std.specs.Fmt.{digits}
use Rattle.csv.specs.Machine.{next_record}
use Rattle.csv.specs.Reading.{strip_bom}
use Rattle.fab_bits.specs.Widths.{select_width}
use Rattle.fab_kinds.specs.declared.kind.Kind.TheVariants.{Lut4c, Io}
use Rattle.fab_syntax.specs.Plain.{PlainModule}
use Rattle.fab_syntax.specs.Spelling.{latch_head, clocked_head, text_bytes}
use Rattle.fab_model.specs.declared.mode.Mode.TheVariants as modes
use Rattle.fab_model.specs.Tiles.{counted, PlainTile}
use Rattle.fab_names.specs.Names.{all_names, text_of}
use Rattle.fab_blocks.specs.Blocks.{names, row_names}
use Rattle.fab_prim.specs.Modules.{module_of_kind}
use Rattle.fab_sample.specs.Lists.{bits, table_inputs, table_lines, begin_lines, logic_lines, pad_lines, edge_lines}
use Rattle.fab_gen_loader.specs.Expressions.{loader_module}
use Rattle.fab_fabric_text_defs.specs.Text.{tile_modules}
use Rattle.fab_sample_laws.proofs.Assembled.{west_tile, logic_tile, east_tile}
use Rattle.fab_sample_laws.proofs.Counts.{below}

-- ---- bytes

-- whether the modules have no more bytes
abbrev pub is_within : (most : ℕ) → List PlainModule → Bool
is_within most ms = nat_le (length (text_bytes ms)) most

pub west_within : is_within 65536 (tile_modules modes.Frames west_tile) ≡ true
unfolding digits next_record strip_bom select_width counted all_names text_of names row_names bits pad_lines edge_lines latch_head clocked_head
west_within = refl

pub logic_within : is_within 65536 (tile_modules modes.Frames logic_tile) ≡ true
unfolding digits next_record strip_bom select_width counted all_names text_of names row_names bits table_inputs table_lines begin_lines logic_lines latch_head clocked_head
logic_within = refl

pub east_within : is_within 65536 (tile_modules modes.Frames east_tile) ≡ true
unfolding digits next_record strip_bom select_width counted all_names text_of names row_names bits pad_lines edge_lines latch_head clocked_head
east_within = refl

-- the primitives
abbrev pub primitives : List PlainModule
primitives = module_of_kind Lut4c ∷ module_of_kind Io ∷ []

pub primitives_within : is_within 65536 primitives ≡ true
unfolding digits clocked_head
primitives_within = refl

-- ---- points and instances

-- the types of a sample
abbrev pub sample_types : List PlainTile
sample_types = west_tile ∷ logic_tile ∷ east_tile ∷ []

-- what stands before the top, the last first
abbrev pub before_top : (rows : ℕ) → List PlainModule
before_top rows = loader_module rows ∷ reverse (primitives ++ flat_map (tile_modules modes.Frames) sample_types)

abbrev pub has_few : (rows : ℕ) → (name : List ℕ) → Bool
has_few rows name = nat_le (below (before_top rows) name) 30000

pub west_has : (rows : ℕ) → has_few rows (codes "tile_SW") ≡ true
unfolding digits next_record strip_bom select_width counted all_names text_of names row_names bits table_inputs table_lines begin_lines logic_lines pad_lines edge_lines
west_has rows = refl

pub logic_has : (rows : ℕ) → has_few rows (codes "tile_SLOG") ≡ true
unfolding digits next_record strip_bom select_width counted all_names text_of names row_names bits table_inputs table_lines begin_lines logic_lines pad_lines edge_lines
logic_has rows = refl

pub east_has : (rows : ℕ) → has_few rows (codes "tile_SE") ≡ true
unfolding digits next_record strip_bom select_width counted all_names text_of names row_names bits table_inputs table_lines begin_lines logic_lines pad_lines edge_lines
east_has rows = refl
