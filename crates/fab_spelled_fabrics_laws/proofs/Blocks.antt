-- A row that a block takes keeps its names free.
use Rattle.std.proofs.Common.{◌≡◌, ◌⊎◌, ℕ, ◌==◌, ◌||◌, ◌&&◌, not, Bool, true, false, List, [], ◌∷◌, length, Option, Some, None, refl, sym, subst, arith, inl, inr, if◌then◌else◌}
use Rattle.std.specs.List.{list_any}
use Rattle.std.specs.Option.{ForSome}
use Rattle.std.proofs.lemmas.Bool.Decides.{nat_tests}
use Rattle.std.proofs.lemmas.List.Elements.{All-nil, All-push}
use Rattle.fab_kinds.specs.declared.kind.Kind.{Kind}
use Rattle.fab_lines.specs.Names.{is_upper, is_identifier, is_reserved, is_wire_name}
use Rattle.fab_desk.specs.Files.{Map}
use Rattle.fab_paths.specs.Paths.{is_path}
use Rattle.fab_model.specs.Tiles.{PlainTile, with_table}
use Rattle.fab_model.specs.declared.tiles.Bel.{Bel}
use Rattle.fab_model.specs.declared.tiles.WireRow.{WireRow}
use Rattle.fab_names.proofs.Families.{both_first, both_second}
use Rattle.fab_read.specs.fab_blocks_Cells.{is_null, is_side, long_of, first_problem}
use Rattle.fab_read.specs.fab_blocks_Blocks.{PlainBlock, new_block, bare, with_row}
use Rattle.fab_read.specs.fab_blocks_Rows.{WireCells, has_numbers, has_sides, row_of, side, wire_reason, wire_problem, is_prefix, bel_reason, kind_problem, bel_problem_of, with_bel_of}
use Rattle.fab_read.proofs.fab_blocks_Readings.{passed, no_problem}
use Rattle.fab_read.specs.Tiles.{End, ReadsTile, paired}
use Rattle.fab_gen_tile.specs.Words.{IsFreeName, IsNamed}
use Rattle.fab_spelled_fabrics_laws.proofs.Keeping.{Keeps}

-- ---- words

not_true : (test : Bool) → not test ≡ true → test ≡ false
not_true true is = absurd cc
not_true false is = refl

one_of : (first second : Bool) → (first || second) ≡ true → (first ≡ true) ⊎ (second ≡ true)
one_of true second is = inl refl
one_of false second is = inr is

-- the name of a wire
free_wire : (word : List ℕ) → is_wire_name word ≡ true → IsFreeName word
free_wire word is =
    let front = both_first (is_identifier word && list_any is_upper word) (not (is_reserved word)) is in
    record {
      identifier = both_first (is_identifier word) (list_any is_upper word) front;
      free = not_true (is_reserved word) (both_second (is_identifier word && list_any is_upper word) (not (is_reserved word)) is);
    }

the_word : (word other : List ℕ) → IsFreeName word → Some word ≡ Some other → IsFreeName other
the_word word other free is = subst IsFreeName (inner is) free
  where
    inner : Some word ≡ Some other → word ≡ other
    inner same = cc

side_by : (null : Bool) (cell : List ℕ) → (null || is_wire_name cell) ≡ true → ForSome (if null then None else Some cell) IsFreeName
side_by true cell is = λ word found. absurd (let none = found in cc)
side_by false cell is = λ word found. the_word cell word (free_wire cell is) found

-- a side of a row
free_side : (cell : List ℕ) → is_side cell ≡ true → ForSome (side cell) IsFreeName
unfolding is_side
free_side cell is = side_by (is_null cell) cell is

nothing : (word : List ℕ) → (length word == 0) ≡ true → word ≡ []
nothing [] none = refl
nothing (byte ∷ more) none = absurd (grind (arith, nat_tests))

-- a prefix of a BEL, where it has one
free_prefix : (prefix : List ℕ) → is_prefix prefix ≡ true → (prefix ≡ []) ⊎ IsFreeName prefix
unfolding is_prefix
free_prefix prefix is = elim (one_of (length prefix == 0) (is_identifier prefix && not (is_reserved prefix)) is) [
  | inl none ↦ inl (nothing prefix none)
  | inr word ↦ inr (record {
    identifier = both_first (is_identifier prefix) (not (is_reserved prefix)) word;
    free = not_true (is_reserved prefix) (both_second (is_identifier prefix) (not (is_reserved prefix)) word);
  })
]

-- ---- rows of wires

wire_sides : (block : PlainBlock) (cells : WireCells) → wire_reason block cells ≡ None → has_sides cells ≡ true
unfolding wire_reason
wire_sides block cells fine = (passed (has_sides cells) _ _ (passed (has_numbers cells) _ _ fine).1).0

two_sides : (cells : WireCells) → has_sides cells ≡ true → (is_side cells.source ≡ true) × (is_side cells.dest ≡ true)
unfolding has_sides
two_sides cells is = (both_first (is_side cells.source) (is_side cells.dest) is, both_second (is_side cells.source) (is_side cells.dest) is)

named_wire : (block : PlainBlock) (cells : WireCells) → IsNamed (bare block) → wire_problem block cells ≡ None → IsNamed (bare (with_row block (row_of cells)))
named_wire block cells named fine =
    let reason = (no_problem (wire_reason block cells) (first_problem (long_of cells.source) (long_of cells.dest)) fine).0 in
    let sides = two_sides cells (wire_sides block cells reason) in
    record {
      sources = All-push (λ (row : WireRow). ForSome row.source IsFreeName) block.rows (row_of cells) named.sources (free_side cells.source sides.0);
      dests = All-push (λ (row : WireRow). ForSome row.dest IsFreeName) block.rows (row_of cells) named.dests (free_side cells.dest sides.1);
      prefixes = named.prefixes;
    }

-- ---- BELs

prefix_passed : (block : PlainBlock) (kind : Option Kind) (holder file prefix : List ℕ) → bel_reason block kind holder file prefix ≡ None → is_prefix prefix ≡ true
unfolding bel_reason
prefix_passed block kind holder file prefix fine = (passed (is_prefix prefix) _ _ (passed (is_path holder file) _ _ fine).1).0

named_bel : (block : PlainBlock) (kind : Option Kind) (holder file prefix : List ℕ) → IsNamed (bare block) → bel_problem_of block kind holder file prefix ≡ None
    → IsNamed (bare (with_bel_of block kind prefix))
named_bel block None holder file prefix named fine = named
named_bel block (Some kind) holder file prefix named fine =
    let reason = (no_problem (bel_reason block (Some kind) holder file prefix) (kind_problem block (Some kind) file prefix) fine).0 in
    let free = free_prefix prefix (prefix_passed block (Some kind) holder file prefix reason) in
    record {
      sources = named.sources;
      dests = named.dests;
      prefixes = All-push (λ (bel : Bel). (bel.prefix ≡ []) ⊎ IsFreeName bel.prefix) block.bels (record { kind = kind; prefix = prefix }) named.prefixes free;
    }

-- ---- what has no row

named_new : (name : List ℕ) → IsNamed (bare (new_block name))
named_new name = record {
  sources = All-nil (λ (row : WireRow). ForSome row.source IsFreeName);
  dests = All-nil (λ (row : WireRow). ForSome row.dest IsFreeName);
  prefixes = All-nil (λ (bel : Bel). (bel.prefix ≡ []) ⊎ IsFreeName bel.prefix);
}

named_tile : (files : Map) (end : End) (block : PlainBlock) (tile : PlainTile) → IsNamed (bare block) → ReadsTile files end block tile → IsNamed tile
named_tile files end block tile named read =
    let same : IsNamed (with_table (paired block read.pairs) read.table) = record { sources = named.sources; dests = named.dests; prefixes = named.prefixes } in
    subst IsNamed (sym read.is) same

pub names_kept : Keeps IsNamed IsNamed
names_kept = record {
  new = λ name is. named_new name;
  wire = named_wire;
  bel = named_bel;
  matrix = λ block file named. record { sources = named.sources; dests = named.dests; prefixes = named.prefixes };
  tile = named_tile;
}
