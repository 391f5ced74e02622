-- Rows of wires: which bits they have in their tile and at its border.
use Rattle.std.specs.Prelude.{◌≡◌, ◌≤◌, ℕ, ◌*◌, Bool, true, false, ◌||◌, List, ◌++◌, decimal, Option, Some, None, if◌then◌else◌}
use Rattle.std.specs.Bool.{MatchBool}
use Rattle.fab_model.specs.declared.tiles.Dir.{Dir}
use Rattle.fab_model.specs.declared.tiles.Dir.TheVariants as dirs
use Rattle.fab_model.specs.declared.tiles.WireRow.{WireRow}

abbrev pub is_jump : Dir → Bool
is_jump dirs.Jump = true
is_jump _ = false

abbrev pub same_dir : Dir → Dir → Bool
same_dir dirs.North dirs.North = true
same_dir dirs.East dirs.East = true
same_dir dirs.South dirs.South = true
same_dir dirs.West dirs.West = true
same_dir dirs.Jump dirs.Jump = true
same_dir _ _ = false

abbrev pub is_named : Option (List ℕ) → Bool
is_named None = false
is_named (Some name) = true

-- how many wires of a row cross each border of the tile that they cross
abbrev pub border_bits : WireRow → ℕ
border_bits row = row.span * row.count

-- how many bits one side of a row has, where the other side is this: those that begin or end in the tile, and all that
-- cross its border where the row has no other side
abbrev pub side_bits : WireRow → (side other : Option (List ℕ)) → ℕ
side_bits row None other = 0
side_bits row (Some name) other = if is_jump row.dir then row.count else (if is_named other then row.count else border_bits row)

abbrev pub source_bits : WireRow → ℕ
source_bits row = side_bits row row.source row.dest

abbrev pub dest_bits : WireRow → ℕ
dest_bits row = side_bits row row.dest row.source

-- the name of a bit is the row's name and its number
abbrev pub bit_name : Option (List ℕ) → (bit : ℕ) → List ℕ
bit_name None bit = decimal bit
bit_name (Some name) bit = name ++ decimal bit

-- what tables promise of a row: a jump has a destination, and every other row at least one end
pub record IsWireRow (row : WireRow) : Type 0 where
  pub has_wires : 1 ≤ row.count
  pub span_is : MatchBool (is_jump row.dir) (row.span ≡ 0) ((1 ≤ row.span) × (row.span ≤ 31))
  pub has_ends : MatchBool (is_jump row.dir) (is_named row.dest ≡ true) (is_named row.source || is_named row.dest ≡ true)
