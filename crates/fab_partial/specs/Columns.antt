-- The bitstream of some columns of a fabric in frames, and what configuration bits a fabric has behind it.
use Rattle.std.specs.Prelude.{ℕ, Bool, ◌&&◌, List, [], ◌∷◌, ◌++◌, map, nat_le, if◌then◌else◌}
use Rattle.std.specs.List.{flat_map}
use Rattle.fab_implementation.specs.fab_model.specs.Tiles.{counted}
use Rattle.fab_implementation.specs.fab_model.specs.Grid.{PlainFabric}
use Rattle.fab_implementation.specs.fab_model.specs.Drive.{PlainBits}
use Rattle.fab_frames.specs.Stream.{Part, fixed, header, waiting_word, column_parts, word_of}

-- whether a column is one of those from the first to the last
abbrev pub lies_within : (first last x : ℕ) → Bool
lies_within first last x = nat_le first x && nat_le x last

-- the frames of a column, if it is one of these
abbrev pub chosen_parts : PlainFabric → (first last x : ℕ) → List Part
chosen_parts fabric first last x = if lies_within first last x then column_parts fabric x else []

-- The stream of the whole fabric, in which the other columns are left out. It begins with the same words and ends with the same one.
unfoldable pub partial_parts : PlainFabric → (first last : ℕ) → List Part
partial_parts fabric first last = map fixed header ++ (flat_map (chosen_parts fabric first last) (counted fabric.columns (λ x. x)) ++ fixed waiting_word ∷ [])

unfoldable pub partial_stream : PlainFabric → PlainBits → (first last : ℕ) → List ℕ
partial_stream fabric bits first last = map (word_of fabric bits) (partial_parts fabric first last)

-- configuration bits with other ones in the columns that pass a test
abbrev pub exchanged : (there : ℕ → Bool) → (bits others : PlainBits) → PlainBits
exchanged there bits others x y bit = if there x then others x y bit else bits x y bit
