-- The words of a line, and what kind of line they make.
use Rattle.std.specs.Prelude.{ℕ, Bool, true, false, List, [], ◌∷◌, ◌||◌, ◌==◌, not, filter, codes, slice_index, drop, if◌then◌else◌}
use Rattle.std.specs.List.{slice_split}
use Rattle.std.specs.Str.{bytes_eq}
use Rattle.fab_lines.specs.Names.{is_between}
use Rattle.fab_lines.specs.Items.{is_filled}
use Rattle.fab_lines.specs.Parts.{is_blank}
use Rattle.fab_blif_models.specs.declared.words.Kind.{Kind}
use Rattle.fab_blif_models.specs.declared.words.Kind.TheVariants as kinds

abbrev pub Word : Type 0
Word = List ℕ

-- printable ASCII other than the blank
abbrev pub is_of_word : ℕ → Bool
is_of_word byte = is_between 33 126 byte

-- neither printable nor a tab
abbrev pub is_foreign : ℕ → Bool
is_foreign byte = not (is_of_word byte || is_blank byte)

-- the words of a line: what stands between bytes that are of no word
abbrev pub words : (line : List ℕ) → List Word
words line = filter is_filled (slice_split (λ byte. not (is_of_word byte)) line)

-- the words after the first
abbrev pub arguments : List Word → List Word
arguments words = drop 1 words

-- a line that is passed over
abbrev pub is_passed : Word → Bool
is_passed word = bytes_eq word (codes ".attr") || bytes_eq word (codes ".cname") || bytes_eq word (codes ".param")

-- the kind of the line that a word begins
abbrev pub kind_of_word : Word → Kind
kind_of_word word =
    if not (slice_index word 0 == 46) then kinds.Row
    else if bytes_eq word (codes ".model") then kinds.Model
    else if bytes_eq word (codes ".end") then kinds.End
    else if bytes_eq word (codes ".inputs") then kinds.Inputs
    else if bytes_eq word (codes ".outputs") then kinds.Outputs
    else if bytes_eq word (codes ".clock") then kinds.Clock
    else if bytes_eq word (codes ".names") then kinds.Names
    else if bytes_eq word (codes ".latch") then kinds.Latch
    else if bytes_eq word (codes ".subckt") then kinds.Instance
    else if bytes_eq word (codes ".conn") then kinds.Buffer
    else if is_passed word then kinds.Passed
    else kinds.Other

abbrev pub kind_of : List Word → Kind
kind_of [] = kinds.Blank
kind_of (word ∷ more) = kind_of_word word

-- ---- the lines that others depend on

abbrev pub begins_model : Kind → Bool
begins_model kinds.Model = true
begins_model _ = false

abbrev pub ends_model : Kind → Bool
ends_model kinds.End = true
ends_model _ = false

abbrev pub is_row_kind : Kind → Bool
is_row_kind kinds.Row = true
is_row_kind _ = false

-- an empty line, a line that is passed over, and a row leave a cover open; each other line ends it
abbrev pub ends_cover : Kind → Bool
ends_cover kinds.Blank = false
ends_cover kinds.Passed = false
ends_cover kinds.Row = false
ends_cover _ = true

abbrev pub is_model : List Word → Bool
is_model line = begins_model (kind_of line)

abbrev pub is_end : List Word → Bool
is_end line = ends_model (kind_of line)

abbrev pub is_row : List Word → Bool
is_row line = is_row_kind (kind_of line)

abbrev pub is_statement : List Word → Bool
is_statement line = ends_cover (kind_of line)
