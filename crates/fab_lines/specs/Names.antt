-- Which bytes are a name.
use Rattle.std.specs.Prelude.{ℕ, Bool, List, ◌==◌, ◌||◌, ◌&&◌, not, nat_le, length, slice_index, codes}
use Rattle.std.specs.List.{list_all, list_any, starts_with}
use Rattle.std.specs.Str.{bytes_eq}
use Rattle.std.specs.Prelude.{nat_eq}

abbrev pub is_between : (low high byte : ℕ) → Bool
is_between low high byte = nat_le low byte && nat_le byte high

abbrev pub is_upper : ℕ → Bool
is_upper byte = is_between 65 90 byte

-- a letter or `_`
abbrev pub begins_name : ℕ → Bool
begins_name byte = is_between 97 122 byte || is_upper byte || (byte == 95)

-- a letter, a digit or `_`
abbrev pub is_of_name : ℕ → Bool
is_of_name byte = begins_name byte || is_between 48 57 byte

-- A name of any length: a letter or `_`, and then letters, digits and `_`. There is no byte 0 in front of an empty word.
abbrev pub is_identifier : List ℕ → Bool
is_identifier word = begins_name (slice_index word 0) && list_all is_of_name word

-- a name has at most 64 bytes
abbrev pub is_name : List ℕ → Bool
is_name word = is_identifier word && nat_le (length word) 64

-- Names that the generator makes for itself begin so, and the configuration port has the other.
abbrev pub is_reserved : List ℕ → Bool
is_reserved word = starts_with nat_eq word (codes "fab_") || bytes_eq word (codes "ConfigBits")

-- the name of a wire or of a matrix pin: with an upper-case letter, and not one of the generator's own
abbrev pub is_wire_name : List ℕ → Bool
is_wire_name word = is_identifier word && list_any is_upper word && not (is_reserved word)
