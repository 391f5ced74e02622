-- Lines that need no reader of CSV.
use Rattle.std.specs.Prelude.{ℕ, Bool, ◌==◌, ◌&&◌, ◌||◌, not}
use Rattle.fab_lines.specs.Parts.{is_blank}

abbrev pub is_comma : ℕ → Bool
is_comma byte = byte == 44

-- no quote, no byte that ends a record, and none that begins a byte order mark
abbrev pub is_plain_byte : ℕ → Bool
is_plain_byte byte = not (byte == 34) && not (byte == 13) && not (byte == 10) && not (byte == 239)

-- a comma, a blank or a tab: at the end of a line it leaves empty cells alone
abbrev pub is_gap : ℕ → Bool
is_gap byte = is_comma byte || is_blank byte
