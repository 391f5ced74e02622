-- Ports of pads.
use Rattle.std.specs.Prelude.{ℕ, List, position, Option}
use Rattle.std.specs.Str.{bytes_eq}
use Rattle.fab_implementation.specs.Plain.{Pad, ports_of}
use Rattle.fab_texts.specs.Rows.{Word}

-- the place of the first item of pads that names a port
abbrev pub first_place : List Pad → (port : Word) → Option ℕ
first_place pads port = position (bytes_eq port) (ports_of pads)
