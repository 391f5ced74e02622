-- What holds of a netlist that a BLIF text is.
use Rattle.std.specs.Prelude.{◌≡◌, ℕ, true, List, All}
use Rattle.fab_texts.specs.Printed.{is_last_word}
use Rattle.fab_netlist.specs.Plain.{name_of}
use Rattle.fab_netlist.specs.WellMade.{IsWellMade, ports}
use Rattle.fab_netlist.specs.Wide.{IsWideMade}
use Rattle.fab_blif.specs.Blif.{IsBlif, netlist_in, wide_in}

-- The name of each data port can stand in a line of words, and at its end too.
abbrev pub PortNamesAreWords : Type 0
PortNamesAreWords = (most : ℕ) (bytes : List ℕ) → IsBlif most bytes → All (λ net. is_last_word (name_of (netlist_in bytes) net) ≡ true) (ports (netlist_in bytes))

-- with covers of up to 16 inputs, by their rows
abbrev pub WideNetlistsAreMade : Type 0
WideNetlistsAreMade = (bytes : List ℕ) → IsBlif 16 bytes → IsWideMade (wide_in bytes)

-- with covers of at most four inputs, by their tables
abbrev pub NetlistsAreWellMade : Type 0
NetlistsAreWellMade = (bytes : List ℕ) → IsBlif 4 bytes → IsWellMade (netlist_in bytes)
