-- Tiles that the tests make.
use Rattle.std.specs.Prelude.{ℕ, List, [], ◌∷◌, Some, None, codes}
use Rattle.fab_kinds.specs.declared.kind.Kind.TheVariants as kinds
use Rattle.fab_select.specs.declared.pair.Pair.{Pair}
use Rattle.fab_model.specs.declared.tiles.Dir.TheVariants as dirs
use Rattle.fab_model.specs.declared.tiles.WireRow.{WireRow}
use Rattle.fab_model.specs.declared.tiles.Bel.{Bel}

-- a row of each form, and a LUT
abbrev pub five_rows : List WireRow
five_rows =
    (record { dir = dirs.North; source = Some (codes "N1BEG"); span = 1; dest = Some (codes "N1END"); count = 4 })
    ∷ (record { dir = dirs.Jump; source = Some (codes "J_BEG"); span = 0; dest = Some (codes "J_END"); count = 2 })
    ∷ (record { dir = dirs.Jump; source = None; span = 0; dest = Some (codes "GND"); count = 1 })
    ∷ (record { dir = dirs.West; source = None; span = 1; dest = Some (codes "W1END"); count = 3 })
    ∷ (record { dir = dirs.East; source = Some (codes "E2BEG"); span = 2; dest = None; count = 2 }) ∷ []

abbrev pub lut : (prefix : List ℕ) → Bel
lut prefix = record { kind = kinds.Lut4c; prefix = prefix }

abbrev pub one_lut : List Bel
one_lut = lut (codes "LA_") ∷ []

-- an output with one input, one with three and one with two
abbrev pub six_pairs : List Pair
six_pairs =
    (record { output = 16; input = 13 }) ∷ (record { output = 20; input = 4 }) ∷ (record { output = 0; input = 14 })
    ∷ (record { output = 20; input = 5 }) ∷ (record { output = 0; input = 15 }) ∷ (record { output = 20; input = 6 }) ∷ []

-- eight LUTs and a tree of multiplexers
abbrev pub nine_bels : List Bel
nine_bels =
    lut (codes "LA_") ∷ lut (codes "LB_") ∷ lut (codes "LC_") ∷ lut (codes "LD_") ∷ lut (codes "LE_") ∷ lut (codes "LF_")
    ∷ lut (codes "LG_") ∷ lut (codes "LH_") ∷ (record { kind = kinds.Mux8; prefix = [] }) ∷ []
