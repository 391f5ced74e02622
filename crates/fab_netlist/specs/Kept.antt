-- Which covers a packed design keeps.
use Rattle.std.specs.Prelude.{ℕ, Bool, true, List, [], ◌∷◌, nat_eq, count_by}
use Rattle.std.specs.Prelude.{slice_set as set}
use Rattle.std.specs.List.{list_any}
use Rattle.fab_netlist.specs.Plain.{PlainCover, PlainNetlist}
use Rattle.fab_netlist.specs.WellMade.{read}

-- something reads the output of the cover: another cover, kept or not, a latch or an output of the netlist
abbrev pub is_kept : PlainNetlist → PlainCover → Bool
is_kept netlist cover = list_any (λ net. nat_eq net cover.output) (read netlist)

abbrev pub kept : PlainNetlist → ℕ
kept netlist = count_by (is_kept netlist) netlist.covers

-- the marks of nets
abbrev pub marked : List ℕ → List Bool → List Bool
marked [] marks = marks
marked (net ∷ nets) marks = marked nets (set marks net true)
