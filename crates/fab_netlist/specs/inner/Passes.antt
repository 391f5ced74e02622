-- How the values of one cycle are found: the given values are put in, and then the covers are asked in turn.
use Rattle.std.specs.Prelude.{ℕ, ◌<◌, ◌≤◌, Bool, false, List, [], ◌∷◌, length, get_or, replicate}
use Rattle.std.specs.Prelude.{slice_set as set}
use Rattle.std.specs.List.{All}
use Rattle.fab_netlist.specs.Plain.{PlainCover, PlainNetlist, bit_at, no_cover}
use Rattle.fab_netlist.specs.WellMade.{latch_outputs}
use Rattle.fab_netlist.specs.Meaning.{cover_value}

-- nets take bits, in order
abbrev pub placed : (nets : List ℕ) → (bits : List Bool) → (values : List Bool) → List Bool
placed [] bits values = values
placed (net ∷ nets) [] values = values
placed (net ∷ nets) (bit ∷ bits) values = placed nets bits (set values net bit)

-- the output of a cover takes its value
abbrev pub taken : PlainCover → List Bool → List Bool
taken cover values = set values cover.output (cover_value cover (bit_at values))

-- covers in turn, by their places
abbrev pub asked : List PlainCover → (places : List ℕ) → List Bool → List Bool
asked covers [] values = values
asked covers (place ∷ places) values = asked covers places (taken (get_or covers place no_cover) values)

-- the given and the held values, and 0 elsewhere
abbrev pub start : PlainNetlist → (given held : List Bool) → List Bool
start netlist given held = placed (latch_outputs netlist) held (placed netlist.inputs given (replicate (length netlist.nets) false))

abbrev pub settled : PlainNetlist → (order : List ℕ) → (given held : List Bool) → List Bool
settled netlist order given held = asked netlist.covers order (start netlist given held)

-- a cover that reads at most four nets, and whose nets are below a number
pub record IsWithin (nets : ℕ) (cover : PlainCover) : Type 0 where
  pub four_inputs : length cover.inputs ≤ 4
  pub inputs_below : All (λ net. net < nets) cover.inputs
  pub output_below : cover.output < nets
