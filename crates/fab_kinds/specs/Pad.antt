-- IO: a pad between the fabric and the outside. O_top comes from the outside; I_top and T_top go there.
use Rattle.std.specs.Prelude.{Bool, false, List, [], ◌∷◌, not, slice_index_or}

-- O shows the outside at once, and Q, the flip-flop, a clock later
abbrev pub pad_outputs : (held top : Bool) → List Bool
pad_outputs held top = top ∷ held ∷ []

abbrev pub pad_next : (top : Bool) → Bool
pad_next top = top

-- I_top
abbrev pub i_top : (pins : List Bool) → Bool
i_top pins = slice_index_or pins 0 false

-- T_top
abbrev pub t_top : (pins : List Bool) → Bool
t_top pins = not (slice_index_or pins 1 false)
