-- The switch lists of a sample's tiles.
use Rattle.std.specs.Prelude.{ℕ, List, [], ◌∷◌, ◌++◌, codes, decimal, map}
use Rattle.std.specs.List.{flat_map, range_with_len}
use Rattle.fab_sample.specs.declared.side.Side.{Side}
use Rattle.fab_sample.specs.declared.side.Side.TheVariants.{North, East, South, West}
use Rattle.fab_sample.specs.Lines.{Line}

-- the wires that go to the neighbour on a side, and those that go on in the same direction and end here
abbrev pub begin_of : Side → Line
begin_of North = codes "N1BEG"
begin_of East = codes "E1BEG"
begin_of South = codes "S1BEG"
begin_of West = codes "W1BEG"

abbrev pub end_of : Side → Line
end_of North = codes "N1END"
end_of East = codes "E1END"
end_of South = codes "S1END"
end_of West = codes "W1END"

-- the six bits of a row of wires
abbrev pub bit_name : (row : Line) → (bit : ℕ) → Line
bit_name row bit = row ++ decimal bit

unfoldable pub bits : (row : Line) → List Line
bits row = map (bit_name row) (range_with_len 0 6)

-- an output, with each input that it may take
abbrev pub pairs : (output : Line) → (inputs : List Line) → List Line
pairs output inputs = map (λ input. output ++ codes "," ++ input) inputs

-- ---- logic

abbrev pub table_outputs : List Line
table_outputs = codes "LA_O" ∷ codes "LB_O" ∷ []

-- what each input of a look-up table may take
unfoldable pub table_inputs : List Line
table_inputs = bits (end_of North) ++ bits (end_of East) ++ bits (end_of South) ++ bits (end_of West) ++ table_outputs

abbrev pub input_lines : (prefix : Line) → (inputs : List Line) → (pin : ℕ) → List Line
input_lines prefix inputs pin = pairs (prefix ++ codes "I" ++ decimal pin) inputs

-- the pins of the look-up table of a prefix, whose inputs may take these
unfoldable pub table_lines : (prefix : Line) → (inputs : List Line) → List Line
table_lines prefix inputs =
    flat_map (input_lines prefix inputs) (range_with_len 0 4)
    ++ pairs (prefix ++ codes "SR") (codes "GND0" ∷ [])
    ++ pairs (prefix ++ codes "EN") (codes "VCC0" ∷ [])

-- in which direction a wire went that goes on to a side: straight on, or round a corner
abbrev pub turns : Side → List Side
turns North = North ∷ East ∷ West ∷ []
turns East = East ∷ North ∷ South ∷ []
turns South = South ∷ East ∷ West ∷ []
turns West = West ∷ North ∷ South ∷ []

-- a bit of the wires of a direction
abbrev pub end_name : (bit : ℕ) → Side → Line
end_name bit from = bit_name (end_of from) bit

-- what a wire to a side may take
abbrev pub turn_inputs : Side → (bit : ℕ) → List Line
turn_inputs side bit = map (end_name bit) (turns side) ++ table_outputs

abbrev pub wire_lines : Side → (bit : ℕ) → List Line
wire_lines side bit = pairs (bit_name (begin_of side) bit) (turn_inputs side bit)

-- the wires to a side
unfoldable pub begin_lines : Side → List Line
begin_lines side = flat_map (wire_lines side) (range_with_len 0 6)

unfoldable pub logic_lines : List Line
logic_lines =
    table_lines (codes "LA_") table_inputs ++ table_lines (codes "LB_") table_inputs
    ++ begin_lines North ++ begin_lines East ++ begin_lines South ++ begin_lines West

-- ---- pads

-- the pins of the pad of a prefix, whose input may take these
unfoldable pub pad_lines : (prefix : Line) → (inputs : List Line) → List Line
pad_lines prefix inputs = pairs (prefix ++ codes "I") inputs ++ pairs (prefix ++ codes "T") (codes "GND0" ∷ codes "VCC0" ∷ [])

-- wires that may take the outputs of both pads
abbrev pub driven_lines : (wires : List Line) → List Line
driven_lines wires = flat_map (λ wire. pairs wire (codes "A_O" ∷ codes "B_O" ∷ [])) wires

-- pads at an edge of the grid: wires go to one side, and others end here that went to another
unfoldable pub edge_lines : (to from : Side) → List Line
edge_lines to from =
    pad_lines (codes "A_") (bits (end_of from)) ++ pad_lines (codes "B_") (bits (end_of from)) ++ driven_lines (bits (begin_of to))
