-- The texts of a sample's design and of its stimulus.
use Rattle.std.specs.Prelude.{ℕ, ◌+◌, ◌-◌, ◌*◌, ◌/◌, ◌^◌, Bool, List, [], ◌∷◌, ◌++◌, codes, decimal, map, if◌then◌else◌}
use Rattle.std.specs.List.{enumerate_from, flat_map, range_with_len}
use Rattle.fab_sample.specs.declared.net.Net.{Net}
use Rattle.fab_sample.specs.declared.net.Net.TheVariants as nets
use Rattle.fab_sample.specs.declared.design.Cover.{Cover}
use Rattle.fab_sample.specs.declared.design.Latch.{Latch}
use Rattle.fab_draws.specs.Draws.{is_one}
use Rattle.fab_sample.specs.Lines.{Line, words}

abbrev pub net_name : Net → Line
net_name (nets.Input number) = codes "i" ++ decimal number
net_name (nets.Latch number) = codes "q" ++ decimal number
net_name (nets.Cover number) = codes "n" ++ decimal number
net_name (nets.Output number) = codes "o" ++ decimal number

abbrev pub names : List Net → Line
names all = words (map net_name all)

abbrev pub inputs : (size : ℕ) → List Net
inputs size = map (λ number. nets.Input number) (range_with_len 0 size)

abbrev pub outputs : (size : ℕ) → List Net
outputs size = map (λ number. nets.Output number) (range_with_len 0 size)

abbrev pub digit : Bool → ℕ
digit bit = if bit then 49 else 48

-- bit `place` of a number, 0 being the least significant
abbrev pub bit_of : (number place : ℕ) → Bool
bit_of number place = is_one (number / 2 ^ place)

-- the row in which three inputs spell a number, the first as the least significant
abbrev pub on_row : (spelled : ℕ) → Line
on_row spelled = digit (bit_of spelled 0) ∷ digit (bit_of spelled 1) ∷ digit (bit_of spelled 2) ∷ codes " 1"

-- that row, where a table is 1 at it
abbrev pub row_if_on : (table spelled : ℕ) → List Line
row_if_on table spelled = if bit_of table spelled then on_row spelled ∷ [] else []

-- the rows at which a table is 1, in rising order
abbrev pub on_rows : (table : ℕ) → List Line
on_rows table = flat_map (row_if_on table) (range_with_len 0 8)

abbrev pub cover_lines : (number : ℕ) → Cover → List Line
cover_lines number cover = (codes ".names " ++ names (cover.first ∷ cover.second ∷ cover.third ∷ nets.Cover number ∷ [])) ∷ on_rows cover.table

abbrev pub latch_line : (number : ℕ) → Latch → Line
latch_line number latch = codes ".latch " ++ names (nets.Cover latch.cover ∷ nets.Latch number ∷ []) ++ codes " " ++ (digit latch.initial ∷ [])

-- an output shows a cover
abbrev pub output_lines : (cover number : ℕ) → List Line
output_lines cover number = (codes ".names " ++ names (nets.Cover cover ∷ nets.Output number ∷ [])) ∷ codes "1 1" ∷ []

-- covers and latches are numbered from 0 in their order
abbrev pub all_cover_lines : List Cover → List Line
all_cover_lines covers = flat_map (λ it. cover_lines it.0 it.1) (enumerate_from 0 covers)

abbrev pub all_latch_lines : List Latch → List Line
all_latch_lines latches = map (λ it. latch_line it.0 it.1) (enumerate_from 0 latches)

-- outputs show as many covers in a row
abbrev pub shown_lines : (first number : ℕ) → List Line
shown_lines first number = output_lines (first + number) number

-- the outputs show the last covers
abbrev pub all_output_lines : (size : ℕ) → List Line
all_output_lines size = flat_map (shown_lines (size * size - size)) (range_with_len 0 size)

abbrev pub port_lines : (size : ℕ) → List Line
port_lines size =
    codes ".model sample"
    ∷ (codes ".inputs " ++ names (inputs size))
    ∷ (codes ".outputs " ++ names (outputs size))
    ∷ []

abbrev pub netlist_lines : (size : ℕ) → List Cover → List Latch → List Line
netlist_lines size covers latches =
    port_lines size ++ all_cover_lines covers ++ all_latch_lines latches ++ all_output_lines size ++ codes ".end" ∷ []

-- the names of the inputs, and a digit for each of them on each further line
abbrev pub stimulus_text_lines : (size : ℕ) → (stimulus : List (List Bool)) → List Line
stimulus_text_lines size stimulus = names (inputs size) ∷ map (map digit) stimulus
