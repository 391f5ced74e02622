-- The items of a sample's netlist.
use Rattle.std.specs.Prelude.{ℕ, ◌+◌, ◌-◌, ◌*◌, List, [], ◌∷◌, ◌++◌, codes, map, if◌then◌else◌}
use Rattle.std.specs.List.{enumerate_from, flat_map, range_with_len}
use Rattle.fab_blif_models.specs.Words.{Word}
use Rattle.fab_blif_models.specs.Plain.{PlainModel}
use Rattle.fab_sample.specs.declared.net.Net.TheVariants as nets
use Rattle.fab_sample.specs.declared.design.Cover.{Cover}
use Rattle.fab_sample.specs.declared.design.Latch.{Latch}
use Rattle.fab_sample.specs.Netlists.{net_name, inputs, outputs, bit_of}
use Rattle.fab_sample_laws.specs.Items.{Row, Pattern, Item, cover, wire, latch, model_rows, model_said}

-- what a row asks that stands for a number
abbrev pub pattern_of : (spelled : ℕ) → Pattern
pattern_of spelled = (bit_of spelled 0, bit_of spelled 1, bit_of spelled 2)

abbrev pub pattern_if_on : (table spelled : ℕ) → List Pattern
pattern_if_on table spelled = if bit_of table spelled then pattern_of spelled ∷ [] else []

-- the rows at which a table is 1
abbrev pub patterns_of : (table : ℕ) → List Pattern
patterns_of table = flat_map (pattern_if_on table) (range_with_len 0 8)

abbrev pub cover_item : ℕ × Cover → Item
cover_item it = cover (net_name it.1.first) (net_name it.1.second) (net_name it.1.third) (net_name (nets.Cover it.0)) (patterns_of it.1.table)

abbrev pub latch_item : ℕ × Latch → Item
latch_item it = latch (net_name (nets.Cover it.1.cover)) (net_name (nets.Latch it.0)) it.1.initial

-- an output shows a cover
abbrev pub output_item : (first number : ℕ) → Item
output_item first number = wire (net_name (nets.Cover (first + number))) (net_name (nets.Output number))

abbrev pub sample_items : (size : ℕ) → List Cover → List Latch → List Item
sample_items size covers latches =
    map cover_item (enumerate_from 0 covers) ++ (map latch_item (enumerate_from 0 latches) ++ map (output_item (size * size - size)) (range_with_len 0 size))

abbrev pub input_words : (size : ℕ) → List Word
input_words size = map net_name (inputs size)

abbrev pub output_words : (size : ℕ) → List Word
output_words size = map net_name (outputs size)

-- the rows of the netlist's text, and the model that it spells
abbrev pub sample_rows : (size : ℕ) → List Cover → List Latch → List Row
sample_rows size covers latches = model_rows (codes "sample") (input_words size) (output_words size) (sample_items size covers latches)

abbrev pub sample_model : (size : ℕ) → List Cover → List Latch → PlainModel
sample_model size covers latches = model_said (codes "sample") (input_words size) (output_words size) (sample_items size covers latches)
