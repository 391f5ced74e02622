-- A model of covers and latches by the words of its lines.
use Rattle.std.specs.Prelude.{ℕ, ◌+◌, ◌-◌, Bool, List, [], ◌∷◌, ◌++◌, codes, length, map, None}
use Rattle.std.specs.List.{flat_map, join_with_byte}
use Rattle.fab_sample.specs.Netlists.{digit}
use Rattle.fab_blif_models.specs.Words.{Word}
use Rattle.fab_blif_models.specs.Covers.{cubes_of, is_on_set, rows_on}
use Rattle.fab_blif_models.specs.Plain as bodies
use Rattle.fab_blif_models.specs.Plain.{PlainBody, PlainStatement, PlainModel}

-- a line, by its words
abbrev pub Row : Type 0
Row = List Word

-- its text, with a blank between two words
abbrev pub row_line : Row → List ℕ
row_line row = join_with_byte 32 row

-- each line with the line feed that ends it
abbrev pub rows_text : List Row → List ℕ
rows_text rows = flat_map (λ row. row_line row ++ codes "\n") rows

-- what a row of a cover asks of its three inputs
abbrev pub Pattern : Type 0
Pattern = Bool × Bool × Bool

-- a cover of three inputs with the rows of its on-set, a cover that passes its input on, or a latch
pub data Item : Type 0 where
  cover : (first second third output : Word) → List Pattern → Item
  wire : (source output : Word) → Item
  latch : (input output : Word) → (initial : Bool) → Item

abbrev pub pattern_row : Pattern → Row
pattern_row pattern = (digit pattern.0 ∷ digit pattern.1 ∷ digit pattern.2 ∷ []) ∷ codes "1" ∷ []

abbrev pub item_rows : Item → List Row
item_rows (cover first second third output patterns) = (codes ".names" ∷ first ∷ second ∷ third ∷ output ∷ []) ∷ map pattern_row patterns
item_rows (wire source output) = (codes ".names" ∷ source ∷ output ∷ []) ∷ (codes "1" ∷ codes "1" ∷ []) ∷ []
item_rows (latch input output initial) = (codes ".latch" ∷ input ∷ output ∷ (digit initial ∷ []) ∷ []) ∷ []

-- a model of these ports and items
abbrev pub model_rows : (name : Word) (inputs outputs : List Word) → List Item → List Row
model_rows name inputs outputs items =
    (codes ".model" ∷ name ∷ [])
    ∷ (codes ".inputs" ∷ inputs)
    ∷ (codes ".outputs" ∷ outputs)
    ∷ flat_map item_rows items ++ (codes ".end" ∷ []) ∷ []

-- ---- what the rows say

-- a cover of these inputs and rows
abbrev pub cover_said : (inputs : List Word) → (output : Word) → (rows : List Row) → PlainBody
cover_said inputs output rows = bodies.cover inputs output (is_on_set (rows_on rows)) (cubes_of rows)

-- what an item says on a line
abbrev pub statement_at : (line : ℕ) → Item → PlainStatement
statement_at line (cover first second third output patterns) =
    record { line = line; body = cover_said (first ∷ second ∷ third ∷ []) output (map pattern_row patterns) }
statement_at line (wire source output) = record { line = line; body = cover_said (source ∷ []) output ((codes "1" ∷ codes "1" ∷ []) ∷ []) }
statement_at line (latch input output initial) = record { line = line; body = bodies.latch input output None (digit initial - 48) }

-- the statements of items whose rows begin on a line
abbrev pub statements_from : (line : ℕ) → List Item → List PlainStatement
statements_from line [] = []
statements_from line (item ∷ items) = statement_at line item ∷ statements_from (line + length (item_rows item)) items

-- the model, where its rows are all lines of a text
abbrev pub model_said : (name : Word) (inputs outputs : List Word) → List Item → PlainModel
model_said name inputs outputs items = record {
  line = 1;
  name = name;
  statements = record { line = 2; body = bodies.inputs inputs } ∷ record { line = 3; body = bodies.outputs outputs } ∷ statements_from 4 items;
}

-- ---- what the items drive and read

abbrev pub cover_outputs : Item → List Word
cover_outputs (cover first second third output patterns) = output ∷ []
cover_outputs (wire source output) = output ∷ []
cover_outputs (latch input output initial) = []

abbrev pub cover_inputs : Item → List Word
cover_inputs (cover first second third output patterns) = first ∷ second ∷ third ∷ []
cover_inputs (wire source output) = source ∷ []
cover_inputs (latch input output initial) = []

abbrev pub latch_outputs : Item → List Word
latch_outputs (cover first second third output patterns) = []
latch_outputs (wire source output) = []
latch_outputs (latch input output initial) = output ∷ []

abbrev pub latch_inputs : Item → List Word
latch_inputs (cover first second third output patterns) = []
latch_inputs (wire source output) = []
latch_inputs (latch input output initial) = input ∷ []

-- the inputs and the output of a cover
abbrev pub Edge : Type 0
Edge = List Word × Word

abbrev pub edges : Item → List Edge
edges (cover first second third output patterns) = (first ∷ second ∷ third ∷ [], output) ∷ []
edges (wire source output) = (source ∷ [], output) ∷ []
edges (latch input output initial) = []
