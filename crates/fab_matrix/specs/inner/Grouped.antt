-- The inputs of a matrix grouped by output, as the generator keeps them.
use Rattle.std.specs.Prelude.{ℕ, List, [], Vec, map, filter, length, nat_eq, not, sum_by, take_while, slice_index_or}
use Rattle.fab_bits.specs.Widths.{select_width}
use Rattle.fab_bits.specs.Keys.{group_at}
use Rattle.fab_syntax.specs.Plain.{PlainItem, assign}
use Rattle.fab_select.specs.declared.pair.Pair.{Pair}
use Rattle.fab_matrix.specs.Names.{Name}
use Rattle.fab_matrix.specs.Matrix.{selection}

-- the numbers of the inputs of an output, in the order of its pairs
abbrev pub numbers_of : List Pair → (output : ℕ) → List ℕ
numbers_of pairs output = map (λ pair. pair.input) (filter (λ pair. nat_eq pair.output output) pairs)

abbrev pub width_at : {A : Type 0} → List (Vec ℕ A) → (output : ℕ) → ℕ
width_at groups output = select_width (length (group_at groups output))

abbrev pub low_at : {A : Type 0} → List (Vec ℕ A) → (order : List ℕ) → (output : ℕ) → ℕ
low_at groups order output = sum_by (width_at groups) (take_while (λ other. not (nat_eq other output)) order)

abbrev pub name_at : List Name → ℕ → Name
name_at names number = slice_index_or names number []

-- the item of an output that has this number and this name
abbrev pub item_of : {A : Type 0} → (inputs : List Name) → List (Vec ℕ A) → (order : List ℕ) → (output : ℕ) → Name → PlainItem
item_of inputs groups order output name =
    assign name (selection (low_at groups order output) (width_at groups output) (map (name_at inputs) (group_at groups output)))
