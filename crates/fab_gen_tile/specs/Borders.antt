-- The border bits of a row, and what the module of its tile assigns for them. How they are numbered is said here anew: what a fabric's wires
-- are driven by shares only the rows, their kinds and how many bits they have, so that one cannot be wrong with the other.
use Rattle.std.specs.Prelude.{ℕ, ◌+◌, ◌*◌, ◌-◌, Bool, true, false, List, [], ◌∷◌, ◌++◌, codes, bytes_eq, Option, Some, None, if◌then◌else◌}
use Rattle.fab_syntax.specs.declared.tree.Port.{Port}
use Rattle.fab_syntax.specs.Plain.{PlainExpr, constant, variable, PlainItem, assign}
use Rattle.fab_matrix.specs.fab_meaning.specs.Ports.{scalar}
use Rattle.fab_model.specs.declared.tiles.WireRow.{WireRow}
use Rattle.fab_model.specs.Rows.{is_jump, is_named, dest_bits, bit_name}
use Rattle.fab_model.specs.Tiles.{counted}
use Rattle.fab_gen_tile.specs.Names.{begin_name, end_name}

-- how many bits of a row stand at each border that its wires cross
abbrev pub border : WireRow → ℕ
border row = row.span * row.count

-- ---- ports

abbrev pub side_border : WireRow → Option (List ℕ) → ℕ
side_border row None = 0
side_border row (Some name) = border row

-- a row of a direction has its begin bits as outputs, and then its end bits as inputs; a jump crosses no border
abbrev pub border_ports : WireRow → List Port
border_ports row =
    if is_jump row.dir then []
    else counted (side_border row row.source) (λ bit. scalar false (begin_name row bit)) ++ counted (side_border row row.dest) (λ bit. scalar true (end_name row bit))

-- ---- assigns

-- an end bit that goes on is the begin bit with the number of as many wires less as begin in each tile
abbrev pub passing_assign : WireRow → (bit : ℕ) → PlainItem
passing_assign row bit = assign (begin_name row bit) (variable (end_name row (bit + row.count)))

-- the matrix outputs stand at the begin bits from a first one on
abbrev pub beginning_assign : WireRow → (first output : ℕ) → PlainItem
beginning_assign row first output = assign (begin_name row (first + output)) (variable (bit_name row.source output))

-- Begin bits: in a row with both ends all but the last wires' come from end bits; in a row without a destination all begin in the tile.
abbrev pub begin_assigns : WireRow → (source dest : Option (List ℕ)) → List PlainItem
begin_assigns row None dest = []
begin_assigns row (Some source) None = counted (border row) (beginning_assign row 0)
begin_assigns row (Some source) (Some dest) =
    let passing = (row.span - 1) * row.count in
    counted passing (passing_assign row) ++ counted row.count (beginning_assign row passing)

-- what a jump without a source is: 1 where its destination is VCC, else 0
abbrev pub fixed_bit : Option (List ℕ) → Bool
fixed_bit None = false
fixed_bit (Some dest) = bytes_eq dest (codes "VCC")

-- a destination bit: of a jump the source bit of its number, and of another row the end bit
abbrev pub dest_value : WireRow → (bit : ℕ) → PlainExpr
dest_value row bit =
    if is_jump row.dir then (if is_named row.source then variable (bit_name row.source bit) else constant (fixed_bit row.dest ∷ []))
    else variable (end_name row bit)

abbrev pub dest_assign : WireRow → (bit : ℕ) → PlainItem
dest_assign row bit = assign (bit_name row.dest bit) (dest_value row bit)

abbrev pub row_assigns : WireRow → List PlainItem
row_assigns row =
    (if is_jump row.dir then [] else begin_assigns row row.source row.dest) ++ counted (dest_bits row) (dest_assign row)
