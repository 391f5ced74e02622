-- What drives say: destination bits follow the joins, and what is copied is there.
use Rattle.std.proofs.Common.{◌≡◌, ◌≢◌, ◌↔◌, ℕ, zero, suc, ◌<◌, ◌≤◌, Bool, true, false, not, ◌&&◌, List, [], ◌∷◌, length, slice_get, refl, sym, ap, ap₂, ◌∙◌, arith, subst, Option, Some, None, option_map, option_and_then, nat_eq, nat_lt, inl, inr, codes}
use Rattle.std.specs.Option.{option_map_or}
use Rattle.std.specs.Prelude.{bytes_eq}
use Rattle.std.proofs.lemmas.Bool.{cases_Bool, le-ltb, cases_lt, false≢true, and_parts, not-true, eqb-true}
use Rattle.std.proofs.lemmas.Option.{same_Some, slice_get_within, slice_get-get_or, slice_get-map, get_or_from_slice_get}
use Rattle.std.proofs.lemmas.List.Elements.{All-contains}
use Rattle.std.proofs.lemmas.List.{get_or_past}
use Rattle.fab_kinds.specs.Pins.{input_count}
use Rattle.fab_select.specs.declared.pair.Pair.{Pair}
use Rattle.fab_select.specs.Selection.{inputs_of}
use Rattle.fab_model.specs.declared.tiles.WireRow.{WireRow}
use Rattle.fab_model.specs.declared.tiles.Bel.{Bel}
use Rattle.fab_model.specs.Rows.{is_jump, is_named, source_bits, dest_bits}
use Rattle.fab_model.specs.Tiles.{PlainTile, dest_bit, bel_pin, is_matrix_output, numbered_pairs}
use Rattle.fab_model.specs.Grid.{PlainFabric, tile_at, AreRows}
use Rattle.fab_model.specs.Joins.{RowPlace, Stands, Joins}
use Rattle.fab_model.specs.Cascade.{row_join_from, join_from, IsSourceBit, IsDestBit}
use Rattle.fab_model.specs.Wires.{PlainWire, source_of, dest_of, pin_of, pin_count, IsMatrixOutput, IsWire, HasWire, plain_wires, wire_number}
use Rattle.fab_model.specs.Drive.{PlainDrive, zero_bit, one_bit, copy, bel_output, PlainBits, select_value, input_at, copy_or_zero, matrix_drive, constant, joined_drive, dest_drive, pin_drive, tile_drive, drive, IsPaired, CopiesPaired, ArePairsApart}
use Rattle.fab_model.proofs.Steps.{map_gives, then_gives}
use Rattle.fab_model.proofs.Crossings.{placed, standing_is_placed}
use Rattle.fab_model.proofs.Found.{join_from_joins, joins_join_from, join_from_nothing, joins_source}
use Rattle.fab_model.proofs.Wires.{number_has_wire}

-- ---- what copies

-- what copies a wire or is 0 copies that wire alone
copy_is : (x y : ℕ) (from : Option PlainWire) (to_x to_y : ℕ) (wire : PlainWire) → copy_or_zero x y from ≡ copy to_x to_y wire → (from ≡ Some wire) × (x ≡ to_x) × (y ≡ to_y)
copy_is x y None to_x to_y wire h = cc
copy_is x y (Some from) to_x to_y wire h = (cc, cc, cc)

-- a constant is no copy
constant_copies_nothing : (name : Option (List ℕ)) (x y : ℕ) (wire : PlainWire) → constant name ≡ copy x y wire → ⊥
constant_copies_nothing None x y wire h = cc
constant_copies_nothing (Some name) x y wire h =
    elim (cases_Bool (bytes_eq name (codes "VCC"))) [
      | inl vcc ↦ (let q : one_bit ≡ copy x y wire = rw vcc at h in cc)
      | inr other ↦ (let q : zero_bit ≡ copy x y wire = rw other at h in cc)
    ]

-- what copies a joined source bit copies that one alone
joined_copies : (found : Option (RowPlace × ℕ)) (x y : ℕ) (wire : PlainWire) → joined_drive found ≡ copy x y wire → (here : RowPlace) × (source : ℕ) × (found ≡ Some (here, source)) × (copy here.x here.y (source_of here.row source) ≡ copy x y wire)
joined_copies None x y wire h = cc
joined_copies (Some found) x y wire h = (found.0, found.1, refl, h)

abbrev row_place : (x y row : ℕ) → RowPlace
row_place x y row = record { x = x; y = y; row = row }

-- a bit of the row at a place
abbrev bit_at : (x y row bit : ℕ) → RowPlace × ℕ
bit_at x y row bit = (row_place x y row, bit)

-- the copy of a source bit
abbrev copy_of : RowPlace × ℕ → PlainDrive
copy_of from = copy from.0.x from.0.y (source_of from.0.row from.1)

-- equal copies are of one source bit
same_copy : (from other : RowPlace × ℕ) → copy_of from ≡ copy_of other → from ≡ other
same_copy from other h =
    let same_x : from.0.x ≡ other.0.x = cc in
    let same_y : from.0.y ≡ other.0.y = cc in
    let same_wire : source_of from.0.row from.1 ≡ source_of other.0.row other.1 = cc in
    let same_row : from.0.row ≡ other.0.row = cc in
    let same_bit : from.1 ≡ other.1 = cc in
    ap (λ x. bit_at x from.0.y from.0.row from.1) same_x
    ∙ ap (λ y. bit_at other.0.x y from.0.row from.1) same_y
    ∙ ap (λ row. bit_at other.0.x other.0.y row from.1) same_row
    ∙ ap (λ bit. bit_at other.0.x other.0.y other.0.row bit) same_bit

-- ---- destination bits

-- a drive is that of the tile at the place
pub drive_at : (fabric : PlainFabric) (bits : PlainBits) (x y : ℕ) (wire : PlainWire) (tile : PlainTile) → tile_at fabric x y ≡ Some tile → drive fabric bits x y wire ≡ tile_drive fabric (bits x y) x y wire tile
drive_at fabric bits x y wire tile is = ap (λ tile. option_map_or (tile_drive fabric (bits x y) x y wire) tile zero_bit) is

-- a jump without a source
abbrev is_constant : WireRow → Bool
is_constant row = is_jump row.dir && not (is_named row.source)

-- the drive of a destination bit is that of its row
dest_drive_at : (fabric : PlainFabric) (bits : PlainBits) (there : RowPlace) (dest : ℕ) (tile : PlainTile) (row : WireRow) → Stands fabric there tile row → drive fabric bits there.x there.y (dest_of there.row dest) ≡ dest_drive fabric there dest (Some row)
dest_drive_at fabric bits there dest tile row stands =
    drive_at fabric bits there.x there.y (dest_of there.row dest) tile stands.tile_is ∙ ap (dest_drive fabric there dest) stands.row_is

-- nothing is joined to a constant
constant_is_joined_to_nothing : (fabric : PlainFabric) (there : RowPlace) (dest : ℕ) (tile : PlainTile) (row : WireRow) → Stands fabric there tile row → is_constant row ≡ true → join_from fabric there dest ≡ None
constant_is_joined_to_nothing fabric there dest tile row stands is =
    let parts = and_parts (is_jump row.dir) (not (is_named row.source)) is in
    let unnamed : is_named row.source ≡ false = not-true (is_named row.source) parts.1 in
    ap (option_and_then (row_join_from fabric dest)) (standing_is_placed fabric (placed there tile row) stands) ∙ rw (parts.0, unnamed) refl

-- a destination bit that copies is joined
dest_copies : (fabric : PlainFabric) (bits : PlainBits) (there : RowPlace) (dest : ℕ) (tile : PlainTile) (row : WireRow) (x y : ℕ) (wire : PlainWire) → Stands fabric there tile row → drive fabric bits there.x there.y (dest_of there.row dest) ≡ copy x y wire → (here : RowPlace) × (source : ℕ) × (join_from fabric there dest ≡ Some (here, source)) × (copy here.x here.y (source_of here.row source) ≡ copy x y wire)
dest_copies fabric bits there dest tile row x y wire stands h =
    let answer : dest_drive fabric there dest (Some row) ≡ copy x y wire = sym (dest_drive_at fabric bits there dest tile row stands) ∙ h in
    elim (cases_Bool (is_constant row)) [
      | inl constant_row ↦ (let q : constant row.dest ≡ copy x y wire = rw constant_row at answer in absurd (constant_copies_nothing row.dest x y wire q))
      | inr other ↦ (let q : joined_drive (join_from fabric there dest) ≡ copy x y wire = rw other at answer in joined_copies (join_from fabric there dest) x y wire q)
    ]

-- a destination bit copies exactly what is joined to it
pub dest_follows_joins : (fabric : PlainFabric) (bits : PlainBits) (here there : RowPlace) (source dest : ℕ) → AreRows fabric → IsDestBit fabric there dest → (drive fabric bits there.x there.y (dest_of there.row dest) ≡ copy here.x here.y (source_of here.row source)) ↔ Joins fabric here source there dest
dest_follows_joins fabric bits here there source dest are is = (
  λ h.
      let g = dest_copies fabric bits there dest is.tile is.row here.x here.y (source_of here.row source) is.stands h in
      join_from_joins fabric are here there source dest is.tile is.row is.stands is.is_bit (g.2 ∙ ap Some (same_copy (g.0, g.1) (here, source) g.3)),
  λ joins.
      let from = joins_join_from fabric are here there source dest joins in
      dest_drive_at fabric bits there dest is.tile is.row is.stands
      ∙ elim (cases_Bool (is_constant is.row)) [
        | inl constant_row ↦ (let none : None ≡ Some (here, source) = sym (constant_is_joined_to_nothing fabric there dest is.tile is.row is.stands constant_row) ∙ from in cc)
        | inr other ↦ rw (other, from) refl
      ],
)

-- a destination bit to which nothing is joined is 0
pub unjoined_is_zero : (fabric : PlainFabric) (bits : PlainBits) (there : RowPlace) (dest : ℕ) → AreRows fabric → (is : IsDestBit fabric there dest) → is_jump is.row.dir ≡ false → ((here : RowPlace) (source : ℕ) → Joins fabric here source there dest → ⊥) → drive fabric bits there.x there.y (dest_of there.row dest) ≡ zero_bit
unjoined_is_zero fabric bits there dest are is no_jump nothing =
    let none : join_from fabric there dest ≡ None = (join_from_nothing fabric there dest are is).1 nothing in
    dest_drive_at fabric bits there dest is.tile is.row is.stands ∙ rw (no_jump, none) refl

-- a constant has the value that its name says
pub constant_drives : (fabric : PlainFabric) (bits : PlainBits) (there : RowPlace) (dest : ℕ) (tile : PlainTile) (row : WireRow) → Stands fabric there tile row → is_jump row.dir ≡ true → is_named row.source ≡ false → drive fabric bits there.x there.y (dest_of there.row dest) ≡ constant row.dest
constant_drives fabric bits there dest tile row stands jumps unnamed = dest_drive_at fabric bits there dest tile row stands ∙ rw (jumps, unnamed) refl

pub high_is_one : (fabric : PlainFabric) (bits : PlainBits) (there : RowPlace) (dest : ℕ) (tile : PlainTile) (row : WireRow) → Stands fabric there tile row → is_jump row.dir ≡ true → is_named row.source ≡ false → row.dest ≡ Some (codes "VCC") → drive fabric bits there.x there.y (dest_of there.row dest) ≡ one_bit
high_is_one fabric bits there dest tile row stands jumps unnamed name = constant_drives fabric bits there dest tile row stands jumps unnamed ∙ ap constant name

pub low_is_zero : (fabric : PlainFabric) (bits : PlainBits) (there : RowPlace) (dest : ℕ) (tile : PlainTile) (row : WireRow) → Stands fabric there tile row → is_jump row.dir ≡ true → is_named row.source ≡ false → row.dest ≡ Some (codes "GND") → drive fabric bits there.x there.y (dest_of there.row dest) ≡ zero_bit
low_is_zero fabric bits there dest tile row stands jumps unnamed name = constant_drives fabric bits there dest tile row stands jumps unnamed ∙ ap constant name

-- ---- output pins

pub output_pin_is_of_bel : (fabric : PlainFabric) (bits : PlainBits) (x y bel pin : ℕ) (tile : PlainTile) (found : Bel) → tile_at fabric x y ≡ Some tile → slice_get tile.bels bel ≡ Some found → input_count found.kind ≤ pin → drive fabric bits x y (pin_of bel pin) ≡ bel_output x y bel pin
output_pin_is_of_bel fabric bits x y bel pin tile found is found_is output =
    drive_at fabric bits x y (pin_of bel pin) tile is
    ∙ ap (pin_drive (bits x y) x y tile bel pin) found_is
    ∙ rw (le-ltb pin (input_count found.kind) output) refl

-- ---- what is copied is there

-- a count that is above a number is that of an item
get_of : {X : Type 0} (f : X → ℕ) (found : Option X) (bit : ℕ) → bit < option_map_or f found 0 → (x : X) × (found ≡ Some x) × (bit < f x)
get_of f None bit few = absurd (omega (arith, few))
get_of f (Some x) bit few = (x, refl, few)

-- a source bit of a row that stands is a wire of the tile there
source_bit_is_wire : (fabric : PlainFabric) (here : RowPlace) (source : ℕ) → IsSourceBit fabric here source → HasWire fabric here.x here.y (source_of here.row source)
source_bit_is_wire fabric here source is =
    record { tile = is.tile; tile_is = is.stands.tile_is; is_wire = subst (λ found. source < option_map_or source_bits found 0) (sym is.stands.row_is) is.is_bit }

-- a wire that is a destination bit is one of a row that stands
pub wire_is_dest_bit : (fabric : PlainFabric) (x y row bit : ℕ) → HasWire fabric x y (dest_of row bit) → IsDestBit fabric (row_place x y row) bit
wire_is_dest_bit fabric x y row bit has =
    let g = get_of dest_bits (slice_get has.tile.rows row) bit has.is_wire in
    record { tile = has.tile; row = g.0; stands = record { tile_is = has.tile_is; row_is = g.1 }; is_bit = g.2 }

-- a matrix output copies a wire of its tile
matrix_copies : (fabric : PlainFabric) (bits : ℕ → Bool) (x y : ℕ) (tile : PlainTile) (output : ℕ) (to_x to_y : ℕ) (wire : PlainWire) → tile_at fabric x y ≡ Some tile → matrix_drive bits x y tile output ≡ copy to_x to_y wire → HasWire fabric to_x to_y wire
matrix_copies fabric bits x y tile output to_x to_y wire is h =
    let inputs = inputs_of nat_eq (numbered_pairs tile) output in
    let picked = input_at inputs (select_value tile bits output) in
    let g = copy_is x y (option_and_then (slice_get (plain_wires tile)) picked) to_x to_y wire h in
    let at = then_gives (slice_get (plain_wires tile)) picked wire g.0 in
    let has : HasWire fabric x y wire = record { tile = tile; tile_is = is; is_wire = (number_has_wire tile at.0 wire at.2).0 } in
    subst (λ y. HasWire fabric to_x y wire) g.2 (subst (λ x. HasWire fabric x y wire) g.1 has)

-- equal copies are of one wire
copied_has : (fabric : PlainFabric) (x y : ℕ) (wire : PlainWire) (to_x to_y : ℕ) (to : PlainWire) → copy x y wire ≡ copy to_x to_y to → HasWire fabric x y wire → HasWire fabric to_x to_y to
copied_has fabric x y wire to_x to_y to same has =
    let same_x : x ≡ to_x = cc in
    let same_y : y ≡ to_y = cc in
    let same_wire : wire ≡ to = cc in
    subst (λ wire. HasWire fabric to_x to_y wire) same_wire (subst (λ y. HasWire fabric to_x y wire) same_y (subst (λ x. HasWire fabric x y wire) same_x has))

pub copied_is_there : (fabric : PlainFabric) (bits : PlainBits) (x y : ℕ) (wire : PlainWire) (to_x to_y : ℕ) (to : PlainWire) → AreRows fabric → HasWire fabric x y wire → drive fabric bits x y wire ≡ copy to_x to_y to → HasWire fabric to_x to_y to
copied_is_there fabric bits x y (source_of row bit) to_x to_y to are has h =
    let wire = source_of row bit in
    matrix_copies fabric (bits x y) x y has.tile (wire_number has.tile wire) to_x to_y to has.tile_is (sym (drive_at fabric bits x y wire has.tile has.tile_is) ∙ h)
copied_is_there fabric bits x y (dest_of row bit) to_x to_y to are has h =
    let there = row_place x y row in
    let is = wire_is_dest_bit fabric x y row bit has in
    let g = dest_copies fabric bits there bit is.tile is.row to_x to_y to is.stands h in
    let joins = join_from_joins fabric are g.0 there g.1 bit is.tile is.row is.stands is.is_bit g.2 in
    copied_has fabric g.0.x g.0.y (source_of g.0.row g.1) to_x to_y to g.3 (source_bit_is_wire fabric g.0 g.1 (joins_source fabric g.0 there g.1 bit joins))
copied_is_there fabric bits x y (pin_of bel pin) to_x to_y to are has h =
    let wire = pin_of bel pin in
    let found = get_of pin_count (slice_get has.tile.bels bel) pin has.is_wire in
    let answer : pin_drive (bits x y) x y has.tile bel pin (Some found.0) ≡ copy to_x to_y to =
    sym (drive_at fabric bits x y wire has.tile has.tile_is ∙ ap (pin_drive (bits x y) x y has.tile bel pin) found.1) ∙ h in
    elim (cases_Bool (nat_lt pin (input_count found.0.kind))) [
      | inl input ↦ (
          let q : matrix_drive (bits x y) x y has.tile (wire_number has.tile wire) ≡ copy to_x to_y to = rw input at answer in
          matrix_copies fabric (bits x y) x y has.tile (wire_number has.tile wire) to_x to_y to has.tile_is q)
      | inr output ↦ (let q : bel_output x y bel pin ≡ copy to_x to_y to = rw output at answer in cc)
    ]

-- ---- matrix outputs copy what they are paired with

-- which of these pairs joins an output to an input
abbrev PairAt : List (ℕ × ℕ) → (output input : ℕ) → Type 0
PairAt pairs output input = (j : ℕ) × (slice_get pairs j ≡ Some (output, input))

first_or_later : (pair : ℕ × ℕ) (pairs : List (ℕ × ℕ)) (inputs : List ℕ) (output k input : ℕ) → ((k : ℕ) → slice_get inputs k ≡ Some input → PairAt pairs output input) → pair.0 ≡ output → slice_get (pair.1 ∷ inputs) k ≡ Some input → PairAt (pair ∷ pairs) output input
first_or_later pair pairs inputs output zero input later same h =
    let input_is : pair.1 ≡ input = same_Some pair.1 input h in
    (0, ap₂ (λ output input. Some (output, input)) same input_is)
first_or_later pair pairs inputs output (suc k) input later same h = let g = later k h in (suc g.0, g.1)

-- an input of an output stands in one of its pairs
pair_of_input : (pairs : List (ℕ × ℕ)) (output k input : ℕ) → slice_get (inputs_of nat_eq pairs output) k ≡ Some input → PairAt pairs output input
pair_of_input [] output k input h = cc
pair_of_input (pair ∷ pairs) output k input h =
    let later : (k : ℕ) → slice_get (inputs_of nat_eq pairs output) k ≡ Some input → PairAt pairs output input = λ k. pair_of_input pairs output k input in
    elim (cases_Bool (nat_eq pair.0 output)) [
      | inl same ↦ (
          let kept : slice_get (pair.1 ∷ inputs_of nat_eq pairs output) k ≡ Some input = rw same at h in
          first_or_later pair pairs (inputs_of nat_eq pairs output) output k input later (eqb-true pair.0 output same) kept)
      | inr other ↦ (
          let left : slice_get (inputs_of nat_eq pairs output) k ≡ Some input = rw other at h in
          let g = later k left in
          (suc g.0, g.1))
    ]

-- the input that is picked is one of the inputs
input_at_is : (inputs : List ℕ) (n input : ℕ) → input_at inputs n ≡ Some input → (k : ℕ) × (slice_get inputs k ≡ Some input)
input_at_is [] n input h = cc
input_at_is (first ∷ inputs) n input h =
    elim (cases_lt n (length (first ∷ inputs))) [
      | inl inside ↦ (n, slice_get-get_or (first ∷ inputs) n first inside ∙ h)
      | inr past ↦ (0, ap Some (sym (get_or_past (first ∷ inputs) n first past)) ∙ h)
    ]

-- a pair as plain numbers, and the pair of two numbers
abbrev numbers_of : Pair → ℕ × ℕ
numbers_of pair = (pair.output, pair.input)

abbrev paired_numbers : ℕ → ℕ → Pair
paired_numbers output input = record { output = output; input = input }

same_pair : (pair : Pair) (output input : ℕ) → pair.output ≡ output → pair.input ≡ input → pair ≡ paired_numbers output input
same_pair pair output input same_output same_input = ap₂ (λ output input. paired_numbers output input) same_output same_input

-- a matrix output copies a wire with which it is paired
matrix_copies_paired : (bits : ℕ → Bool) (x y : ℕ) (tile : PlainTile) (output : PlainWire) (to_x to_y : ℕ) (to : PlainWire) → matrix_drive bits x y tile (wire_number tile output) ≡ copy to_x to_y to → CopiesPaired x y tile output to_x to_y to
matrix_copies_paired bits x y tile output to_x to_y to h =
    let number = wire_number tile output in
    let inputs = inputs_of nat_eq (numbered_pairs tile) number in
    let picked = input_at inputs (select_value tile bits number) in
    let g = copy_is x y (option_and_then (slice_get (plain_wires tile)) picked) to_x to_y to h in
    let at = then_gives (slice_get (plain_wires tile)) picked to g.0 in
    let input = input_at_is inputs (select_value tile bits number) at.0 at.1 in
    let pair = pair_of_input (numbered_pairs tile) number input.0 at.0 input.1 in
    let of_tile = map_gives numbers_of (slice_get tile.pairs pair.0) (number, at.0) (sym (slice_get-map numbers_of tile.pairs pair.0) ∙ pair.1) in
    let to_is : at.0 ≡ wire_number tile to = sym (number_has_wire tile at.0 to at.2).1 in
    let pair_is : of_tile.0 ≡ paired_numbers number (wire_number tile to) =
    same_pair of_tile.0 number (wire_number tile to) (ap (λ pair. pair.0) of_tile.2) (ap (λ pair. pair.1) of_tile.2 ∙ to_is) in
    let found : slice_get tile.pairs pair.0 ≡ Some (paired_numbers number (wire_number tile to)) = of_tile.1 ∙ ap Some pair_is in
    record {
      x_is = g.1;
      y_is = g.2;
      paired = (pair.0, slice_get_within tile.pairs pair.0 (paired_numbers number (wire_number tile to)) found, get_or_from_slice_get tile.pairs pair.0 (paired_numbers number (wire_number tile to)) (paired_numbers number (wire_number tile to)) found);
    }

-- an input pin is driven by the matrix
output_is_driven : (bits : ℕ → Bool) (x y : ℕ) (tile : PlainTile) (bel pin : ℕ) (found : Option Bel) → option_map_or is_matrix_output (option_map (λ found. bel_pin found pin) found) false ≡ true → pin_drive bits x y tile bel pin found ≡ matrix_drive bits x y tile (wire_number tile (pin_of bel pin))
output_is_driven bits x y tile bel pin None output = absurd (false≢true output)
output_is_driven bits x y tile bel pin (Some found) output = rw output refl

-- a destination bit is no matrix output
no_dest_is_output : (found : Option WireRow) (bit : ℕ) → option_map_or is_matrix_output (option_map (λ found. dest_bit found bit) found) false ≡ true → ⊥
no_dest_is_output None bit output = false≢true output
no_dest_is_output (Some found) bit output = false≢true output

-- the matrix drives its outputs
pub matrix_drive_at : (fabric : PlainFabric) (bits : PlainBits) (x y : ℕ) (tile : PlainTile) (wire : PlainWire) → tile_at fabric x y ≡ Some tile → IsMatrixOutput tile wire → drive fabric bits x y wire ≡ matrix_drive (bits x y) x y tile (wire_number tile wire)
matrix_drive_at fabric bits x y tile (source_of row bit) is output = drive_at fabric bits x y (source_of row bit) tile is
matrix_drive_at fabric bits x y tile (dest_of row bit) is output = absurd (no_dest_is_output (slice_get tile.rows row) bit output)
matrix_drive_at fabric bits x y tile (pin_of bel pin) is output =
    drive_at fabric bits x y (pin_of bel pin) tile is ∙ output_is_driven (bits x y) x y tile bel pin (slice_get tile.bels bel) output

-- the same of each wire that the matrix drives
pub output_copies_paired : (fabric : PlainFabric) (bits : PlainBits) (x y : ℕ) (tile : PlainTile) (wire : PlainWire) (to_x to_y : ℕ) (to : PlainWire) → tile_at fabric x y ≡ Some tile → IsMatrixOutput tile wire → drive fabric bits x y wire ≡ copy to_x to_y to → CopiesPaired x y tile wire to_x to_y to
output_copies_paired fabric bits x y tile wire to_x to_y to is output h =
    matrix_copies_paired (bits x y) x y tile wire to_x to_y to (sym (matrix_drive_at fabric bits x y tile wire is output) ∙ h)

-- ---- no wire copies itself

paired_apart : (tile : PlainTile) (wire : PlainWire) → ArePairsApart tile → IsPaired tile wire wire → ⊥
paired_apart tile wire apart paired =
    All-contains (λ pair. pair.output ≢ pair.input) tile.pairs (paired_numbers (wire_number tile wire) (wire_number tile wire)) apart paired refl

pub no_copy_of_itself : (fabric : PlainFabric) (bits : PlainBits) (x y : ℕ) (tile : PlainTile) (wire : PlainWire) → tile_at fabric x y ≡ Some tile → IsWire tile wire → ArePairsApart tile → drive fabric bits x y wire ≡ copy x y wire → ⊥
no_copy_of_itself fabric bits x y tile (source_of row bit) is wire apart h =
    let g = get_of source_bits (slice_get tile.rows row) bit wire in
    let output : IsMatrixOutput tile (source_of row bit) = rw g.1 refl in
    paired_apart tile (source_of row bit) apart (output_copies_paired fabric bits x y tile (source_of row bit) x y (source_of row bit) is output h).paired
no_copy_of_itself fabric bits x y tile (dest_of row bit) is wire apart h =
    let there = wire_is_dest_bit fabric x y row bit (record { tile = tile; tile_is = is; is_wire = wire }) in
    let g = dest_copies fabric bits (row_place x y row) bit there.tile there.row x y (dest_of row bit) there.stands h in
    let same : source_of g.0.row g.1 ≡ dest_of row bit = (let copies = g.3 in cc) in
    cc
no_copy_of_itself fabric bits x y tile (pin_of bel pin) is wire apart h =
    let g = get_of pin_count (slice_get tile.bels bel) pin wire in
    elim (cases_Bool (nat_lt pin (input_count g.0.kind))) [
      | inl input ↦ (
          let output : IsMatrixOutput tile (pin_of bel pin) = rw g.1 input in
          paired_apart tile (pin_of bel pin) apart (output_copies_paired fabric bits x y tile (pin_of bel pin) x y (pin_of bel pin) is output h).paired)
      | inr output ↦ (
          let answer : pin_drive (bits x y) x y tile bel pin (Some g.0) ≡ copy x y (pin_of bel pin) =
          sym (drive_at fabric bits x y (pin_of bel pin) tile is ∙ ap (pin_drive (bits x y) x y tile bel pin) g.1) ∙ h in
          let q : bel_output x y bel pin ≡ copy x y (pin_of bel pin) = rw output at answer in
          cc)
    ]
