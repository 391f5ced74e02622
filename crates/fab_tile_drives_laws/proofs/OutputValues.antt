-- The values of matrix outputs.
use Rattle.std.proofs.Common.{◌≡◌, ◌≢◌, ◌⊎◌, ℕ, ◌+◌, ◌<◌, ◌≤◌, Bool, true, false, not, List, [], ◌∷◌, ◌++◌, length, map, slice_get, get_or, refl, sym, ap, ◌∙◌, subst, inl, inr, arith, Option, Some, None, option_map, option_and_then, nat_eq, All, Contains}
use Rattle.std.specs.Option.{option_map_or}
use Rattle.std.proofs.lemmas.Bool.{cases_Bool, false≢true, eqb-true}
use Rattle.std.proofs.lemmas.Bool.Decides.{Decides-eqb, nat_tests}
use Rattle.std.proofs.lemmas.List.{length-map}
use Rattle.std.proofs.lemmas.List.Elements.{All-map, All-weaker, All-contains, Contains-append_left, Contains-append_right}
use Rattle.std.proofs.lemmas.Option.{slice_get-map, get_or_from_slice_get}
use Rattle.fab_bits.specs.Bits.{number, first_bits}
use Rattle.fab_bits.specs.Widths.{select_width}
use Rattle.fab_bits.proofs.Numbers.{first_bits_same}
use Rattle.fab_select.specs.declared.pair.Pair.{Pair}
use Rattle.fab_select.specs.Selection.{inputs_of, field_width, field_low, select_bits}
use Rattle.fab_gen_tile.specs.fab_syntax.specs.Plain.{PlainJoin, PlainModule, variable}
use Rattle.fab_gen_tile.specs.fab_meaning.specs.Points.{Path, Point, point, module_at}
use Rattle.fab_gen_tile.specs.fab_meaning.specs.Settled.{Assignment}
use Rattle.fab_gen_tile.specs.fab_meaning.specs.Reads.{is_declared}
use Rattle.fab_gen_tile.specs.fab_meaning.specs.Ports.{config_name}
use Rattle.fab_gen_tile.specs.fab_matrix.specs.Selects as law
use Rattle.fab_gen_tile.specs.fab_matrix.specs.Selects.{Selects, chosen}
use Rattle.fab_gen_tile.specs.fab_matrix.proofs.Fields.{field_within}
use Rattle.fab_gen_tile.specs.fab_matrix.proofs.Selecting.{matrix_selects}
use Rattle.fab_gen_tile.specs.fab_model.specs.declared.mode.Mode.{Mode}
use Rattle.fab_gen_tile.specs.fab_model.specs.Tiles.{PlainTile, TileWire, tile_wires, wire_name, matrix_names, is_matrix_output, numbered_pairs, IsPair, IsTile, wire_passes, bel_bits, output_field}
use Rattle.fab_gen_tile.specs.fab_model.specs.Wires.{PlainWire, wire_of, IsWire, IsMatrixOutput, plain_wires, wire_number}
use Rattle.fab_gen_tile.specs.fab_model.specs.Drive as drive
use Rattle.fab_gen_tile.specs.fab_model.specs.Drive.{input_at}
use Rattle.fab_gen_tile.specs.fab_model.proofs.Wires.{wire_at_number, number_has_wire, plain_wires_are_wires}
use Rattle.fab_gen_tile.specs.Names.{matrix_module_name, matrix_instance_name, same_join}
use Rattle.fab_gen_tile.specs.TileModule.{is_on_side, matrix_input_names, matrix_output_names, bits_join, matrix_joins, tile_module}
use Rattle.fab_gen_tile.specs.MatrixModule.{numbered_outputs, named_pairs, matrix_module}
use Rattle.fab_tile_drives_laws.specs.Stands.{TileStands, matrix_path, name_of, wire_point, IsSettledOnDeclared}
use Rattle.fab_tile_drives_laws.specs.Tiles.{ShowsTileBits, picked, picked_value, IsOwnOfOutput, itself, configuration, output_port, input_port, ShowsMatrixOutputs}
use Rattle.fab_tile_drives_laws.proofs.Endings.{EndsLow, low_wires}
use Rattle.fab_tile_drives_laws.proofs.Members.{contains_at, contains_map}
use Rattle.fab_tile_drives_laws.proofs.TileNames.{name_wide}
use Rattle.fab_tile_drives_laws.proofs.TileItems.{matrix_found, matrix_there}
use Rattle.fab_tile_drives_laws.proofs.Driven.{width_of, declared_at, joined_in, joined_out}
use Rattle.fab_tile_drives_laws.proofs.WireNames.{IsAt, at_number, name_at_number, name_there}
use Rattle.fab_tile_drives_laws.proofs.RowValues.{wire_seen}
use Rattle.fab_tile_drives_laws.proofs.BitValues.{inside, instance_shows}
use Rattle.fab_tile_drives_laws.proofs.PinPorts.{first_input, first_width}
use Rattle.fab_tile_drives_laws.proofs.NamedPairs.{inputs_same, width_same, low_same, bits_same, all_inputs, picked_input, chosen_named}
use Rattle.fab_tile_drives_laws.proofs.MatrixPorts.{side_there, output_there, inputs_apart, sides_apart, bits_input, bits_width, output_is_output, output_wide}

-- ---- inputs of pairs

abbrev IsInput : PlainTile → (input : ℕ) → Type 0
IsInput tile input = wire_passes (λ wire. not (is_matrix_output wire)) tile input ≡ true

-- what stands at the number of an input
record InputAt (tile : PlainTile) (input : ℕ) : Type 0 where
  wire : PlainWire
  stands : slice_get (plain_wires tile) input ≡ Some wire
  found : TileWire
  there : slice_get (tile_wires tile) input ≡ Some found
  side : is_on_side false found ≡ true
  named : name_of tile wire ≡ wire_name found

some_or_none : {X : Type 0} (o : Option X) → ((x : X) × (o ≡ Some x)) ⊎ (o ≡ None)
some_or_none None = inr refl
some_or_none (Some x) = inl (x, refl)

passing_wire : (test : TileWire → Bool) (tile : PlainTile) (k : ℕ) → wire_passes test tile k ≡ true → (found : TileWire) × (slice_get (tile_wires tile) k ≡ Some found) × (test found ≡ true)
passing_wire test tile k passes =
    elim (some_or_none (slice_get (tile_wires tile) k)) [
      | inl some ↦ (let e : slice_get (tile_wires tile) k ≡ Some some.0 = some.1 in (some.0, e, rw e at passes))
      | inr none ↦ (let f : false ≡ true = rw none at passes in absurd (false≢true f))
    ]

plain_there : (o : Option PlainWire) (g : PlainWire → Option TileWire) (found : TileWire) → option_map g o ≡ Some (Some found) → (wire : PlainWire) × (o ≡ Some wire)
plain_there None g found same = cc
plain_there (Some wire) g found same = (wire, refl)

input_stands : (tile : PlainTile) (input : ℕ) → IsInput tile input → InputAt tile input
input_stands tile input passes =
    let w = passing_wire (λ wire. not (is_matrix_output wire)) tile input passes in
    let both : option_map (wire_of tile) (slice_get (plain_wires tile) input) ≡ Some (Some w.0) =
    sym (slice_get-map (wire_of tile) (plain_wires tile) input)
    ∙ ap (λ wires. slice_get wires input) (plain_wires_are_wires tile)
    ∙ slice_get-map Some (tile_wires tile) input
    ∙ ap (option_map Some) w.1 in
    let p = plain_there (slice_get (plain_wires tile) input) (wire_of tile) w.0 both in
    let at = at_number tile p.0 input p.1 in
    let same : at.found ≡ w.0 = (let e : Some at.found ≡ Some w.0 = sym at.there ∙ w.1 in cc) in
    record {
      wire = p.0;
      stands = p.1;
      found = w.0;
      there = w.1;
      side = w.2;
      named = ap (λ found. option_map_or wire_name found []) at.is ∙ ap wire_name same;
    }

-- the inputs of an output are inputs
all_are_inputs : (tile : PlainTile) (output : ℕ) → IsTile tile → All (IsInput tile) (drive.matrix_inputs tile output)
all_are_inputs tile output is_tile =
    all_inputs (IsInput tile) (numbered_pairs tile) output
    (All-map (λ (pair : ℕ × ℕ). IsInput tile pair.1) _ tile.pairs (All-weaker (IsPair tile) (λ (pair : Pair). IsInput tile pair.input) (λ pair is. is.input) tile.pairs is_tile.pairs))

-- the names of the inputs of all pairs are among the matrix's
pairs_known : (tile : PlainTile) → IsTile tile → All (λ pair. Contains (matrix_input_names tile) pair.1) (named_pairs tile)
pairs_known tile is_tile =
    All-map (λ (pair : ℕ × List ℕ). Contains (matrix_input_names tile) pair.1) (λ (pair : Pair). (pair.output, get_or (matrix_names tile) pair.input [])) tile.pairs
    (All-weaker (IsPair tile) (λ (pair : Pair). Contains (matrix_input_names tile) (get_or (matrix_names tile) pair.input [])) known tile.pairs is_tile.pairs)
  where
    known : (pair : Pair) → IsPair tile pair → Contains (matrix_input_names tile) (get_or (matrix_names tile) pair.input [])
    known pair is =
        let at = input_stands tile pair.input is.input in
        let name : get_or (matrix_names tile) pair.input [] ≡ wire_name at.found =
        get_or_from_slice_get (matrix_names tile) pair.input (name_of tile at.wire) [] (name_at_number tile at.wire pair.input at.stands) ∙ at.named in
        subst (Contains (matrix_input_names tile)) (sym name) (side_there false tile pair.input at.found at.there at.side)

-- ---- select values

-- no bits select where there is no input
some_inputs : (inputs : List ℕ) → 0 < select_width (length inputs) → 0 < length inputs
unfolding select_width
some_inputs [] some = absurd (omega arith)
some_inputs (input ∷ inputs) some = omega arith

-- the field of an output, by the way that its bits take
field_bits : (tile : PlainTile) (output : ℕ) (bits value : ℕ → Bool) →
    ((bit : ℕ) → bit < select_bits nat_eq (numbered_pairs tile) → value bit ≡ bits (bel_bits tile + bit)) →
    number (first_bits (field_width nat_eq (numbered_pairs tile) output) (λ bit. value (field_low nat_eq (numbered_pairs tile) output + bit)))
    ≡ drive.select_value tile bits output
field_bits tile output bits value same =
    let pairs = numbered_pairs tile in
    let width = field_width nat_eq pairs output in
    let low = field_low nat_eq pairs output in
    elim (cases_Bool (nat_eq width 0)) [
      | inl none ↦ (
          let is : width ≡ 0 = eqb-true width 0 none in
          ap (λ n. number (first_bits n (λ bit. value (low + bit)))) is ∙ sym (no_field is none))
      | inr some ↦ (
          let wide : 0 < width = grind (arith, nat_tests) in
          let field : output_field tile output ≡ (bel_bits tile + low, width) = rw some refl in
          ap number (first_bits_same width (λ bit. value (low + bit)) (λ bit. bits (bel_bits tile + low + bit)) (each wide))
          ∙ sym (ap (λ (f : ℕ × ℕ). number (first_bits f.1 (λ place. bits (f.0 + place)))) field))
    ]
  where
    no_field : field_width nat_eq (numbered_pairs tile) output ≡ 0 → nat_eq (field_width nat_eq (numbered_pairs tile) output) 0 ≡ true → drive.select_value tile bits output ≡ 0
    no_field is none = (let field : output_field tile output ≡ (0, 0) = rw none refl in ap (λ (f : ℕ × ℕ). number (first_bits f.1 (λ place. bits (f.0 + place)))) field)

    each : 0 < field_width nat_eq (numbered_pairs tile) output → (bit : ℕ) → bit < field_width nat_eq (numbered_pairs tile) output →
        value (field_low nat_eq (numbered_pairs tile) output + bit) ≡ bits (bel_bits tile + field_low nat_eq (numbered_pairs tile) output + bit)
    each wide bit few =
        let pairs = tile.pairs in
        let names = matrix_names tile in
        let low = field_low nat_eq (numbered_pairs tile) output in
        let width = field_width nat_eq (numbered_pairs tile) output in
        let there : 0 < length (inputs_of nat_eq (numbered_pairs tile) output) = some_inputs (inputs_of nat_eq (numbered_pairs tile) output) wide in
        let count : length (inputs_of nat_eq (named_pairs tile) output) ≡ length (inputs_of nat_eq (numbered_pairs tile) output) =
        ap length (inputs_same names pairs output) ∙ length-map (inputs_of nat_eq (numbered_pairs tile) output) _ in
        let within : field_low nat_eq (named_pairs tile) output + field_width nat_eq (named_pairs tile) output ≤ select_bits nat_eq (named_pairs tile) =
        field_within nat_eq Decides-eqb output (named_pairs tile) (omega arith) in
        let same_low : field_low nat_eq (named_pairs tile) output ≡ low = low_same names pairs output in
        let same_width : field_width nat_eq (named_pairs tile) output ≡ width = width_same names pairs output in
        let same_bits : select_bits nat_eq (named_pairs tile) ≡ select_bits nat_eq (numbered_pairs tile) = bits_same names pairs in
        let place : bel_bits tile + (low + bit) ≡ bel_bits tile + low + bit = omega arith in
        same (low + bit) (omega arith) ∙ ap bits place

-- ---- what an output copies

-- the input that is picked has the value of the wire that stands at its number
picked_is : (path : Path) (tile : PlainTile) (now : Assignment) (value : ℕ → Bool) (o : Option ℕ) →
    ((input : ℕ) → o ≡ Some input → (wire : PlainWire) × (slice_get (plain_wires tile) input ≡ Some wire) × (value input ≡ now (wire_point path tile wire))) →
    option_map_or value o false ≡ picked_value path tile now (option_and_then (slice_get (plain_wires tile)) o)
picked_is path tile now value None each = refl
picked_is path tile now value (Some input) each = let g = each input refl in g.2 ∙ sym (ap (picked_value path tile now) g.1)

module _ (mode : Mode) (text : List PlainModule) (path : Path) (tile : PlainTile) (is_tile : IsTile tile) (stands : TileStands mode text path tile)
    (bits : ℕ → Bool) (inputs held now : Assignment) (wire : PlainWire) (shows : ShowsTileBits path tile bits now) (exists : IsWire tile wire) (output : IsMatrixOutput tile wire)
    (settled : IsSettledOnDeclared (IsOwnOfOutput path tile bits wire) text inputs held now) where
  abbrev Has : Point → Type 0
  Has = IsOwnOfOutput path tile bits wire

  abbrev place : ℕ
  place = wire_number tile wire

  abbrev name : List ℕ
  name = name_of tile wire

  abbrev inner : PlainModule
  inner = matrix_module tile

  abbrev here : Path
  here = matrix_path path

  at : IsAt tile wire place
  at = at_number tile wire place (wire_at_number tile wire exists)

  name_is : name ≡ wire_name at.found
  name_is = ap (λ found. option_map_or wire_name found []) at.is

  is_output : is_matrix_output at.found ≡ true
  is_output = sym (ap (λ found. option_map_or is_matrix_output found false) at.is) ∙ output

  named_output : Contains (matrix_output_names tile) name
  named_output = subst (Contains (matrix_output_names tile)) (sym name_is) (side_there true tile place at.found at.there is_output)

  numbered_output : Contains (numbered_outputs tile) (place, name)
  numbered_output = subst (λ n. Contains (numbered_outputs tile) (place, n)) (sym name_is) (output_there tile place at.found at.there is_output)

  some : 0 < length (matrix_output_names tile)
  some = (let within : named_output.0 < length (matrix_output_names tile) = named_output.1 in omega arith)

  of_module : module_at text here ≡ Some inner
  of_module = inside mode text path tile matrix_instance_name _ inner stands.tile_is (matrix_found mode tile some) (stands.matrix_is some)

  abbrev bit_joins : List PlainJoin
  bit_joins = bits_join (bel_bits tile) (select_bits nat_eq (numbered_pairs tile))

  abbrev output_joins : List PlainJoin
  output_joins = map same_join (matrix_output_names tile)

  -- the wire copies the port of the matrix
  copies : now (point path name 0) ≡ now (point here name 0)
  copies =
      let apart = subst (λ n. All (λ input. input ≢ n) (matrix_input_names tile)) (sym name_is) (sides_apart tile is_tile place at.found at.there is_output) in
      let low : EndsLow name = subst EndsLow (sym name_is) (wire_low) in
      joined_out Has text inputs held now settled path (tile_module mode tile) inner (matrix_module_name tile) matrix_instance_name (matrix_joins tile)
      stands.tile_is (stands.matrix_is some) (matrix_there mode tile some) name name 0
      (Contains-append_right (map same_join (matrix_input_names tile)) (bit_joins ++ output_joins) (same_join name)
      (Contains-append_right bit_joins output_joins (same_join name) (contains_map same_join (matrix_output_names tile) name named_output)))
      (output_is_output tile name low apart) (name_wide mode tile name (name_there tile wire exists)) itself
    where
      wire_low : EndsLow (wire_name at.found)
      wire_low = All-contains (λ w. EndsLow (wire_name w)) (tile_wires tile) at.found (low_wires tile) (contains_at (tile_wires tile) place at.found at.there)

  -- the select bits are those of the tile
  bit_value : (bit : ℕ) → bit < select_bits nat_eq (numbered_pairs tile) → now (point here config_name bit) ≡ bits (bel_bits tile + bit)
  bit_value bit few =
      let same : select_bits nat_eq (named_pairs tile) ≡ select_bits nat_eq (numbered_pairs tile) = bits_same (matrix_names tile) tile.pairs in
      let wide : width_of inner config_name ≡ select_bits nat_eq (named_pairs tile) = bits_width tile (omega arith) in
      instance_shows mode text path tile stands bits Has (λ p own. configuration own) inputs held now shows settled
      inner (matrix_module_name tile) matrix_instance_name (matrix_joins tile) of_module (stands.matrix_is some) (matrix_there mode tile some)
      (bel_bits tile) (select_bits nat_eq (numbered_pairs tile)) bit
      (λ join among. Contains-append_right (map same_join (matrix_input_names tile)) (bit_joins ++ output_joins) join (Contains-append_left bit_joins output_joins join among))
      (bits_input tile (omega arith)) (omega arith) (omega arith) few

  -- the port selects
  selects : now (point here name 0) ≡ chosen (λ input. now (point here input 0)) (inputs_of nat_eq (named_pairs tile) place) (law.select_value nat_eq (named_pairs tile) now here place)
  selects =
      matrix_selects nat_eq Decides-eqb (matrix_module_name tile) (matrix_input_names tile) (numbered_outputs tile) (named_pairs tile) (inputs_apart tile) (pairs_known tile is_tile)
      text here inputs held now (place, name) of_module numbered_output
      (λ p d is drives. settled p d (subst Has (sym is) output_port, subst (λ q. is_declared text q ≡ true) (sym is) declared) drives)
    where
      declared : is_declared text (point here name 0) ≡ true
      declared = declared_at text here inner name 0 of_module (output_wide tile (place, name) numbered_output)

  select_is : law.select_value nat_eq (named_pairs tile) now here place ≡ drive.select_value tile bits place
  select_is =
      let width : field_width nat_eq (named_pairs tile) place ≡ field_width nat_eq (numbered_pairs tile) place = width_same (matrix_names tile) tile.pairs place in
      let low : field_low nat_eq (named_pairs tile) place ≡ field_low nat_eq (numbered_pairs tile) place = low_same (matrix_names tile) tile.pairs place in
      (λ j. number (first_bits (width j) (λ bit. now (point here config_name (low j + bit)))))
      ∙ field_bits tile place bits (λ bit. now (point here config_name bit)) bit_value

  abbrev picked_number : Option ℕ
  picked_number = input_at (drive.matrix_inputs tile place) (drive.select_value tile bits place)

  -- the port of the input that is picked has the value of its wire
  input_value : (input : ℕ) → picked_number ≡ Some input →
      (from : PlainWire) × (slice_get (plain_wires tile) input ≡ Some from) × (now (point here (get_or (matrix_names tile) input []) 0) ≡ now (wire_point path tile from))
  input_value input picked_is =
      let found = input_stands tile input (picked_input (IsInput tile) (drive.matrix_inputs tile place) (drive.select_value tile bits place) input (all_are_inputs tile place is_tile) picked_is) in
      let from = found.wire in
      let is : picked tile bits wire ≡ Some from = ap (option_and_then (slice_get (plain_wires tile))) picked_is ∙ found.stands in
      let there : Contains (matrix_input_names tile) (name_of tile from) = subst (Contains (matrix_input_names tile)) (sym found.named) (side_there false tile input found.found found.there found.side) in
      let one : width_of inner (name_of tile from) ≡ 1 = first_width (matrix_input_names tile) _ inner.items (name_of tile from) there in
      let same : get_or (matrix_names tile) input [] ≡ name_of tile from =
      get_or_from_slice_get (matrix_names tile) input (name_of tile from) [] (name_at_number tile from input found.stands) in
      let shown : now (point here (name_of tile from) 0) ≡ now (wire_point path tile from) =
      joined_in Has text inputs held now settled path (tile_module mode tile) inner (matrix_module_name tile) matrix_instance_name (matrix_joins tile)
      stands.tile_is (stands.matrix_is some) (matrix_there mode tile some) (name_of tile from) (variable (name_of tile from)) 0
      (Contains-append_left (map same_join (matrix_input_names tile)) (bit_joins ++ output_joins) (same_join (name_of tile from)) (contains_map same_join (matrix_input_names tile) (name_of tile from) there))
      of_module (first_input (matrix_input_names tile) _ (name_of tile from) there) (omega arith) (input_port is)
      ∙ wire_seen mode text path tile is_tile stands now from (number_has_wire tile input from found.stands).0 in
      (from, found.stands, ap (λ n. now (point here n 0)) same ∙ shown)

  pub output_shows : now (point path name 0) ≡ picked_value path tile now (picked tile bits wire)
  output_shows =
      copies
      ∙ selects
      ∙ (λ j. chosen (λ input. now (point here input 0)) (inputs_same (matrix_names tile) tile.pairs place j) (select_is j))
      ∙ chosen_named (λ input. get_or (matrix_names tile) input []) (λ input. now (point here input 0)) (drive.matrix_inputs tile place) (drive.select_value tile bits place)
      ∙ picked_is path tile now (λ input. now (point here (get_or (matrix_names tile) input []) 0)) picked_number input_value

pub outputs_show : (mode : Mode) (text : List PlainModule) (path : Path) (tile : PlainTile) → IsTile tile → TileStands mode text path tile → ShowsMatrixOutputs text path tile
outputs_show mode text path tile is_tile stands bits inputs held now wire shows exists output settled =
    output_shows mode text path tile is_tile stands bits inputs held now wire shows exists output settled
