-- The ports of matrices: an output shows its picked input, an input its wire, and a wire that is an output its port.
use Rattle.std.proofs.Common.{◌≡◌, ◌≢◌, ℕ, zero, suc, ◌+◌, ◌-◌, ◌^◌, ◌<◌, ◌≤◌, Bool, true, false, not, List, [], ◌∷◌, ◌++◌, length, map, filter, slice_get, get_or, refl, sym, ap, ◌∙◌, subst, inl, inr, arith, Option, Some, None, option_and_then, nat_eq, All, Contains, le-ltb}
use Rattle.std.specs.Option.{option_map_or}
use Rattle.std.proofs.lemmas.Bool.{cases_Bool, cases_lt, eqb-true}
use Rattle.std.proofs.lemmas.Bool.Decides.{Decides-eqb, nat_tests}
use Rattle.std.proofs.lemmas.List.{length-map, get_or_past}
use Rattle.std.proofs.lemmas.List.Elements.{All-map, All-filter, All-weaker, All-contains, Contains-append_left, Contains-append_right}
use Rattle.std.proofs.lemmas.Option.{get_or_from_slice_get}
use Rattle.fab_bits.specs.Bits.{number, first_bits}
use Rattle.fab_bits.specs.Widths.{select_width}
use Rattle.fab_bits.proofs.Least.{select_enough, some_width}
use Rattle.fab_bits.proofs.Numbers.{first_bits_same, range_first_bits, length_first_bits}
use Rattle.fab_select.specs.declared.pair.Pair.{Pair}
use Rattle.fab_select.specs.Selection.{inputs_of, field_width, field_low, select_bits}
use Rattle.fab_systems_laws.specs.Ternary.{Tern, no, known}
use Rattle.fab_syntax.specs.Plain.{PlainItem, PlainJoin, PlainModule, assign}
use Rattle.fab_meaning.specs.Points.{Path, point, module_at}
use Rattle.fab_meaning.specs.Settled.{Assignment}
use Rattle.fab_meaning.specs.Value.{value}
use Rattle.fab_matrix.specs.Names.{Name}
use Rattle.fab_meaning.specs.Ports.{config_name}
use Rattle.fab_matrix.specs.Matrix.{field, selection, output_value}
use Rattle.fab_matrix.proofs.Fields.{field_within}
use Rattle.fab_model.specs.declared.mode.Mode.{Mode}
use Rattle.fab_model.specs.Tiles.{PlainTile, TileWire, tile_wires, wire_name, matrix_names, is_matrix_output, numbered_pairs, IsPair, IsTile, wire_passes, bel_bits, output_field}
use Rattle.fab_model.specs.Wires.{PlainWire, IsWire, IsMatrixOutput, plain_wires, wire_number}
use Rattle.fab_model.specs.Drive as drive
use Rattle.fab_model.specs.Drive.{input_at}
use Rattle.fab_model.proofs.Wires.{wire_at_number}
use Rattle.fab_use_defs.specs.fab_gen_tile_Names.{matrix_module_name, matrix_instance_name, same_join}
use Rattle.fab_use_defs.specs.fab_gen_tile_TileModule.{is_on_side, matrix_input_names, matrix_output_names, bits_join, matrix_joins, tile_module}
use Rattle.fab_use_defs.specs.fab_gen_tile_MatrixModule.{numbered_outputs, named_pairs, matrix_module}
use Rattle.fab_use_defs.specs.fab_tile_drives_laws_Stands.{TileStands, matrix_path, name_of, wire_point}
use Rattle.fab_use_defs.specs.fab_tile_drives_laws_Tiles.{picked}
use Rattle.fab_use_defs.proofs.fab_tile_drives_laws_Endings.{EndsLow, low_wires}
use Rattle.fab_use_defs.proofs.fab_tile_drives_laws_Members.{contains_at, contains_map}
use Rattle.fab_use_defs.proofs.fab_tile_drives_laws_TileNames.{name_wide}
use Rattle.fab_use_defs.proofs.fab_tile_drives_laws_TileItems.{matrix_found, matrix_there}
use Rattle.fab_use_defs.proofs.fab_tile_drives_laws_Driven.{width_of}
use Rattle.fab_use_defs.proofs.fab_tile_drives_laws_WireNames.{IsAt, at_number, name_at_number, name_there}
use Rattle.fab_use_defs.proofs.fab_tile_drives_laws_BitValues.{inside}
use Rattle.fab_use_defs.proofs.fab_tile_drives_laws_PinPorts.{first_input, first_width}
use Rattle.fab_use_defs.proofs.fab_tile_drives_laws_NamedPairs.{inputs_same, width_same, low_same, bits_same}
use Rattle.fab_use_defs.proofs.fab_tile_drives_laws_MatrixPorts.{side_there, output_there, sides_apart, bits_width, output_is_output}
use Rattle.fab_ternary_laws.specs.Operators.{tern_at}
use Rattle.fab_ternary_laws.specs.Values.{tern_value}
use Rattle.fab_ternary_laws.specs.Laws.{at_from}
use Rattle.fab_ternary_laws.proofs.Picks.{chain_picks}
use Rattle.fab_use_defs.specs.Sources.{shows}
use Rattle.fab_ternary_laws.specs.Shown.{Terns, first_terns, tern_names}
use Rattle.fab_points_laws.specs.Shown.{Shown}
use Rattle.fab_points_laws.specs.Known.{KnowsTile}
use Rattle.fab_ternary_laws.proofs.Drivers.{first_terns_known}
use Rattle.fab_points_laws.proofs.Places.{passing_plain}
use Rattle.fab_points_laws.proofs.Shown.{terns_of_name, variable_tern, shown_assigned, shown_in, shown_out}

-- ---- inputs of pairs

abbrev IsInput : PlainTile → (input : ℕ) → Type 0
IsInput tile input = wire_passes (λ wire. not (is_matrix_output wire)) tile input ≡ true

-- what stands at the number of an input
record InputAt (tile : PlainTile) (input : ℕ) : Type 0 where
  wire : PlainWire
  stands : slice_get (plain_wires tile) input ≡ Some wire
  found : TileWire
  there : slice_get (tile_wires tile) input ≡ Some found
  side : is_on_side false found ≡ true
  named : name_of tile wire ≡ wire_name found

input_stands : (tile : PlainTile) (input : ℕ) → IsInput tile input → InputAt tile input
input_stands tile input passes =
    let p = passing_plain (λ wire. not (is_matrix_output wire)) tile input passes in
    let at = at_number tile p.0 input p.1 in
    record {
      wire = p.0;
      stands = p.1;
      found = at.found;
      there = at.there;
      side = sym (ap (λ found. option_map_or (λ wire. not (is_matrix_output wire)) found false) at.is) ∙ p.2;
      named = ap (λ found. option_map_or wire_name found []) at.is;
    }

-- the names of the inputs of all pairs are among the matrix's
pairs_known : (tile : PlainTile) → IsTile tile → All (λ pair. Contains (matrix_input_names tile) pair.1) (named_pairs tile)
pairs_known tile is_tile =
    All-map (λ (pair : ℕ × List ℕ). Contains (matrix_input_names tile) pair.1) (λ (pair : Pair). (pair.output, get_or (matrix_names tile) pair.input [])) tile.pairs
    (All-weaker (IsPair tile) (λ (pair : Pair). Contains (matrix_input_names tile) (get_or (matrix_names tile) pair.input [])) known_pair tile.pairs is_tile.pairs)
  where
    known_pair : (pair : Pair) → IsPair tile pair → Contains (matrix_input_names tile) (get_or (matrix_names tile) pair.input [])
    known_pair pair is =
        let at = input_stands tile pair.input is.input in
        let name : get_or (matrix_names tile) pair.input [] ≡ wire_name at.found =
        get_or_from_slice_get (matrix_names tile) pair.input (name_of tile at.wire) [] (name_at_number tile at.wire pair.input at.stands) ∙ at.named in
        subst (Contains (matrix_input_names tile)) (sym name) (side_there false tile pair.input at.found at.there at.side)

inputs_within : (P : Name → Type 0) (pairs : List (ℕ × Name)) (output : ℕ) → All (λ pair. P pair.1) pairs → All P (inputs_of nat_eq pairs output)
inputs_within P pairs output all =
    All-map P (λ (pair : ℕ × Name). pair.1) (filter (λ (pair : ℕ × Name). nat_eq pair.0 output) pairs)
    (All-filter (λ (pair : ℕ × Name). nat_eq pair.0 output) (λ (pair : ℕ × Name). P pair.1) pairs all)

got : {X : Type 0} (P : X → Type 0) (x : X) (xs : List X) (k : ℕ) → All P (x ∷ xs) → P (get_or (x ∷ xs) k x)
got P x xs k all =
    elim (cases_lt k (length (x ∷ xs))) [
      | inl l ↦ all k x l
      | inr past ↦ rw (get_or_past (x ∷ xs) k x past) (all 0 x (omega arith))
    ]

-- ---- select values

-- no bits select where there is no input
some_inputs : (inputs : List ℕ) → 0 < select_width (length inputs) → 0 < length inputs
unfolding select_width
some_inputs [] some = absurd (omega arith)
some_inputs (input ∷ inputs) some = omega arith

-- the field of an output, by the way that its bits take
field_bits : (tile : PlainTile) (output : ℕ) (bits value : ℕ → Bool) →
    ((bit : ℕ) → bit < select_bits nat_eq (numbered_pairs tile) → value bit ≡ bits (bel_bits tile + bit)) →
    number (first_bits (field_width nat_eq (numbered_pairs tile) output) (λ bit. value (field_low nat_eq (numbered_pairs tile) output + bit)))
    ≡ drive.select_value tile bits output
field_bits tile output bits value agree =
    let pairs = numbered_pairs tile in
    let width = field_width nat_eq pairs output in
    let low = field_low nat_eq pairs output in
    elim (cases_Bool (nat_eq width 0)) [
      | inl none ↦ (
          let is : width ≡ 0 = eqb-true width 0 none in
          ap (λ n. number (first_bits n (λ bit. value (low + bit)))) is ∙ sym (no_field is none))
      | inr some ↦ (
          let wide : 0 < width = grind (arith, nat_tests) in
          let field : output_field tile output ≡ (bel_bits tile + low, width) = rw some refl in
          ap number (first_bits_same width (λ bit. value (low + bit)) (λ bit. bits (bel_bits tile + low + bit)) (each wide))
          ∙ sym (ap (λ (f : ℕ × ℕ). number (first_bits f.1 (λ place. bits (f.0 + place)))) field))
    ]
  where
    no_field : field_width nat_eq (numbered_pairs tile) output ≡ 0 → nat_eq (field_width nat_eq (numbered_pairs tile) output) 0 ≡ true → drive.select_value tile bits output ≡ 0
    no_field is none = (let field : output_field tile output ≡ (0, 0) = rw none refl in ap (λ (f : ℕ × ℕ). number (first_bits f.1 (λ place. bits (f.0 + place)))) field)

    each : 0 < field_width nat_eq (numbered_pairs tile) output → (bit : ℕ) → bit < field_width nat_eq (numbered_pairs tile) output →
        value (field_low nat_eq (numbered_pairs tile) output + bit) ≡ bits (bel_bits tile + field_low nat_eq (numbered_pairs tile) output + bit)
    each wide bit few =
        let pairs = tile.pairs in
        let names = matrix_names tile in
        let low = field_low nat_eq (numbered_pairs tile) output in
        let width = field_width nat_eq (numbered_pairs tile) output in
        let there : 0 < length (inputs_of nat_eq (numbered_pairs tile) output) = some_inputs (inputs_of nat_eq (numbered_pairs tile) output) wide in
        let count : length (inputs_of nat_eq (named_pairs tile) output) ≡ length (inputs_of nat_eq (numbered_pairs tile) output) =
        ap length (inputs_same names pairs output) ∙ length-map (inputs_of nat_eq (numbered_pairs tile) output) _ in
        let within : field_low nat_eq (named_pairs tile) output + field_width nat_eq (named_pairs tile) output ≤ select_bits nat_eq (named_pairs tile) =
        field_within nat_eq Decides-eqb output (named_pairs tile) (omega arith) in
        let same_low : field_low nat_eq (named_pairs tile) output ≡ low = low_same names pairs output in
        let same_width : field_width nat_eq (named_pairs tile) output ≡ width = width_same names pairs output in
        let same_bits : select_bits nat_eq (named_pairs tile) ≡ select_bits nat_eq (numbered_pairs tile) = bits_same names pairs in
        let place : bel_bits tile + (low + bit) ≡ bel_bits tile + low + bit = omega arith in
        agree (low + bit) (omega arith) ∙ ap bits place

-- ---- what is chosen

abbrev chosen_tern : (Name → Tern) → List Name → (select : ℕ) → Tern
chosen_tern value [] select = no
chosen_tern value (first ∷ inputs) select = value (get_or (first ∷ inputs) select first)

one_only : {X : Type 0} (x : X) (k : ℕ) → x ≡ get_or (x ∷ []) k x
one_only x zero = refl
one_only x (suc k) = refl

from_one : (select : ℕ) (first : Name) (inputs : List Name) → at_from 1 select first inputs ≡ get_or (first ∷ inputs) select first
from_one zero first inputs = refl
from_one (suc select) first inputs =
    let above : 1 ≤ suc select = omega arith in
    let next : suc select - 1 ≡ select = omega arith in
    rw (le-ltb (suc select) 1 above, next) refl

get_named : (name : ℕ → Name) (xs : List ℕ) (k d : ℕ) → get_or (map name xs) k (name d) ≡ name (get_or xs k d)
get_named name [] k d = refl
get_named name (x ∷ xs) zero d = refl
get_named name (x ∷ xs) (suc k) d = get_named name xs k d

chosen_named : (name : ℕ → Name) (value : Name → Tern) (inputs : List ℕ) (select : ℕ) →
    chosen_tern value (map name inputs) select ≡ option_map_or (λ input. value (name input)) (input_at inputs select) no
chosen_named name value [] select = refl
chosen_named name value (first ∷ inputs) select = ap value (get_named name (first ∷ inputs) select first)

-- what an option leads to
through_option : {X Y : Type 0} (o : Option X) (f : X → Option Y) (y : Y) → option_and_then f o ≡ Some y → (x : X) × (o ≡ Some x) × (f x ≡ Some y)
through_option None f y is = cc
through_option (Some x) f y is = (x, refl, is)

module _ (mode : Mode) (text : List PlainModule) (path : Path) (tile : PlainTile) (is_tile : IsTile tile) (stands : TileStands mode text path tile) (inputs held : Assignment) (t : Terns) where
  abbrev inner : PlainModule
  inner = matrix_module tile

  abbrev here : Path
  here = matrix_path path

  of_module : 0 < length (matrix_output_names tile) → module_at text here ≡ Some inner
  of_module some = inside mode text path tile matrix_instance_name _ inner stands.tile_is (matrix_found mode tile some) (stands.matrix_is some)

  abbrev bit_joins : List PlainJoin
  bit_joins = bits_join (bel_bits tile) (select_bits nat_eq (numbered_pairs tile))

  abbrev output_joins : List PlainJoin
  output_joins = map same_join (matrix_output_names tile)

  module _ (wire : PlainWire) (exists : IsWire tile wire) where
    abbrev place : ℕ
    place = wire_number tile wire

    abbrev name : List ℕ
    name = name_of tile wire

    at : IsAt tile wire place
    at = at_number tile wire place (wire_at_number tile wire exists)

    name_is : name ≡ wire_name at.found
    name_is = ap (λ found. option_map_or wire_name found []) at.is

    -- a wire that is no output shows itself at its port
    pub input_port_shown : (IsMatrixOutput tile wire → ⊥) → 0 < length (matrix_output_names tile) → Shown text inputs held t (point here name 0) (shows (wire_point path tile wire))
    input_port_shown no_output some =
        let side : is_on_side false at.found ≡ true = elim (cases_Bool (is_matrix_output at.found)) [
          | inl is ↦ absurd (no_output (ap (λ found. option_map_or is_matrix_output found false) at.is ∙ is))
          | inr is_none ↦ rw is_none refl
        ] in
        let there : Contains (matrix_input_names tile) name = subst (Contains (matrix_input_names tile)) (sym name_is) (side_there false tile place at.found at.there side) in
        shown_in text inputs held t path (tile_module mode tile) stands.tile_is inner (matrix_module_name tile) matrix_instance_name (matrix_joins tile)
        (stands.matrix_is some) (matrix_there mode tile some) name name
        (Contains-append_left (map same_join (matrix_input_names tile)) (bit_joins ++ output_joins) (same_join name) (contains_map same_join (matrix_input_names tile) name there))
        (first_input (matrix_input_names tile) _ name there) (name_wide mode tile name (name_there tile wire exists))

    module _ (output : IsMatrixOutput tile wire) where
      is_output : is_matrix_output at.found ≡ true
      is_output = sym (ap (λ found. option_map_or is_matrix_output found false) at.is) ∙ output

      named_output : Contains (matrix_output_names tile) name
      named_output = subst (Contains (matrix_output_names tile)) (sym name_is) (side_there true tile place at.found at.there is_output)

      numbered_output : Contains (numbered_outputs tile) (place, name)
      numbered_output = subst (λ n. Contains (numbered_outputs tile) (place, n)) (sym name_is) (output_there tile place at.found at.there is_output)

      pub some : 0 < length (matrix_output_names tile)
      some = (let within : named_output.0 < length (matrix_output_names tile) = named_output.1 in omega arith)

      -- the wire shows the port
      pub output_wire_shown : Shown text inputs held t (wire_point path tile wire) (shows (point here name 0))
      output_wire_shown =
          let apart = subst (λ n. All (λ input. input ≢ n) (matrix_input_names tile)) (sym name_is) (sides_apart tile is_tile place at.found at.there is_output) in
          let wire_low : EndsLow (wire_name at.found) =
          All-contains (λ w. EndsLow (wire_name w)) (tile_wires tile) at.found (low_wires tile) (contains_at (tile_wires tile) place at.found at.there) in
          let low : EndsLow name = subst EndsLow (sym name_is) wire_low in
          shown_out text inputs held t path (tile_module mode tile) stands.tile_is inner (matrix_module_name tile) matrix_instance_name (matrix_joins tile)
          (stands.matrix_is some) (matrix_there mode tile some) name name
          (Contains-append_right (map same_join (matrix_input_names tile)) (bit_joins ++ output_joins) (same_join name)
          (Contains-append_right bit_joins output_joins (same_join name) (contains_map same_join (matrix_output_names tile) name named_output)))
          (output_is_output tile name low apart)

      -- ---- the port

      input_tern : (input : Name) → Contains (matrix_input_names tile) input → tern_at (tern_names text t here input) 0 ≡ t (point here input 0)
      input_tern input there =
          let one : width_of inner input ≡ 1 = first_width (matrix_input_names tile) _ inner.items input there in
          variable_tern text t here inner (of_module some) input 0 (omega arith)

      module _ (bits : ℕ → Bool) (knows : KnowsTile path tile bits t) where
        abbrev pairs : List (ℕ × Name)
        pairs = named_pairs tile

        abbrev low : ℕ
        low = field_low nat_eq pairs place

        abbrev width : ℕ
        width = field_width nat_eq pairs place

        -- the select bits as Boolean ones, for any name
        abbrev chosen_bits : Name → List Bool
        chosen_bits any = first_bits (select_bits nat_eq pairs) (λ bit. bits (bel_bits tile + bit))

        abbrev select : ℕ
        select = number (first_bits width (λ bit. bits (bel_bits tile + (low + bit))))

        configured : 0 < select_bits nat_eq pairs → tern_names text t here config_name ≡ map known (chosen_bits config_name)
        configured wide =
            let same_count : select_bits nat_eq pairs ≡ select_bits nat_eq (numbered_pairs tile) = bits_same (matrix_names tile) tile.pairs in
            let wide_is : width_of inner config_name ≡ select_bits nat_eq pairs = bits_width tile wide in
            terns_of_name text t here inner (of_module some) config_name
            ∙ ap (λ n. first_terns n (λ bit. t (point here config_name bit))) wide_is
            ∙ first_terns_known (select_bits nat_eq pairs) (λ bit. t (point here config_name bit)) (λ bit. bits (bel_bits tile + bit)) (λ bit few. knows.selects bit some (omega arith))

        picks : (among : List Name) → inputs_of nat_eq pairs place ≡ among → All (Contains (matrix_input_names tile)) among →
            tern_at (tern_value (tern_names text t here) (selection low width among)) 0 ≡ chosen_tern (λ input. t (point here input 0)) among select
        picks [] are all = refl
        picks (first ∷ []) are all = input_tern first (all 0 first (omega arith)) ∙ ap (λ input. t (point here input 0)) (one_only first select)
        picks (first ∷ second ∷ more) are all =
            let count : length (inputs_of nat_eq pairs place) ≡ 2 + length more = ap length are ∙ omega arith in
            let enough : length (inputs_of nat_eq pairs place) ≤ 2 ^ width = select_enough (length (inputs_of nat_eq pairs place)) in
            let wide : 0 < width = some_width width (length (inputs_of nat_eq pairs place)) (omega arith) enough in
            let within : low + width ≤ select_bits nat_eq pairs = field_within nat_eq Decides-eqb place pairs (omega arith) in
            let shown : value chosen_bits (field low width) ≡ first_bits width (λ bit. bits (bel_bits tile + (low + bit))) =
            range_first_bits (select_bits nat_eq pairs) low width (λ bit. bits (bel_bits tile + bit)) wide within in
            ap (λ ts. tern_at ts 0)
            (chain_picks chosen_bits (tern_names text t here) (configured (omega arith)) low width 1 first (second ∷ more) (ap length shown ∙ length_first_bits width _) (omega arith)
            ∙ ap (λ bs. tern_names text t here (at_from 1 (number bs) first (second ∷ more))) shown
            ∙ ap (tern_names text t here) (from_one select first (second ∷ more)))
            ∙ input_tern (get_or (first ∷ second ∷ more) select first) (got (Contains (matrix_input_names tile)) first (second ∷ more) select all)

        select_is : select ≡ drive.select_value tile bits place
        select_is =
            let same_width : width ≡ field_width nat_eq (numbered_pairs tile) place = width_same (matrix_names tile) tile.pairs place in
            let same_low : low ≡ field_low nat_eq (numbered_pairs tile) place = low_same (matrix_names tile) tile.pairs place in
            (λ j. number (first_bits (same_width j) (λ bit. bits (bel_bits tile + (same_low j + bit)))))
            ∙ field_bits tile place bits (λ bit. bits (bel_bits tile + bit)) (λ bit few. refl)

        -- an output shows the port of the input that its bits pick
        pub output_port_shown : (input : PlainWire) → picked tile bits wire ≡ Some input → Shown text inputs held t (point here name 0) (shows (point here (name_of tile input) 0))
        output_port_shown input is =
            let found = through_option (input_at (drive.matrix_inputs tile place) (drive.select_value tile bits place)) (slice_get (plain_wires tile)) input is in
            let item_for : ℕ × Name → PlainItem = λ o. assign o.1 (output_value nat_eq pairs o.0) in
            let name_input : ℕ → Name = λ k. get_or (matrix_names tile) k [] in
            let named : name_input found.0 ≡ name_of tile input =
            get_or_from_slice_get (matrix_names tile) found.0 (name_of tile input) [] (name_at_number tile input found.0 found.2) in
            shown_assigned text inputs held t here inner (of_module some) name (output_value nat_eq pairs place) 0 (shows (point here (name_of tile input) 0))
            (contains_map item_for (numbered_outputs tile) (place, name) numbered_output)
            (picks (inputs_of nat_eq pairs place) refl (inputs_within (Contains (matrix_input_names tile)) pairs place (pairs_known tile is_tile))
            ∙ (λ j. chosen_tern (λ input. t (point here input 0)) (inputs_same (matrix_names tile) tile.pairs place j) (select_is j))
            ∙ chosen_named name_input (λ input. t (point here input 0)) (drive.matrix_inputs tile place) (drive.select_value tile bits place)
            ∙ ap (λ o. option_map_or (λ k. t (point here (name_input k) 0)) o no) found.1
            ∙ ap (λ n. t (point here n 0)) named)
