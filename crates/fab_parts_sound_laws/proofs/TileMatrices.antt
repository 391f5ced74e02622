-- The module of a tile's switch matrix fits.
use Rattle.std.proofs.Common.{◌≡◌, ◌≢◌, ◌⊎◌, ℕ, zero, suc, ◌+◌, Bool, true, false, not, List, [], ◌∷◌, ◌++◌, map, filter, length, get_or, slice_get, refl, sym, ap, ◌∙◌, subst, inl, inr, arith, Option, Some, None, option_map, All, AllPairs, Contains, nat_eq}
use Rattle.std.specs.List.{enumerate_from}
use Rattle.std.proofs.lemmas.Bool.{cases_Bool, false≢true}
use Rattle.std.proofs.lemmas.Bool.Decides.{Decides-eqb}
use Rattle.std.proofs.lemmas.List.{length-map, get_or-map}
use Rattle.std.proofs.lemmas.List.Elements.{All-nil, All-cons, All-map, All-filter, All-weaker}
use Rattle.std.proofs.lemmas.List.Kept.{AllPairs-cons, AllPairs-filter}
use Rattle.std.proofs.lemmas.Option.{slice_get-map, get_or_from_slice_get}
use Rattle.fab_select.specs.declared.pair.Pair.{Pair}
use Rattle.fab_select.specs.Selection.{select_bits}
use Rattle.fab_syntax.specs.Plain.{PlainModule, assign}
use Rattle.fab_syntax.specs.Sound.{ServesAsClock}
use Rattle.fab_tile_drives_laws.specs.fab_meaning_Ports.{config_name}
use Rattle.fab_tile_drives_laws.specs.fab_matrix_Matrix.{output_value}
use Rattle.fab_tile_drives_laws.specs.fab_model_Tiles.{PlainTile, TileWire, tile_wires, wire_name, matrix_names, is_matrix_output, wire_passes, IsPair, IsTile}
use Rattle.fab_tile_drives_laws.specs.fab_gen_tile_Names.{matrix_module_name}
use Rattle.fab_tile_drives_laws.specs.fab_gen_tile_TileModule.{is_on_side, side_names, matrix_input_names, matrix_output_names}
use Rattle.fab_tile_drives_laws.specs.fab_gen_tile_MatrixModule.{numbered_outputs, named_pairs, matrix_module}
use Rattle.fab_tile_drives_laws.proofs.Endings.{EndsLow, low_apart, low_wires}
use Rattle.fab_tile_drives_laws.proofs.MatrixPorts.{side_there}
use Rattle.fab_parts_sound_laws.specs.Fits.{FitsIn}
use Rattle.fab_parts_sound_laws.proofs.Lists.{pairs_none, pairs_head, pairs_tail, pairs_append}
use Rattle.fab_parts_sound_laws.proofs.Names.{Differ, AreApart}
use Rattle.fab_parts_sound_laws.proofs.Apart.{Across, across_more}
use Rattle.fab_parts_sound_laws.proofs.Clocks.{ClocksBy, serves}
use Rattle.fab_parts_sound_laws.proofs.Matrices.{config_names, matrix_nets, matrix_fits}

-- ---- the sides of wires whose names are apart

abbrev NamesDiffer : TileWire → TileWire → Type 0
NamesDiffer first second = wire_name first ≢ wire_name second

-- wires have names apart where the list of their names has
wires_apart : (wires : List TileWire) → AreApart (map wire_name wires) → AllPairs NamesDiffer wires
wires_apart wires apart i j d before within same =
    let long : length (map wire_name wires) ≡ length wires = length-map wires wire_name in
    let first : get_or (map wire_name wires) i [] ≡ wire_name (get_or wires i d) = get_or-map wire_name wires i d [] (omega arith) in
    let second : get_or (map wire_name wires) j [] ≡ wire_name (get_or wires j d) = get_or-map wire_name wires j d [] within in
    apart i j [] before (omega arith) (first ∙ same ∙ sym second)

names_apart : (wires : List TileWire) → AllPairs NamesDiffer wires → AreApart (map wire_name wires)
names_apart [] apart = pairs_none Differ
names_apart (wire ∷ wires) apart =
    AllPairs-cons Differ (wire_name wire) (map wire_name wires) (All-map (Differ (wire_name wire)) wire_name wires (pairs_head NamesDiffer wire wires apart))
    (names_apart wires (pairs_tail NamesDiffer wire wires apart))

side_apart : (output : Bool) (tile : PlainTile) → IsTile tile → AreApart (side_names output (tile_wires tile))
side_apart output tile is_tile =
    names_apart (filter (is_on_side output) (tile_wires tile)) (AllPairs-filter NamesDiffer (is_on_side output) (tile_wires tile) (wires_apart (tile_wires tile) is_tile.apart))

-- the wires of one side against those of the other
sides_differ : (wires : List TileWire) → AllPairs NamesDiffer wires → All (λ wire. All (NamesDiffer wire) (filter (is_on_side true) wires)) (filter (is_on_side false) wires)
sides_differ [] apart = All-nil (λ wire. All (NamesDiffer wire) [])
sides_differ (wire ∷ wires) apart =
    let outputs = filter (is_on_side true) wires in
    let inputs = filter (is_on_side false) wires in
    let from_here : All (NamesDiffer wire) wires = pairs_head NamesDiffer wire wires apart in
    let rest : All (λ w. All (NamesDiffer w) outputs) inputs = sides_differ wires (pairs_tail NamesDiffer wire wires apart) in
    elim (cases_Bool (is_matrix_output wire)) [
      | inl output ↦ rw output
          (λ k d within. All-cons (NamesDiffer (get_or inputs k d)) wire outputs
          (λ same. All-filter (is_on_side false) (NamesDiffer wire) wires from_here k d within (sym same)) (rest k d within))
      | inr input ↦ rw input (All-cons (λ w. All (NamesDiffer w) outputs) wire inputs (All-filter (is_on_side true) (NamesDiffer wire) wires from_here) rest)
    ]

sides_across : (tile : PlainTile) → IsTile tile → Across (matrix_input_names tile) (matrix_output_names tile)
sides_across tile is_tile =
    All-map (λ name. All (Differ name) (matrix_output_names tile)) wire_name (filter (is_on_side false) (tile_wires tile))
    (λ k d within. All-map (Differ (wire_name (get_or (filter (is_on_side false) (tile_wires tile)) k d))) wire_name (filter (is_on_side true) (tile_wires tile))
    (sides_differ (tile_wires tile) (wires_apart (tile_wires tile) is_tile.apart) k d within))

-- ---- the outputs with their numbers

outputs_from : (n : ℕ) (wires : List TileWire) →
    map (λ (output : ℕ × List ℕ). output.1)
    (map (λ (placed : ℕ × TileWire). (placed.0, wire_name placed.1)) (filter (λ (placed : ℕ × TileWire). is_matrix_output placed.1) (enumerate_from n wires)))
    ≡ side_names true wires
outputs_from n [] = refl
outputs_from n (wire ∷ wires) =
    elim (cases_Bool (is_matrix_output wire)) [
      | inl output ↦ rw output (ap (λ rest. wire_name wire ∷ rest) (outputs_from (n + 1) wires))
      | inr input ↦ rw input (outputs_from (n + 1) wires)
    ]

pub outputs_named : (tile : PlainTile) → map (λ (output : ℕ × List ℕ). output.1) (numbered_outputs tile) ≡ matrix_output_names tile
outputs_named tile = outputs_from 0 (tile_wires tile)

-- ---- no name is that of the select bits

side_low : (output : Bool) (tile : PlainTile) → All EndsLow (side_names output (tile_wires tile))
side_low output tile =
    All-map EndsLow wire_name (filter (is_on_side output) (tile_wires tile)) (All-filter (is_on_side output) (λ wire. EndsLow (wire_name wire)) (tile_wires tile) (low_wires tile))

all_config_names : (P : List ℕ → Type 0) (bits : ℕ) → P config_name → All P (config_names bits)
all_config_names P zero holds = All-nil P
all_config_names P (suc n) holds = All-cons P config_name [] holds (All-nil P)

config_apart : (bits : ℕ) → AreApart (config_names bits)
config_apart zero = pairs_none Differ
config_apart (suc n) = AllPairs-cons Differ config_name [] (All-nil (Differ config_name)) (pairs_none Differ)

-- the names of all ports are apart
pub matrix_apart : (tile : PlainTile) → IsTile tile → AreApart (matrix_nets nat_eq (matrix_input_names tile) (numbered_outputs tile) (named_pairs tile))
matrix_apart tile is_tile =
    let bits = select_bits nat_eq (named_pairs tile) in
    let inputs = matrix_input_names tile in
    let outputs = matrix_output_names tile in
    let config : List (List ℕ) = config_names bits in
    let inputs_config : Across inputs config =
    λ k d within. all_config_names (Differ (get_or inputs k d)) bits (low_apart (get_or inputs k d) config_name (side_low false tile k d within) refl) in
    let config_outputs : Across config outputs =
    all_config_names (λ name. All (Differ name) outputs) bits (λ k d within same. low_apart (get_or outputs k d) config_name (side_low true tile k d within) refl (sym same)) in
    subst (λ names. AreApart (inputs ++ (config ++ names))) (sym (outputs_named tile))
    (pairs_append Differ inputs (config ++ outputs) (side_apart false tile is_tile)
    (pairs_append Differ config outputs (config_apart bits) (side_apart true tile is_tile) config_outputs)
    (across_more inputs config outputs inputs_config (sides_across tile is_tile)))

-- ---- the pairs name inputs

some_or_none : {X : Type 0} (o : Option X) → ((x : X) × (o ≡ Some x)) ⊎ (o ≡ None)
some_or_none None = inr refl
some_or_none (Some x) = inl (x, refl)

passes_there : (test : TileWire → Bool) (tile : PlainTile) (number : ℕ) → wire_passes test tile number ≡ true →
    (found : TileWire) × (slice_get (tile_wires tile) number ≡ Some found) × (test found ≡ true)
passes_there test tile number passes =
    elim (some_or_none (slice_get (tile_wires tile) number)) [
      | inl some ↦ (let there : slice_get (tile_wires tile) number ≡ Some some.0 = some.1 in (some.0, there, rw there at passes))
      | inr none ↦ (let fails : false ≡ true = rw none at passes in absurd (false≢true fails))
    ]

input_named : (tile : PlainTile) (pair : Pair) → IsPair tile pair → Contains (matrix_input_names tile) (get_or (matrix_names tile) pair.input [])
input_named tile pair is_pair =
    let found = passes_there (λ wire. not (is_matrix_output wire)) tile pair.input is_pair.input in
    let at : slice_get (matrix_names tile) pair.input ≡ Some (wire_name found.0) = slice_get-map wire_name (tile_wires tile) pair.input ∙ ap (option_map wire_name) found.1 in
    subst (Contains (matrix_input_names tile)) (sym (get_or_from_slice_get (matrix_names tile) pair.input (wire_name found.0) [] at)) (side_there false tile pair.input found.0 found.1 found.2)

pairs_known : (tile : PlainTile) → IsTile tile → All (λ pair. Contains (matrix_input_names tile) pair.1) (named_pairs tile)
pairs_known tile is_tile =
    All-map (λ (pair : ℕ × List ℕ). Contains (matrix_input_names tile) pair.1) (λ (pair : Pair). (pair.output, get_or (matrix_names tile) pair.input [])) tile.pairs
    (All-weaker (IsPair tile) (λ pair. Contains (matrix_input_names tile) (get_or (matrix_names tile) pair.input [])) (input_named tile) tile.pairs is_tile.pairs)

-- ---- together

pub tile_matrix_fits : (text before : List PlainModule) (tile : PlainTile) → IsTile tile → FitsIn text before (matrix_module tile)
tile_matrix_fits text before tile is_tile =
    matrix_fits nat_eq Decides-eqb (matrix_module_name tile) (matrix_input_names tile) (numbered_outputs tile) (named_pairs tile) (matrix_apart tile is_tile) (pairs_known tile is_tile) text before

-- it has no clocks
pub tile_matrix_clocks : (text : List PlainModule) (tile : PlainTile) (port : List ℕ) → ServesAsClock text (matrix_module tile) port → ⊥
tile_matrix_clocks text tile port =
    serves (λ clock. ⊥) text (matrix_module tile) port
    (All-map (ClocksBy (λ clock. ⊥)) (λ (output : ℕ × List ℕ). assign output.1 (output_value nat_eq (named_pairs tile) output.0)) (numbered_outputs tile) (λ k d within. tt))
