-- The sides of a tile's switch matrix, and the ports of its module.
use Rattle.std.proofs.Common.{◌≡◌, ◌≢◌, ℕ, zero, suc, ◌+◌, ◌<◌, Bool, true, false, not, List, [], ◌∷◌, ◌++◌, length, map, filter, slice_get, get_or, refl, sym, ap, ◌∙◌, subst, inl, inr, arith, Some, All, Contains, nat_eq}
use Rattle.std.specs.List.{enumerate_from}
use Rattle.std.specs.Str.{bytes_eq}
use Rattle.std.proofs.lemmas.Bool.{cases_Bool, cases_lt, false≢true}
use Rattle.std.proofs.lemmas.Bool.Decides.{eqb_tells}
use Rattle.std.proofs.lemmas.List.{length-map, get_or-map}
use Rattle.std.proofs.lemmas.List.Elements.{All-nil, All-cons, All-head, All-tail, All-append, All-map, All-filter, All-weaker, Contains-append_right}
use Rattle.std.proofs.lemmas.Option.{slice_get_within, get_or_from_slice_get}
use Rattle.fab_select.specs.Selection.{select_bits}
use Rattle.fab_gen_tile.specs.fab_syntax.specs.declared.tree.Port.{Port}
use Rattle.fab_gen_tile.specs.fab_syntax.specs.Plain.{PlainItem}
use Rattle.fab_gen_tile.specs.fab_syntax.specs.Declarations.{declared_width, is_input}
use Rattle.fab_gen_tile.specs.fab_meaning.proofs.Declared.{bytes_apart, width_passed}
use Rattle.fab_gen_tile.specs.fab_meaning.specs.Ports.{config_name, scalar, config_port}
use Rattle.fab_gen_tile.specs.fab_model.specs.Tiles.{PlainTile, TileWire, tile_wires, wire_name, matrix_names, is_matrix_output, IsTile}
use Rattle.fab_gen_tile.specs.TileModule.{is_on_side, side_names, matrix_input_names}
use Rattle.fab_gen_tile.specs.MatrixModule.{numbered_outputs, named_pairs, matrix_module}
use Rattle.fab_tile_drives_laws.proofs.Endings.{EndsLow, low_apart, low_wires}
use Rattle.fab_tile_drives_laws.proofs.Members.{contains_first, contains_later, contains_at, contains_map, get_enumerated}
use Rattle.fab_tile_drives_laws.proofs.Widths.{IsWide, wide_port}
use Rattle.fab_tile_drives_laws.proofs.Driven.{width_of}

-- ---- lists that are filtered

filtered_at : {X : Type 0} (p : X → Bool) (xs : List X) (x : X) (k : ℕ) → p x ≡ true → k < length xs → get_or xs k x ≡ x → Contains (filter p xs) x
filtered_at p [] x k passes few is = absurd (omega arith)
filtered_at p (first ∷ xs) x zero passes few is =
    let kept : p first ≡ true = ap p is ∙ passes in
    rw kept (subst (λ y. Contains (y ∷ filter p xs) x) (sym is) (contains_first x (filter p xs)))
filtered_at p (first ∷ xs) x (suc k) passes few is =
    let rest : Contains (filter p xs) x = filtered_at p xs x k passes (omega arith) is in
    elim (cases_Bool (p first)) [
      | inl t ↦ rw t (contains_later first (filter p xs) x rest)
      | inr f ↦ rw f rest
    ]

contains_filter : {X : Type 0} (p : X → Bool) (xs : List X) (x : X) → p x ≡ true → Contains xs x → Contains (filter p xs) x
contains_filter p xs x passes there = filtered_at p xs x there.0 passes there.1 there.2

all_filter_if : {X : Type 0} (P : X → Type 0) (p : X → Bool) (xs : List X) → All (λ x. p x ≡ true → P x) xs → All P (filter p xs)
all_filter_if P p [] all = All-nil P
all_filter_if P p (x ∷ xs) all =
    let rest : All P (filter p xs) = all_filter_if P p xs (All-tail (λ y. p y ≡ true → P y) x xs all) in
    elim (cases_Bool (p x)) [
      | inl t ↦ rw t (All-cons P x (filter p xs) (All-head (λ y. p y ≡ true → P y) x xs all t) rest)
      | inr f ↦ rw f rest
    ]

-- ---- the sides

-- a wire on a side is named there
pub side_there : (output : Bool) (tile : PlainTile) (number : ℕ) (found : TileWire) → slice_get (tile_wires tile) number ≡ Some found → is_on_side output found ≡ true →
    Contains (side_names output (tile_wires tile)) (wire_name found)
side_there output tile number found there side =
    contains_map wire_name (filter (is_on_side output) (tile_wires tile)) found
    (contains_filter (is_on_side output) (tile_wires tile) found side (contains_at (tile_wires tile) number found there))

-- an output with its number
pub output_there : (tile : PlainTile) (number : ℕ) (found : TileWire) → slice_get (tile_wires tile) number ≡ Some found → is_matrix_output found ≡ true →
    Contains (numbered_outputs tile) (number, wire_name found)
output_there tile number found there output =
    let zero_and : 0 + number ≡ number = omega arith in
    let placed : slice_get (enumerate_from 0 (tile_wires tile)) number ≡ Some (number, found) =
    get_enumerated 0 (tile_wires tile) number found there ∙ ap (λ n. Some (n, found)) zero_and in
    contains_map (λ (placed : ℕ × TileWire). (placed.0, wire_name placed.1)) (filter (λ (placed : ℕ × TileWire). is_matrix_output placed.1) (enumerate_from 0 (tile_wires tile)))
    (number, found)
    (contains_filter (λ (placed : ℕ × TileWire). is_matrix_output placed.1) (enumerate_from 0 (tile_wires tile)) (number, found) output
    (contains_at (enumerate_from 0 (tile_wires tile)) number (number, found) placed))

-- the names of the inputs end low
pub low_inputs : (tile : PlainTile) → All EndsLow (matrix_input_names tile)
low_inputs tile =
    All-map EndsLow wire_name (filter (is_on_side false) (tile_wires tile)) (All-filter (is_on_side false) (λ wire. EndsLow (wire_name wire)) (tile_wires tile) (low_wires tile))

pub inputs_apart : (tile : PlainTile) → All (λ input. input ≢ config_name) (matrix_input_names tile)
inputs_apart tile = All-weaker EndsLow (λ input. input ≢ config_name) (λ name low. low_apart name config_name low refl) (matrix_input_names tile) (low_inputs tile)

module _ (tile : PlainTile) (is_tile : IsTile tile) (number : ℕ) (found : TileWire) (there : slice_get (tile_wires tile) number ≡ Some found) (output : is_matrix_output found ≡ true) where
  name_at : (k : ℕ) (d : TileWire) → k < length (tile_wires tile) → get_or (matrix_names tile) k [] ≡ wire_name (get_or (tile_wires tile) k d)
  name_at k d few = get_or-map wire_name (tile_wires tile) k d [] few

  input_apart : (k : ℕ) (d : TileWire) → k < length (tile_wires tile) → is_on_side false (get_or (tile_wires tile) k d) ≡ true → wire_name (get_or (tile_wires tile) k d) ≢ wire_name found
  input_apart k d few side same =
      let wires = tile_wires tile in
      let inside : number < length wires = slice_get_within wires number found there in
      let here : get_or wires number d ≡ found = get_or_from_slice_get wires number found d there in
      let equal : get_or (matrix_names tile) k [] ≡ get_or (matrix_names tile) number [] =
      name_at k d few ∙ same ∙ ap wire_name (sym here) ∙ sym (name_at number d inside) in
      let long : length (matrix_names tile) ≡ length wires = length-map wires wire_name in
      elim (eqb_tells k number) [
        | inl t ↦ (
            let one : get_or wires k d ≡ found = ap (λ n. get_or wires n d) t.1 ∙ here in
            let no : not (is_matrix_output found) ≡ true = ap (λ w. not (is_matrix_output w)) (sym one) ∙ side in
            absurd (false≢true (ap not (sym output) ∙ no)))
        | inr f ↦ elim (cases_lt k number) [
          | inl before ↦ is_tile.apart k number [] before (omega arith) equal
          | inr past ↦ (
              let differ : k ≢ number = f.1 in
              let after : number < k = omega arith in
              is_tile.apart number k [] after (omega arith) (sym equal))
        ]
      ]

  -- no input has the name of an output
  pub sides_apart : All (λ name. name ≢ wire_name found) (matrix_input_names tile)
  sides_apart =
      All-map (λ name. name ≢ wire_name found) wire_name (filter (is_on_side false) (tile_wires tile))
      (all_filter_if (λ wire. wire_name wire ≢ wire_name found) (is_on_side false) (tile_wires tile) input_apart)

-- ---- the ports

passed_inputs : (names : List (List ℕ)) (ports : List Port) (name : List ℕ) → All (λ input. input ≢ name) names → is_input (map (scalar true) names ++ ports) name ≡ is_input ports name
passed_inputs [] ports name apart = refl
passed_inputs (first ∷ names) ports name apart =
    let f : bytes_eq first name ≡ false = bytes_apart first name (All-head (λ input. input ≢ name) first names apart) in
    rw f (passed_inputs names ports name (All-tail (λ input. input ≢ name) first names apart))

passed_config : (bits : ℕ) (ports : List Port) (name : List ℕ) → bytes_eq config_name name ≡ false → is_input (config_port bits ++ ports) name ≡ is_input ports name
passed_config zero ports name other = refl
passed_config (suc bits) ports name other = rw other refl

outputs_only : (outputs : List (ℕ × List ℕ)) (name : List ℕ) → is_input (map (λ (output : ℕ × List ℕ). scalar false output.1) outputs) name ≡ false
outputs_only [] name = refl
outputs_only (output ∷ outputs) name =
    elim (cases_Bool (bytes_eq output.1 name)) [
      | inl t ↦ rw t refl
      | inr f ↦ rw f (outputs_only outputs name)
    ]

config_first : (bits : ℕ) (ports : List Port) → 0 < bits → is_input (config_port bits ++ ports) config_name ≡ true
config_first zero ports some = absurd (omega arith)
config_first (suc bits) ports some = refl

config_found : (bits : ℕ) (ports : List Port) (items : List PlainItem) → 0 < bits → declared_width (config_port bits ++ ports) items config_name ≡ bits
config_found zero ports items some = absurd (omega arith)
config_found (suc bits) ports items some = refl

wide_config : (bits : ℕ) → All IsWide (config_port bits)
wide_config zero = All-nil IsWide
wide_config (suc bits) = All-cons IsWide _ [] (omega arith) (All-nil IsWide)

module _ (tile : PlainTile) where
  abbrev bits : ℕ
  bits = select_bits nat_eq (named_pairs tile)

  abbrev output_ports : List Port
  output_ports = map (λ (output : ℕ × List ℕ). scalar false output.1) (numbered_outputs tile)

  pub bits_input : 0 < bits → is_input (matrix_module tile).ports config_name ≡ true
  bits_input some = passed_inputs (matrix_input_names tile) (config_port bits ++ output_ports) config_name (inputs_apart tile) ∙ config_first bits output_ports some

  pub bits_width : 0 < bits → width_of (matrix_module tile) config_name ≡ bits
  bits_width some =
      let apart : All (λ (port : Port). port.name ≢ config_name) (map (scalar true) (matrix_input_names tile)) =
      All-map (λ (port : Port). port.name ≢ config_name) (scalar true) (matrix_input_names tile) (inputs_apart tile) in
      width_passed (map (scalar true) (matrix_input_names tile)) (config_port bits ++ output_ports) (matrix_module tile).items config_name apart
      ∙ config_found bits output_ports (matrix_module tile).items some

  -- an output of the module
  pub output_is_output : (name : List ℕ) → EndsLow name → All (λ input. input ≢ name) (matrix_input_names tile) → is_input (matrix_module tile).ports name ≡ false
  output_is_output name low apart =
      let other : config_name ≢ name = λ same. low_apart name config_name low refl (sym same) in
      passed_inputs (matrix_input_names tile) (config_port bits ++ output_ports) name apart
      ∙ passed_config bits output_ports name (bytes_apart config_name name other)
      ∙ outputs_only (numbered_outputs tile) name

  -- has a bit
  pub output_wide : (output : ℕ × List ℕ) → Contains (numbered_outputs tile) output → 0 < width_of (matrix_module tile) output.1
  output_wide output there =
      let inputs = map (scalar true) (matrix_input_names tile) in
      let port = scalar false output.1 in
      let ports = (matrix_module tile).ports in
      let among : Contains ports port =
      Contains-append_right inputs (config_port bits ++ output_ports) port
      (Contains-append_right (config_port bits) output_ports port
      (contains_map (λ (output : ℕ × List ℕ). scalar false output.1) (numbered_outputs tile) output there)) in
      let wide : All IsWide ports =
      All-append IsWide inputs (config_port bits ++ output_ports) (All-map IsWide (scalar true) (matrix_input_names tile) (λ k d few. omega arith))
      (All-append IsWide (config_port bits) output_ports (wide_config bits)
      (All-map IsWide (λ (output : ℕ × List ℕ). scalar false output.1) (numbered_outputs tile) (λ k d few. omega arith))) in
      wide_port ports (matrix_module tile).items port wide among
