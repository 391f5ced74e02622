-- The module of a matrix selects.
use Rattle.std.proofs.Common.{◌≡◌, ◌≢◌, ℕ, zero, suc, ◌+◌, ◌-◌, ◌^◌, ◌<◌, ◌≤◌, Bool, true, false, List, [], ◌∷◌, ◌++◌, map, filter, length, get_or, refl, ap, ◌∙◌, inl, inr, arith, Some, All, Contains, Decides, slice_range}
use Rattle.std.proofs.lemmas.Bool.{cases_lt}
use Rattle.std.proofs.lemmas.List.{length-map, get_or-map, get_or_past}
use Rattle.std.proofs.lemmas.List.Elements.{All-map, All-filter}
use Rattle.fab_bits.specs.Bits.{number, first_bits}
use Rattle.fab_bits.proofs.Numbers.{length_first_bits, range_first_bits}
use Rattle.fab_bits.proofs.Least.{select_enough, some_width}
use Rattle.fab_syntax.specs.declared.tree.Shape.TheVariants.{Scalar}
use Rattle.fab_syntax.specs.declared.tree.Port.{Port}
use Rattle.fab_syntax.specs.Plain.{PlainItem, PlainModule, assign}
use Rattle.fab_meaning.specs.Value.{value, bit_at}
use Rattle.fab_syntax.specs.Declarations.{declared_width}
use Rattle.fab_meaning.specs.Points.{Path, point, bit_of, module_at}
use Rattle.fab_meaning.specs.Settled.{Assignment, names_at}
use Rattle.fab_meaning.proofs.Declared.{width_of_scalar, width_passed, bits_of_name}
use Rattle.fab_select.specs.Selection.{inputs_of, field_width, field_low, select_bits}
use Rattle.fab_matrix.specs.Names.{Name}
use Rattle.fab_meaning.specs.Ports.{config_name, scalar, config_port}
use Rattle.fab_matrix.specs.Matrix.{field, selection, output_value, matrix}
use Rattle.fab_matrix.specs.Selects.{select_value, chosen, Selects}
use Rattle.fab_matrix.proofs.Chains.{one_only, selection_value}
use Rattle.fab_matrix.proofs.Fields.{field_within}

Contains-map : {X Y : Type 0} (f : X → Y) (xs : List X) (x : X) → Contains xs x → Contains (map f xs) (f x)
Contains-map f xs x there = (there.0, rw length-map there.1, get_or-map f xs there.0 x (f x) there.1 ∙ ap f there.2)

-- the scalar ports have the names
names_of_scalars : (input : Bool) (names : List Name) → map (λ (port : Port). port.name) (map (scalar input) names) ≡ names
names_of_scalars input [] = refl
names_of_scalars input (name ∷ names) = ap (λ rest. name ∷ rest) (names_of_scalars input names)

-- the port of the select bits is found
config_found : (bits : ℕ) (ports : List Port) (items : List PlainItem) → 0 < bits → declared_width (config_port bits ++ ports) items config_name ≡ bits
config_found zero ports items some = absurd (omega arith)
config_found (suc bits) ports items some = refl

-- what holds of all inputs of pairs holds of those of an output
inputs_within : {K : Type 0} (P : Name → Type 0) (same : K → K → Bool) (pairs : List (K × Name)) (output : K) → All (λ pair. P pair.1) pairs → All P (inputs_of same pairs output)
inputs_within {K} P same pairs output all =
    All-map P (λ (pair : K × Name). pair.1) (filter (λ (pair : K × Name). same pair.0 output) pairs)
    (All-filter (λ (pair : K × Name). same pair.0 output) (λ (pair : K × Name). P pair.1) pairs all)

-- an element at a place, or the first, is of the list
got : {X : Type 0} (P : X → Type 0) (x : X) (xs : List X) (k : ℕ) → All P (x ∷ xs) → P (get_or (x ∷ xs) k x)
got P x xs k all =
    elim (cases_lt k (length (x ∷ xs))) [
      | inl l ↦ all k x l
      | inr past ↦ rw (get_or_past (x ∷ xs) k x past) (all 0 x (omega arith))
    ]

module _ {K : Type 0} (same : K → K → Bool) (tells : (a b : K) → Decides (same a b) (a ≡ b)) (name : Name) (inputs : List Name) (outputs : List (K × Name)) (pairs : List (K × Name))
    (apart : All (λ input. input ≢ config_name) inputs) (known : All (λ pair. Contains inputs pair.1) pairs)
    (text : List PlainModule) (path : Path) (now : Assignment) (stands : module_at text path ≡ Some (matrix same name inputs outputs pairs)) where
  abbrev here : PlainModule
  here = matrix same name inputs outputs pairs

  abbrev names : Name → List Bool
  names = names_at text now path

  abbrev bits : ℕ
  bits = select_bits same pairs

  abbrev later_ports : List Port
  later_ports = config_port bits ++ map (λ (output : K × Name). scalar false output.1) outputs

  input_bit : (input : Name) → Contains inputs input → bit_at (names input) 0 ≡ now (point path input 0)
  input_bit input there =
      let flat : All (λ (port : Port). port.shape ≡ Scalar) (map (scalar true) inputs) =
      All-map (λ (port : Port). port.shape ≡ Scalar) (scalar true) inputs (λ k d l. refl) in
      let among : Contains (map (λ (port : Port). port.name) (map (scalar true) inputs)) input = rw names_of_scalars there in
      ap (λ bs. bit_at bs 0) (bits_of_name text now path here input 1 stands (width_of_scalar (map (scalar true) inputs) later_ports here.items input flat among))

  config_bits : 0 < bits → names config_name ≡ first_bits bits (λ bit. now (point path config_name bit))
  config_bits some =
      let others : All (λ (port : Port). port.name ≢ config_name) (map (scalar true) inputs) =
      All-map (λ (port : Port). port.name ≢ config_name) (scalar true) inputs apart in
      bits_of_name text now path here config_name bits stands
      (width_passed (map (scalar true) inputs) later_ports here.items config_name others ∙ config_found bits _ here.items some)

  field_bits : (output : K) → 0 < field_width same pairs output → 0 < length (inputs_of same pairs output) →
      value names (field (field_low same pairs output) (field_width same pairs output))
      ≡ first_bits (field_width same pairs output) (λ bit. now (point path config_name (field_low same pairs output + bit)))
  field_bits output wide some =
      let low = field_low same pairs output in
      let width = field_width same pairs output in
      let within : low + width ≤ bits = field_within same tells output pairs some in
      ap (λ bs. slice_range bs low (low + width - 1 + 1)) (config_bits (omega arith))
      ∙ range_first_bits bits low width (λ bit. now (point path config_name bit)) wide within

  picks : (output : K) (among : List Name) → inputs_of same pairs output ≡ among → All (Contains inputs) among →
      bit_at (value names (selection (field_low same pairs output) (field_width same pairs output) among)) 0
      ≡ chosen (λ input. now (point path input 0)) among (select_value same pairs now path output)
  picks output [] are all = refl
  picks output (first ∷ []) are all =
      input_bit first (all 0 first (omega arith))
      ∙ ap (λ input. now (point path input 0)) (one_only first (select_value same pairs now path output))
  picks output (first ∷ second ∷ more) are all =
      let low = field_low same pairs output in
      let width = field_width same pairs output in
      let select = select_value same pairs now path output in
      let count : length (inputs_of same pairs output) ≡ 2 + length more = ap length are ∙ omega arith in
      let enough : length (inputs_of same pairs output) ≤ 2 ^ width = select_enough (length (inputs_of same pairs output)) in
      let wide : 0 < width = some_width width (length (inputs_of same pairs output)) (omega arith) enough in
      let shown : value names (field low width) ≡ first_bits width (λ bit. now (point path config_name (low + bit))) = field_bits output wide (omega arith) in
      ap (λ bs. bit_at bs 0)
      (selection_value names low width first second more (ap length shown ∙ length_first_bits width _) (omega arith)
      ∙ ap (λ bs. names (get_or (first ∷ second ∷ more) (number bs) first)) shown)
      ∙ input_bit (get_or (first ∷ second ∷ more) select first) (got (Contains inputs) first (second ∷ more) select all)

-- Each output of the module of a matrix has the value of its selected input.
pub matrix_selects : {K : Type 0} (same : K → K → Bool) (tells : (a b : K) → Decides (same a b) (a ≡ b)) (name : Name) (inputs : List Name) (outputs pairs : List (K × Name)) →
    All (λ input. input ≢ config_name) inputs → All (λ pair. Contains inputs pair.1) pairs → Selects same (matrix same name inputs outputs pairs) outputs pairs
matrix_selects {K} same tells name inputs outputs pairs apart known text path given held now output stands there settled =
    let item_for : K × Name → PlainItem = λ o. assign o.1 (output_value same pairs o.0) in
    settled (point path output.1 0) (bit_of path (output_value same pairs output.0) 0) refl
    (inr (record { path = path; module_here = matrix same name inputs outputs pairs; item = item_for output; stands = stands; holds = Contains-map item_for outputs output there; drives = (refl, refl) }))
    ∙ picks same tells name inputs outputs pairs apart known text path now stands output.0 (inputs_of same pairs output.0) refl (inputs_within (Contains inputs) same pairs output.0 known)
