-- The module of a switch matrix fits, where its names are apart and its pairs name inputs of it.
use Rattle.std.proofs.Common.{◌≡◌, ◌≢◌, ℕ, zero, suc, ◌+◌, ◌-◌, ◌^◌, ◌<◌, ◌≤◌, Bool, true, false, List, [], ◌∷◌, ◌++◌, map, filter, length, get_or, refl, sym, ap, ◌∙◌, subst, arith, Some, All, Contains, Decides, append-nil}
use Rattle.std.proofs.lemmas.List.{map-append}
use Rattle.std.proofs.lemmas.List.Elements.{All-nil, All-cons, All-append, All-head, All-tail, All-map, All-filter, All-weaker, All-contains, Contains-get_or, Contains-append_left, Contains-append_right}
use Rattle.fab_bits.specs.Bits.{digits}
use Rattle.fab_bits.proofs.Least.{select_enough, some_width}
use Rattle.fab_select.specs.Selection.{inputs_of, field_width, field_low, select_bits}
use Rattle.fab_syntax.specs.declared.tree.Op.TheVariants.{Equal}
use Rattle.fab_syntax.specs.declared.tree.Shape.TheVariants.{Vector}
use Rattle.fab_syntax.specs.declared.tree.Port.{Port}
use Rattle.fab_syntax.specs.Plain.{PlainExpr, PlainItem, PlainModule, constant, variable, operation, assign}
use Rattle.fab_syntax.specs.Declarations.{width_if_any, declared_shape}
use Rattle.fab_syntax.specs.Sound.{width_of_name}
use Rattle.fab_tile_drives_laws.specs.fab_meaning_Ports.{config_name, scalar, config_port}
use Rattle.fab_tile_drives_laws.specs.fab_matrix_Matrix.{field, chain, selection, output_value, matrix}
use Rattle.fab_tile_drives_laws.proofs.fab_matrix_Fields.{field_within}
use Rattle.fab_parts_sound_laws.specs.Fits.{FitsIn}
use Rattle.fab_parts_sound_laws.proofs.Lists.{pairs_none, pairs_right, pairs_across, all_right, contains_first, contains_map}
use Rattle.fab_parts_sound_laws.proofs.Names.{Differ, AreApart, IsNet}
use Rattle.fab_parts_sound_laws.proofs.Counts.{driven_names, held_names, IsPortAmong, IsItemAmong}
use Rattle.fab_parts_sound_laws.proofs.Declared.{port_names, port_declared}
use Rattle.fab_parts_sound_laws.proofs.Flat.{ItemFits}
use Rattle.fab_parts_sound_laws.proofs.FlatNames.{UsesOnly, IsFlat, flat_module_fits}
use Rattle.fab_parts_sound_laws.proofs.Sized.{Fits, name_fits, number_fits, part_fits, equal_fits, choice_fits, DrivesAt, item_fits, item_uses}

-- ---- names of ports

-- the name of the select bits, where there are any
abbrev pub config_names : (bits : ℕ) → List (List ℕ)
config_names zero = []
config_names (suc n) = config_name ∷ []

abbrev config_of : (bits : ℕ) → Port
config_of bits = record { input = true; shape = Vector bits; name = config_name }

scalar_names : (input : Bool) (names : List (List ℕ)) → port_names (map (scalar input) names) ≡ names
scalar_names input [] = refl
scalar_names input (name ∷ names) = ap (λ rest. name ∷ rest) (scalar_names input names)

config_port_names : (bits : ℕ) → port_names (config_port bits) ≡ config_names bits
config_port_names zero = refl
config_port_names (suc n) = refl

output_port_names : {K : Type 0} (outputs : List (K × List ℕ)) → port_names (map (λ output. scalar false output.1) outputs) ≡ map (λ output. output.1) outputs
output_port_names [] = refl
output_port_names (output ∷ outputs) = ap (λ rest. output.1 ∷ rest) (output_port_names outputs)

config_there : (bits : ℕ) → 0 < bits → Contains (config_port bits) (config_of bits)
config_there zero some = absurd (omega arith)
config_there (suc n) some = contains_first (config_of (suc n)) []

config_named : (bits : ℕ) → 0 < bits → Contains (config_names bits) config_name
config_named zero some = absurd (omega arith)
config_named (suc n) some = contains_first config_name []

all_config : (P : Port → Type 0) (bits : ℕ) → (0 < bits → P (config_of bits)) → All P (config_port bits)
all_config P zero holds = All-nil P
all_config P (suc n) holds = All-cons P (config_of (suc n)) [] (holds (omega arith)) (All-nil P)

-- ---- assignments

assigned_names : {X : Type 0} (text : List PlainModule) (target : X → List ℕ) (e : X → PlainExpr) (xs : List X) → driven_names text (map (λ x. assign (target x) (e x)) xs) ≡ map target xs
assigned_names text target e [] = refl
assigned_names text target e (x ∷ xs) = ap (λ rest. target x ∷ rest) (assigned_names text target e xs)

none_held : {X : Type 0} (target : X → List ℕ) (e : X → PlainExpr) (xs : List X) → held_names (map (λ x. assign (target x) (e x)) xs) ≡ []
none_held target e [] = refl
none_held target e (x ∷ xs) = none_held target e xs

-- what holds of all inputs of pairs holds of those of an output
inputs_within : {K : Type 0} (P : List ℕ → Type 0) (same : K → K → Bool) (pairs : List (K × List ℕ)) (output : K) → All (λ pair. P pair.1) pairs → All P (inputs_of same pairs output)
inputs_within {K} P same pairs output all =
    All-map P (λ (pair : K × List ℕ). pair.1) (filter (λ (pair : K × List ℕ). same pair.0 output) pairs)
    (All-filter (λ (pair : K × List ℕ). same pair.0 output) (λ (pair : K × List ℕ). P pair.1) pairs all)

-- the names of a matrix
abbrev pub matrix_nets : {K : Type 0} → (same : K → K → Bool) → (inputs : List (List ℕ)) → (outputs pairs : List (K × List ℕ)) → List (List ℕ)
matrix_nets same inputs outputs pairs = inputs ++ (config_names (select_bits same pairs) ++ map (λ output. output.1) outputs)

module _ {K : Type 0} (same : K → K → Bool) (tells : (a b : K) → Decides (same a b) (a ≡ b)) (name : List ℕ) (inputs : List (List ℕ)) (outputs pairs : List (K × List ℕ))
    (apart : AreApart (matrix_nets same inputs outputs pairs)) (known : All (λ pair. Contains inputs pair.1) pairs) where
  abbrev m : PlainModule
  m = matrix same name inputs outputs pairs

  abbrev bits : ℕ
  bits = select_bits same pairs

  abbrev output_names : List (List ℕ)
  output_names = map (λ (output : K × List ℕ). output.1) outputs

  abbrev names : List (List ℕ)
  names = matrix_nets same inputs outputs pairs

  abbrev input_ports : List Port
  input_ports = map (scalar true) inputs

  abbrev output_ports : List Port
  output_ports = map (λ (output : K × List ℕ). scalar false output.1) outputs

  ports_named : port_names m.ports ≡ names
  ports_named =
      map-append (λ (port : Port). port.name) input_ports (config_port bits ++ output_ports)
      ∙ (λ j. scalar_names true inputs j ++ map-append (λ (port : Port). port.name) (config_port bits) output_ports j)
      ∙ (λ j. inputs ++ (config_port_names bits j ++ output_port_names outputs j))

  ports_apart : AreApart (port_names m.ports)
  ports_apart = subst AreApart (sym ports_named) apart

  -- ---- widths

  input_wide : (input : List ℕ) → Contains inputs input → width_of_name m input ≡ 1
  input_wide input there =
      ap width_if_any
      (port_declared (scalar true input) m.ports m.items ports_apart
      (Contains-append_left input_ports (config_port bits ++ output_ports) (scalar true input) (contains_map (scalar true) inputs input there)))

  config_declared : 0 < bits → declared_shape m.ports m.items config_name ≡ Some (Vector bits)
  config_declared some =
      port_declared (config_of bits) m.ports m.items ports_apart
      (Contains-append_right input_ports (config_port bits ++ output_ports) (config_of bits) (Contains-append_left (config_port bits) output_ports (config_of bits) (config_there bits some)))

  output_wide : (output : K × List ℕ) → Contains outputs output → width_of_name m output.1 ≡ 1
  output_wide output there =
      ap width_if_any
      (port_declared (scalar false output.1) m.ports m.items ports_apart
      (Contains-append_right input_ports (config_port bits ++ output_ports) (scalar false output.1)
      (Contains-append_right (config_port bits) output_ports (scalar false output.1) (contains_map (λ (o : K × List ℕ). scalar false o.1) outputs output there))))

  -- ---- expressions

  input_fits : (input : List ℕ) → Contains inputs input → Fits names m 1 (variable input)
  input_fits input there = name_fits names m input 1 (Contains-append_left inputs (config_names bits ++ output_names) input there) (input_wide input there)

  field_fits : (low width : ℕ) → 0 < width → low + width ≤ bits → Fits names m width (field low width)
  field_fits low width wide within =
      let some : 0 < bits = omega arith in
      let config_among : Contains names config_name =
      Contains-append_right inputs (config_names bits ++ output_names) config_name (Contains-append_left (config_names bits) output_names config_name (config_named bits some)) in
      let fits : Fits names m (low + width - 1 + 1 - low) (field low width) =
      part_fits names m config_name (low + width - 1) low bits config_among (config_declared some) (omega arith) (omega arith) in
      let is : low + width - 1 + 1 - low ≡ width = omega arith in
      (fits.0, is)

  chain_fits : (low width i : ℕ) (first : List ℕ) (others : List (List ℕ)) → 0 < width → low + width ≤ bits → Contains inputs first → All (Contains inputs) others →
      Fits names m 1 (chain low width i first others)
  chain_fits low width i first [] wide within there all = input_fits first there
  chain_fits low width i first (input ∷ others) wide within there all =
      choice_fits names m 1 (operation Equal (field low width) (constant (digits width i))) (variable input) (chain low width (i + 1) first others)
      (equal_fits names m width (field low width) (constant (digits width i)) (field_fits low width wide within) (number_fits names m width i))
      (input_fits input (All-head (Contains inputs) input others all))
      (chain_fits low width (i + 1) first others wide within there (All-tail (Contains inputs) input others all))

  selection_fits : (output : K) (among : List (List ℕ)) → inputs_of same pairs output ≡ among → All (Contains inputs) among →
      Fits names m 1 (selection (field_low same pairs output) (field_width same pairs output) among)
  selection_fits output [] are all = ((tt, tt, tt), refl)
  selection_fits output (input ∷ []) are all = input_fits input (All-head (Contains inputs) input [] all)
  selection_fits output (first ∷ second ∷ more) are all =
      let low = field_low same pairs output in
      let width = field_width same pairs output in
      let count : length (inputs_of same pairs output) ≡ 2 + length more = ap length are ∙ omega arith in
      let enough : length (inputs_of same pairs output) ≤ 2 ^ width = select_enough (length (inputs_of same pairs output)) in
      let wide : 0 < width = some_width width (length (inputs_of same pairs output)) (omega arith) enough in
      let within : low + width ≤ bits = field_within same tells output pairs (omega arith) in
      chain_fits low width 1 first (second ∷ more) wide within (All-head (Contains inputs) first (second ∷ more) all) (All-tail (Contains inputs) first (second ∷ more) all)

  -- ---- items

  abbrev item_of : K × List ℕ → PlainItem
  item_of output = assign output.1 (output_value same pairs output.0)

  items_drive : All (DrivesAt names m 1) m.items
  items_drive =
      All-map (DrivesAt names m 1) item_of outputs
      (λ k d within.
      let output = get_or outputs k d in
      let there = Contains-get_or outputs k d within in (
        Contains-append_right inputs (config_names bits ++ output_names) output.1
            (Contains-append_right (config_names bits) output_names output.1 (contains_map (λ (o : K × List ℕ). o.1) outputs output there)),
        output_wide output there,
        selection_fits output.0 (inputs_of same pairs output.0) refl (inputs_within (Contains inputs) same pairs output.0 known),
      ))

  -- ---- drivers

  abbrev Among : Port → Type 0
  Among port = IsPortAmong output_names [] port.input port.name

  later_apart : AreApart (config_names bits ++ output_names)
  later_apart = pairs_right Differ inputs (config_names bits ++ output_names) apart

  ports_among : All Among m.ports
  ports_among =
      All-append Among input_ports (config_port bits ++ output_ports)
      (All-map Among (scalar true) inputs
      (λ k d within i e few same. all_right (Differ _) (config_names bits) output_names (pairs_across Differ inputs (config_names bits ++ output_names) apart k d within) i e few (sym same)))
      (All-append Among (config_port bits) output_ports
      (all_config Among bits
      (λ some i e few same. All-contains (λ n. All (Differ n) output_names) (config_names bits) config_name (pairs_across Differ (config_names bits) output_names later_apart) (config_named bits some) i e few (sym same)))
      (All-map Among (λ (output : K × List ℕ). scalar false output.1) outputs
      (λ k d within. (contains_map (λ (o : K × List ℕ). o.1) outputs (get_or outputs k d) (Contains-get_or outputs k d within), All-nil (λ other. other ≢ (get_or outputs k d).1)))))

  flat : (text : List PlainModule) → IsFlat text m [] m.items names output_names []
  flat text = record {
    in_order = refl;
    declare = All-nil IsNet;
    declared = append-nil (port_names m.ports) ∙ ports_named;
    names_apart = apart;
    used = All-weaker (DrivesAt names m 1) (UsesOnly names) (item_uses names m 1) m.items items_drive;
    fit = All-weaker (DrivesAt names m 1) (ItemFits m) (item_fits names m 1) m.items items_drive;
    drives = assigned_names text (λ (o : K × List ℕ). o.1) (λ (o : K × List ℕ). output_value same pairs o.0) outputs;
    holds = none_held (λ (o : K × List ℕ). o.1) (λ (o : K × List ℕ). output_value same pairs o.0) outputs;
    driven_apart = pairs_right Differ (config_names bits) output_names later_apart;
    held_apart = pairs_none Differ;
    ports_among = ports_among;
    nets_among = All-nil (IsItemAmong output_names []);
  }

  pub matrix_fits : (text before : List PlainModule) → FitsIn text before m
  matrix_fits text before = flat_module_fits text before m [] m.items names output_names [] (flat text)
