-- The names of the loader's module: which there are, that they are apart, and how wide they are.
use Rattle.std.proofs.Common.{◌≡◌, ◌≢◌, ℕ, zero, suc, ◌<◌, ◌≤◌, false, List, [], ◌∷◌, ◌++◌, decimal, codes, refl, ap, inl, inr, arith, Some, All, Contains}
use Rattle.std.specs.Str.{bytes_eq}
use Rattle.std.proofs.lemmas.Bool.{cases_Bool}
use Rattle.std.proofs.lemmas.Fmt.{decimal_injective}
use Rattle.std.proofs.lemmas.List.{append_cancel_left}
use Rattle.std.proofs.lemmas.List.Elements.{All-append, Contains-append_left, Contains-append_right}
use Rattle.fab_syntax.specs.declared.tree.Shape.{Shape}
use Rattle.fab_syntax.specs.declared.tree.Shape.TheVariants.{Vector}
use Rattle.fab_syntax.specs.declared.tree.Port.{Port}
use Rattle.fab_syntax.specs.Plain.{PlainItem}
use Rattle.fab_syntax.specs.Declarations.{item_shape, declared_shape, width_if_any}
use Rattle.fab_syntax.specs.Sound.{width_of_name}
use Rattle.fab_tile_drives_laws.specs.fab_meaning_Runs.{clock_name}
use Rattle.fab_tile_drives_laws.specs.fab_meaning_Loading.{write_strobe_name, write_data_name}
use Rattle.fab_tile_drives_laws.proofs.fab_meaning_Dependence.{same_name}
use Rattle.fab_tile_drives_laws.specs.fab_model_Tiles.{counted}
use Rattle.fab_gen_loader.specs.Loader.{port, address_port, strobe_port, row_port, state_name, count_name, strobe_register_name, address_register_name, row_register_name}
use Rattle.fab_gen_loader.specs.Expressions.{loader_module}
use Rattle.fab_parts_sound_laws.proofs.Lists.{all_counted, pairs_append, pairs_counted, contains_counted}
use Rattle.fab_parts_sound_laws.proofs.Names.{Differ, told_apart, AreApart}
use Rattle.fab_parts_sound_laws.proofs.Apart.{Across, across_turned, across_more, across_if, differs_from, apart_if}

-- ---- numbered names

numbered_differ : (front : List ℕ) (i j : ℕ) → i < j → j ≤ 31 → front ++ decimal i ≢ front ++ decimal j
numbered_differ front i j before few same =
    let equal : i ≡ j = decimal_injective i j (omega arith) (omega arith) (append_cancel_left front (decimal i) (decimal j) same) in
    omega arith

module _ (rows : ℕ) (few : rows ≤ 31) where
  -- ---- which there are

  abbrev pub inputs : List (List ℕ)
  inputs = clock_name ∷ write_strobe_name ∷ write_data_name ∷ []

  abbrev pub outputs_of_rows : List (List ℕ)
  outputs_of_rows = counted rows row_port

  abbrev pub output_names : List (List ℕ)
  output_names = address_port ∷ strobe_port ∷ outputs_of_rows

  abbrev pub registers_of_rows : List (List ℕ)
  registers_of_rows = counted rows row_register_name

  abbrev pub register_names : List (List ℕ)
  register_names = state_name ∷ count_name ∷ address_register_name ∷ strobe_register_name ∷ registers_of_rows

  abbrev pub names : List (List ℕ)
  names = (inputs ++ output_names) ++ register_names

  -- ---- they are apart

  outputs_apart : AreApart output_names
  outputs_apart =
      pairs_append Differ (address_port ∷ strobe_port ∷ []) outputs_of_rows (apart_if (address_port ∷ strobe_port ∷ []) refl)
      (pairs_counted Differ rows row_port (λ i j before within. numbered_differ (codes "Row") i j before (omega arith)))
      (across_turned outputs_of_rows (address_port ∷ strobe_port ∷ [])
      (all_counted (λ name. All (Differ name) (address_port ∷ strobe_port ∷ [])) rows row_port (λ row within. differs_from (row_port row) (address_port ∷ strobe_port ∷ []) refl)))

  pub registers_apart : AreApart register_names
  registers_apart =
      let own = state_name ∷ count_name ∷ address_register_name ∷ strobe_register_name ∷ [] in
      pairs_append Differ own registers_of_rows (apart_if own refl)
      (pairs_counted Differ rows row_register_name (λ i j before within. numbered_differ (codes "row") i j before (omega arith)))
      (across_turned registers_of_rows own (all_counted (λ name. All (Differ name) own) rows row_register_name (λ row within. differs_from (row_register_name row) own refl)))

  -- each name of a closed list against those of the rows
  against_rows : (front : ℕ → List ℕ) (own : List (List ℕ)) → ((row : ℕ) → All (Differ (front row)) own) → Across own (counted rows front)
  against_rows front own differ = across_turned (counted rows front) own (all_counted (λ name. All (Differ name) own) rows front (λ row within. differ row))

  pub inputs_and_outputs : Across inputs output_names
  inputs_and_outputs =
      across_more inputs (address_port ∷ strobe_port ∷ []) outputs_of_rows (across_if inputs (address_port ∷ strobe_port ∷ []) refl)
      (against_rows row_port inputs (λ row. differs_from (row_port row) inputs refl))

  pub inputs_and_registers : Across inputs register_names
  inputs_and_registers =
      let own = state_name ∷ count_name ∷ address_register_name ∷ strobe_register_name ∷ [] in
      across_more inputs own registers_of_rows (across_if inputs own refl) (against_rows row_register_name inputs (λ row. differs_from (row_register_name row) inputs refl))

  pub outputs_and_registers : Across output_names register_names
  outputs_and_registers =
      let own = state_name ∷ count_name ∷ address_register_name ∷ strobe_register_name ∷ [] in
      let fixed = address_port ∷ strobe_port ∷ [] in
      let of_rows : Across outputs_of_rows register_names =
      across_more outputs_of_rows own registers_of_rows
      (all_counted (λ name. All (Differ name) own) rows row_port (λ row within. differs_from (row_port row) own refl))
      (all_counted (λ name. All (Differ name) registers_of_rows) rows row_port
      (λ row within. all_counted (Differ (row_port row)) rows row_register_name (λ other within. told_apart (row_port row) (row_register_name other) refl))) in
      let of_fixed : Across fixed register_names =
      across_more fixed own registers_of_rows (across_if fixed own refl) (against_rows row_register_name fixed (λ row. differs_from (row_register_name row) fixed refl)) in
      All-append (λ name. All (Differ name) register_names) fixed outputs_of_rows of_fixed of_rows

  pub names_apart : AreApart names
  names_apart =
      pairs_append Differ (inputs ++ output_names) register_names (pairs_append Differ inputs output_names (apart_if inputs refl) outputs_apart inputs_and_outputs) registers_apart
      (All-append (λ name. All (Differ name) register_names) inputs output_names inputs_and_registers outputs_and_registers)

  -- what is driven: the registers, and then the outputs
  pub driven_apart : AreApart (register_names ++ output_names)
  driven_apart = pairs_append Differ register_names output_names registers_apart outputs_apart (across_turned output_names register_names outputs_and_registers)

  -- ---- they are among the names

  pub input_there : (name : List ℕ) → Contains inputs name → Contains names name
  input_there name there = Contains-append_left (inputs ++ output_names) register_names name (Contains-append_left inputs output_names name there)

  pub output_there : (name : List ℕ) → Contains output_names name → Contains names name
  output_there name there = Contains-append_left (inputs ++ output_names) register_names name (Contains-append_right inputs output_names name there)

  pub register_there : (name : List ℕ) → Contains register_names name → Contains names name
  register_there name there = Contains-append_right (inputs ++ output_names) register_names name there

  pub row_output : (row : ℕ) → row < rows → Contains output_names (row_port row)
  row_output row within = Contains-append_right (address_port ∷ strobe_port ∷ []) outputs_of_rows (row_port row) (contains_counted rows row_port row within)

  pub row_register : (row : ℕ) → row < rows → Contains register_names (row_register_name row)
  row_register row within =
      Contains-append_right (state_name ∷ count_name ∷ address_register_name ∷ strobe_register_name ∷ []) registers_of_rows (row_register_name row) (contains_counted rows row_register_name row within)

-- ---- how wide they are

-- ports of other names are passed over
ports_passed : (n : ℕ) (f : ℕ → Port) (items : List PlainItem) (name : List ℕ) → ((i : ℕ) → bytes_eq (f i).name name ≡ false) →
    declared_shape (counted n f) items name ≡ item_shape items name
unfolding counted
ports_passed zero f items name apart = refl
ports_passed (suc n) f items name apart = let here : bytes_eq (f 0).name name ≡ false = apart 0 in rw here (ports_passed n (λ i. f (suc i)) items name (λ i. apart (suc i)))

-- each of counted ports is found with their shape
port_found : (shape : Shape) (name : ℕ → List ℕ) (items : List PlainItem) (n i : ℕ) → i < n → declared_shape (counted n (λ k. port false shape (name k))) items (name i) ≡ Some shape
unfolding counted
port_found shape name items zero i within = absurd (omega arith)
port_found shape name items (suc n) zero within = rw same_name refl
port_found shape name items (suc n) (suc i) within =
    elim (cases_Bool (bytes_eq (name 0) (name (suc i)))) [
      | inl same ↦ rw same refl
      | inr other ↦ rw other (port_found shape (λ k. name (suc k)) items n i (omega arith))
    ]

pub row_port_width : (rows row : ℕ) → row < rows → width_of_name (loader_module rows) (row_port row) ≡ 32
row_port_width rows row within = ap width_if_any (port_found (Vector 32) row_port (loader_module rows).items rows row within)

pub strobe_width : (rows : ℕ) → width_of_name (loader_module rows) strobe_register_name ≡ 1
strobe_width rows = ap width_if_any (ports_passed rows (λ row. port false (Vector 32) (row_port row)) (loader_module rows).items strobe_register_name (λ row. refl))
