-- The module of the loader fits.
use Rattle.std.proofs.Common.{◌≡◌, ◌≢◌, ℕ, ◌-◌, ◌<◌, ◌≤◌, true, false, List, [], ◌∷◌, ◌++◌, get_or, refl, sym, ◌∙◌, arith, All, Contains, append-nil}
use Rattle.std.specs.List.{flat_map}
use Rattle.std.proofs.lemmas.List.Concat.{flat_map-append}
use Rattle.std.proofs.lemmas.List.Elements.{All-append, All-weaker, Contains-append_left, Contains-append_right}
use Rattle.fab_syntax.specs.declared.tree.Op.TheVariants.{Minus}
use Rattle.fab_syntax.specs.declared.tree.Shape.{Shape}
use Rattle.fab_syntax.specs.declared.tree.Shape.TheVariants.{Scalar, Vector}
use Rattle.fab_syntax.specs.declared.tree.Port.{Port}
use Rattle.fab_syntax.specs.Plain.{PlainExpr, PlainItem, PlainModule, variable, complement, operation, conditional, reg, assign, clocked}
use Rattle.fab_syntax.specs.Sound.{width_of_name, ServesAsClock}
use Rattle.fab_tile_drives_laws.specs.fab_meaning_Runs.{clock_name}
use Rattle.fab_tile_drives_laws.specs.fab_meaning_Loading.{write_strobe_name, write_data_name}
use Rattle.fab_tile_drives_laws.proofs.fab_meaning_Modules.{Each, each_all}
use Rattle.fab_tile_drives_laws.specs.fab_model_Tiles.{counted}
use Rattle.fab_tile_drives_laws.proofs.fab_model_Inserts.{map_counted}
use Rattle.fab_gen_loader.specs.Machine.{wake_word}
use Rattle.fab_gen_loader.specs.Loader.{port, address_port, strobe_port, row_port, state_name, count_name, strobe_register_name, registers, processes, outputs, address_register_name, row_register_name}
use Rattle.fab_gen_loader.specs.Expressions.{number_at, equals, both, takes_in, ends, rows_left, by_state, next_state, next_count, next_address, next_strobe, next_row, next_values, loader_module}
use Rattle.fab_gen_loader.proofs.Widths.{state_width, count_width, address_width, row_width}
use Rattle.fab_parts_sound_laws.specs.Fits.{FitsIn}
use Rattle.fab_parts_sound_laws.proofs.Lists.{all_counted, none_each, one_each}
use Rattle.fab_parts_sound_laws.proofs.Names.{IsNoneOf, IsNet}
use Rattle.fab_parts_sound_laws.proofs.Counts.{item_drives, driven_names, item_holds, held_names, IsPortAmong, IsItemAmong}
use Rattle.fab_parts_sound_laws.proofs.Clocks.{ClocksBy, serves}
use Rattle.fab_parts_sound_laws.proofs.Flat.{ItemFits}
use Rattle.fab_parts_sound_laws.proofs.FlatNames.{UsesOnly, counted_nets, IsFlat, flat_module_fits}
use Rattle.fab_parts_sound_laws.proofs.Sized.{Fits, name_fits, number_fits, part_fits, not_fits, equal_fits, and_fits, minus_fits, choice_fits, DrivesAt, item_fits, item_uses}
use Rattle.fab_parts_sound_laws.proofs.LoaderNames.{inputs, output_names, register_names, names, names_apart, registers_apart, driven_apart, inputs_and_outputs, inputs_and_registers, outputs_and_registers, input_there, output_there, register_there, row_output, row_register, row_port_width, strobe_width}

-- ---- what holds of all items

abbrev fixed_registers : List PlainItem
fixed_registers = reg (Vector 2) state_name ∷ reg (Vector 5) count_name ∷ reg (Vector 32) address_register_name ∷ reg Scalar strobe_register_name ∷ []

abbrev row_reg : (row : ℕ) → PlainItem
row_reg row = reg (Vector 32) (row_register_name row)

abbrev fixed_processes : (rows : ℕ) → List PlainItem
fixed_processes rows =
    clocked clock_name state_name next_state ∷ clocked clock_name count_name (next_count rows) ∷ clocked clock_name address_register_name next_address
    ∷ clocked clock_name strobe_register_name next_strobe ∷ []

abbrev row_process : (rows row : ℕ) → PlainItem
row_process rows row = clocked clock_name (row_register_name row) (next_row rows row)

abbrev fixed_outputs : List PlainItem
fixed_outputs = assign address_port (variable address_register_name) ∷ assign strobe_port (variable strobe_register_name) ∷ []

abbrev row_assign : (row : ℕ) → PlainItem
row_assign row = assign (row_port row) (variable (row_register_name row))

module _ (P : PlainItem → Type 0) (rows : ℕ) where
  all_registers : Each P fixed_registers → ((row : ℕ) → row < rows → P (row_reg row)) → All P (registers rows)
  all_registers fixed each = All-append P fixed_registers (counted rows row_reg) (each_all P fixed_registers fixed) (all_counted P rows row_reg each)

  all_processes : Each P (fixed_processes rows) → ((row : ℕ) → row < rows → P (row_process rows row)) → All P (processes rows (next_values rows))
  all_processes fixed each =
      All-append P (fixed_processes rows) (counted rows (row_process rows)) (each_all P (fixed_processes rows) fixed) (all_counted P rows (row_process rows) each)

  all_outputs : Each P fixed_outputs → ((row : ℕ) → row < rows → P (row_assign row)) → All P (outputs rows)
  all_outputs fixed each = All-append P fixed_outputs (counted rows row_assign) (each_all P fixed_outputs fixed) (all_counted P rows row_assign each)

-- ---- the module

module _ (rows : ℕ) (few : rows ≤ 31) where
  abbrev m : PlainModule
  m = loader_module rows

  abbrev all_names : List (List ℕ)
  all_names = names rows few

  abbrev FitsAt : (width : ℕ) → PlainExpr → Type 0
  FitsAt width e = Fits all_names m width e

  -- ---- what is used

  clock_there : Contains all_names clock_name
  clock_there = input_there rows few clock_name (0, omega arith, refl)

  state_register : Contains (register_names rows few) state_name
  state_register = (0, omega arith, refl)

  count_register : Contains (register_names rows few) count_name
  count_register = (1, omega arith, refl)

  address_register : Contains (register_names rows few) address_register_name
  address_register = (2, omega arith, refl)

  strobe_register : Contains (register_names rows few) strobe_register_name
  strobe_register = (3, omega arith, refl)

  data_there : Contains all_names write_data_name
  data_there = input_there rows few write_data_name (2, omega arith, refl)

  strobe_fits : FitsAt 1 (variable write_strobe_name)
  strobe_fits = name_fits all_names m write_strobe_name 1 (input_there rows few write_strobe_name (1, omega arith, refl)) refl

  data_fits : FitsAt 32 (variable write_data_name)
  data_fits = name_fits all_names m write_data_name 32 data_there refl

  state_fits : FitsAt 2 (variable state_name)
  state_fits = name_fits all_names m state_name 2 (register_there rows few state_name state_register) (state_width rows (next_values rows))

  count_fits : FitsAt 5 (variable count_name)
  count_fits = name_fits all_names m count_name 5 (register_there rows few count_name count_register) (count_width rows (next_values rows))

  address_fits : FitsAt 32 (variable address_register_name)
  address_fits = name_fits all_names m address_register_name 32 (register_there rows few address_register_name address_register) (address_width rows (next_values rows))

  strobe_register_fits : FitsAt 1 (variable strobe_register_name)
  strobe_register_fits = name_fits all_names m strobe_register_name 1 (register_there rows few strobe_register_name strobe_register) (strobe_width rows)

  row_fits : (row : ℕ) → row < rows → FitsAt 32 (variable (row_register_name row))
  row_fits row within = name_fits all_names m (row_register_name row) 32 (register_there rows few (row_register_name row) (row_register rows few row within)) (row_width rows (next_values rows) row within)

  -- ---- expressions

  equals_fits : (name : List ℕ) (width n : ℕ) → FitsAt width (variable name) → FitsAt 1 (equals name width n)
  equals_fits name width n fits = equal_fits all_names m width (variable name) (number_at width n) fits (number_fits all_names m width n)

  both_fits : (first second : PlainExpr) → FitsAt 1 first → FitsAt 1 second → FitsAt 1 (both first second)
  both_fits first second of_first of_second = and_fits all_names m 1 first second of_first of_second

  choose : (width : ℕ) (test first second : PlainExpr) → FitsAt 1 test → FitsAt width first → FitsAt width second → FitsAt width (conditional test first second)
  choose width test first second of_test of_first of_second = choice_fits all_names m width test first second of_test of_first of_second

  takes_fits : (state : ℕ) → FitsAt 1 (takes_in state)
  takes_fits state = both_fits (variable write_strobe_name) (equals state_name 2 state) strobe_fits (equals_fits state_name 2 state state_fits)

  ends_fits : FitsAt 1 ends
  ends_fits = part_fits all_names m write_data_name 20 20 32 data_there refl (omega arith) (omega arith)

  left_fits : (n : ℕ) → FitsAt 1 (rows_left n)
  left_fits n = equals_fits count_name 5 n count_fits

  by_state_fits : (width : ℕ) (address row waiting idle : PlainExpr) → FitsAt width address → FitsAt width row → FitsAt width waiting → FitsAt width idle →
      FitsAt width (by_state address row waiting idle)
  by_state_fits width address row waiting idle of_address of_row of_waiting of_idle =
      choose width (variable write_strobe_name) (conditional (equals state_name 2 1) address (conditional (equals state_name 2 2) row waiting)) idle strobe_fits
      (choose width (equals state_name 2 1) address (conditional (equals state_name 2 2) row waiting) (equals_fits state_name 2 1 state_fits) of_address
      (choose width (equals state_name 2 2) row waiting (equals_fits state_name 2 2 state_fits) of_row of_waiting))
      of_idle

  number : (width n : ℕ) → FitsAt width (number_at width n)
  number width n = number_fits all_names m width n

  next_state_fits : FitsAt 2 next_state
  next_state_fits =
      by_state_fits 2 (conditional ends (number_at 2 0) (number_at 2 2)) (conditional (rows_left 1) (number_at 2 1) (number_at 2 2))
      (conditional (equals write_data_name 32 wake_word) (number_at 2 1) (number_at 2 0)) (variable state_name)
      (choose 2 ends (number_at 2 0) (number_at 2 2) ends_fits (number 2 0) (number 2 2))
      (choose 2 (rows_left 1) (number_at 2 1) (number_at 2 2) (left_fits 1) (number 2 1) (number 2 2))
      (choose 2 (equals write_data_name 32 wake_word) (number_at 2 1) (number_at 2 0) (equals_fits write_data_name 32 wake_word data_fits) (number 2 1) (number 2 0))
      state_fits

  next_count_fits : FitsAt 5 (next_count rows)
  next_count_fits =
      by_state_fits 5 (conditional ends (variable count_name) (number_at 5 rows))
      (conditional (rows_left 1) (variable count_name) (operation Minus (variable count_name) (number_at 5 1))) (variable count_name) (variable count_name)
      (choose 5 ends (variable count_name) (number_at 5 rows) ends_fits count_fits (number 5 rows))
      (choose 5 (rows_left 1) (variable count_name) (operation Minus (variable count_name) (number_at 5 1)) (left_fits 1) count_fits
      (minus_fits all_names m 5 (variable count_name) (number_at 5 1) count_fits (number 5 1)))
      count_fits count_fits

  next_address_fits : FitsAt 32 next_address
  next_address_fits =
      choose 32 (both (takes_in 1) (complement ends)) (variable write_data_name) (variable address_register_name)
      (both_fits (takes_in 1) (complement ends) (takes_fits 1) (not_fits all_names m 1 ends ends_fits)) data_fits address_fits

  next_strobe_fits : FitsAt 1 next_strobe
  next_strobe_fits = both_fits (takes_in 2) (rows_left 1) (takes_fits 2) (left_fits 1)

  next_row_fits : (row : ℕ) → row < rows → FitsAt 32 (next_row rows row)
  next_row_fits row within =
      choose 32 (both (takes_in 2) (rows_left (rows - row))) (variable write_data_name) (variable (row_register_name row))
      (both_fits (takes_in 2) (rows_left (rows - row)) (takes_fits 2) (left_fits (rows - row))) data_fits (row_fits row within)

  -- ---- items

  abbrev rest : List PlainItem
  rest = processes rows (next_values rows) ++ outputs rows

  -- an item that drives a net
  abbrev DrivesOne : PlainItem → Type 0
  DrivesOne item = (width : ℕ) × DrivesAt all_names m width item

  -- a process of a register
  process_drives : (width : ℕ) (register : List ℕ) (next : PlainExpr) → Contains (register_names rows few) register → width_of_name m register ≡ width → FitsAt width next → DrivesOne (clocked clock_name register next)
  process_drives width register next there wide fits = (width, (clock_there, (refl, refl), register_there rows few register there, wide, fits))

  -- an output that shows a register
  output_drives : (width : ℕ) (output : List ℕ) (e : PlainExpr) → Contains (output_names rows few) output → width_of_name m output ≡ width → FitsAt width e → DrivesOne (assign output e)
  output_drives width output e there wide fits = (width, (output_there rows few output there, wide, fits))

  processes_drive : All DrivesOne (processes rows (next_values rows))
  processes_drive =
      all_processes DrivesOne rows (
        process_drives 2 state_name next_state state_register (state_width rows (next_values rows)) next_state_fits,
        (
          process_drives 5 count_name (next_count rows) count_register (count_width rows (next_values rows)) next_count_fits,
          (
            process_drives 32 address_register_name next_address address_register (address_width rows (next_values rows)) next_address_fits,
            (process_drives 1 strobe_register_name next_strobe strobe_register (strobe_width rows) next_strobe_fits, tt),
          ),
        ),
      )
      (λ row within. process_drives 32 (row_register_name row) (next_row rows row) (row_register rows few row within) (row_width rows (next_values rows) row within) (next_row_fits row within))

  outputs_drive : All DrivesOne (outputs rows)
  outputs_drive =
      all_outputs DrivesOne rows (
        output_drives 32 address_port (variable address_register_name) (0, omega arith, refl) refl address_fits,
        (output_drives 1 strobe_port (variable strobe_register_name) (1, omega arith, refl) refl strobe_register_fits, tt),
      )
      (λ row within. output_drives 32 (row_port row) (variable (row_register_name row)) (row_output rows few row within) (row_port_width rows row within) (row_fits row within))

  rest_drives : All DrivesOne rest
  rest_drives = All-append DrivesOne (processes rows (next_values rows)) (outputs rows) processes_drive outputs_drive

  -- ---- drivers

  abbrev driven : List (List ℕ)
  driven = register_names rows few ++ output_names rows few

  abbrev held : List (List ℕ)
  held = register_names rows few

  drives : (text : List PlainModule) → driven_names text m.items ≡ driven
  drives text =
      let g = item_drives text in
      flat_map-append g (registers rows) rest
      ∙ (λ j. none_each g rows (λ row. reg (Vector 32) (row_register_name row)) (λ row. refl) j ++ flat_map g rest)
      ∙ flat_map-append g (processes rows (next_values rows)) (outputs rows)
      ∙ (λ j. (state_name ∷ count_name ∷ address_register_name ∷ strobe_register_name ∷ one_each g rows (row_process rows) row_register_name (λ row. refl) j)
      ++ (address_port ∷ strobe_port ∷ one_each g rows row_assign row_port (λ row. refl) j))

  holds : held_names m.items ≡ held
  holds =
      flat_map-append item_holds (registers rows) rest
      ∙ (λ j. none_each item_holds rows (λ row. reg (Vector 32) (row_register_name row)) (λ row. refl) j ++ flat_map item_holds rest)
      ∙ flat_map-append item_holds (processes rows (next_values rows)) (outputs rows)
      ∙ (λ j. (state_name ∷ count_name ∷ address_register_name ∷ strobe_register_name ∷ one_each item_holds rows (row_process rows) row_register_name (λ row. refl) j)
      ++ none_each item_holds rows row_assign (λ row. refl) j)
      ∙ append-nil held

  -- an input is not driven
  input_not_driven : (k : ℕ) → k < 3 → (name : List ℕ) → get_or (inputs rows few) k name ≡ name → IsNoneOf driven name
  input_not_driven k within name is =
      All-append (λ other. other ≢ name) held (output_names rows few)
      (λ i d inside same. inputs_and_registers rows few k name within i d inside (is ∙ sym same))
      (λ i d inside same. inputs_and_outputs rows few k name within i d inside (is ∙ sym same))

  -- an output is, and no process holds it
  output_driven : (name : List ℕ) → Contains (output_names rows few) name → Contains driven name × IsNoneOf held name
  output_driven name there = (
    Contains-append_right held (output_names rows few) name there,
    λ i d inside same. outputs_and_registers rows few there.0 name there.1 i d inside (there.2 ∙ sym same),
  )

  abbrev Among : Port → Type 0
  Among p = IsPortAmong driven held p.input p.name

  abbrev fixed_ports : List Port
  fixed_ports =
      port true Scalar clock_name ∷ port true Scalar write_strobe_name ∷ port true (Vector 32) write_data_name ∷ port false (Vector 32) address_port ∷ port false Scalar strobe_port ∷ []

  ports_among : All Among m.ports
  ports_among =
      All-append Among fixed_ports (counted rows (λ row. port false (Vector 32) (row_port row)))
      (each_all Among fixed_ports (
        input_not_driven 0 (omega arith) clock_name refl,
        (
          input_not_driven 1 (omega arith) write_strobe_name refl,
          (input_not_driven 2 (omega arith) write_data_name refl, (output_driven address_port (0, omega arith, refl), (output_driven strobe_port (1, omega arith, refl), tt))),
        ),
      ))
      (all_counted Among rows (λ row. port false (Vector 32) (row_port row)) (λ row within. output_driven (row_port row) (row_output rows few row within)))

  register_driven : (shape : Shape) (name : List ℕ) → Contains held name → IsItemAmong driven held (reg shape name)
  register_driven shape name there = (Contains-append_left held (output_names rows few) name there, there)

  nets_among : All (IsItemAmong driven held) (registers rows)
  nets_among =
      all_registers (IsItemAmong driven held) rows (
        register_driven (Vector 2) state_name state_register,
        (
          register_driven (Vector 5) count_name count_register,
          (register_driven (Vector 32) address_register_name address_register, (register_driven Scalar strobe_register_name strobe_register, tt)),
        ),
      )
      (λ row within. register_driven (Vector 32) (row_register_name row) (row_register rows few row within))

  -- ---- together

  flat : (text : List PlainModule) → IsFlat text m (registers rows) rest all_names driven held
  flat text = record {
    in_order = refl;
    declare = all_registers IsNet rows (tt, (tt, (tt, (tt, tt)))) (λ row within. tt);
    declared =
        λ j. (clock_name ∷ write_strobe_name ∷ write_data_name ∷ address_port ∷ strobe_port ∷ map_counted (λ (p : Port). p.name) rows (λ row. port false (Vector 32) (row_port row)) j)
        ++ (state_name ∷ count_name ∷ address_register_name ∷ strobe_register_name ∷ counted_nets (Vector 32) rows row_register_name j);
    names_apart = names_apart rows few;
    used = All-weaker DrivesOne (UsesOnly all_names) (λ item drives. item_uses all_names m drives.0 item drives.1) rest rest_drives;
    fit = All-weaker DrivesOne (ItemFits m) (λ item drives. item_fits all_names m drives.0 item drives.1) rest rest_drives;
    drives = drives text;
    holds = holds;
    driven_apart = driven_apart rows few;
    held_apart = registers_apart rows few;
    ports_among = ports_among;
    nets_among = nets_among;
  }

  pub loader_fits : (text before : List PlainModule) → FitsIn text before m
  loader_fits text before = flat_module_fits text before m (registers rows) rest all_names driven held (flat text)

-- ---- clocks

abbrev IsClock : List ℕ → Type 0
IsClock port = port ≡ clock_name

pub loader_clocks : (text : List PlainModule) (rows : ℕ) (port : List ℕ) → ServesAsClock text (loader_module rows) port → port ≡ clock_name
loader_clocks text rows port =
    let P : PlainItem → Type 0 = ClocksBy IsClock in
    let processes_by : All P (processes rows (next_values rows)) = all_processes P rows (refl, (refl, (refl, (refl, tt)))) (λ row within. refl) in
    let outputs_by : All P (outputs rows) = all_outputs P rows (tt, (tt, tt)) (λ row within. tt) in
    serves IsClock text (loader_module rows) port
    (All-append P (registers rows) (processes rows (next_values rows) ++ outputs rows) (all_registers P rows (tt, (tt, (tt, (tt, tt)))) (λ row within. tt))
    (All-append P (processes rows (next_values rows)) (outputs rows) processes_by outputs_by))
