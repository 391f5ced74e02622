-- The module of the loader steps as the machine.
use Rattle.std.proofs.Common.{◌≡◌, ℕ, ◌<◌, ◌≤◌, Bool, List, [], ◌∷◌, ◌++◌, get_or, refl, sym, ap, ◌∙◌, inr, arith, Some, Contains, subst}
use Rattle.std.proofs.lemmas.List.Elements.{Contains-append_left, Contains-append_right}
use Rattle.fab_bits.specs.Bits.{digits}
use Rattle.fab_bits.proofs.Numbers.{length_first_bits}
use Rattle.fab_syntax.specs.Plain.{PlainExpr, PlainModule, clocked}
use Rattle.fab_prim.specs.fab_meaning.specs.Value.{value}
use Rattle.fab_prim.specs.fab_meaning.specs.Points.{Path, point, module_at}
use Rattle.fab_prim.specs.fab_meaning.specs.Settled.{Assignment, names_at}
use Rattle.fab_prim.specs.fab_meaning.specs.Runs.{clock_name}
use Rattle.fab_prim.specs.fab_meaning.specs.Loading.{write_strobe_name, write_data_name}
use Rattle.fab_prim.specs.fab_meaning.proofs.Declared.{bits_of_name}
use Rattle.fab_model.specs.Tiles.{counted}
use Rattle.fab_gen_loader.specs.Machine.{Machine, Word}
use Rattle.fab_gen_loader.specs.Loader.{state_name, count_name, strobe_register_name, registers, processes, outputs, bits_at, machine_at, machine_next, RegisterTakes, TakesNext, IsLoader, address_register_name, row_register_name}
use Rattle.fab_gen_loader.specs.Expressions.{next_state, next_count, next_address, next_strobe, next_row, next_values, loader_module}
use Rattle.fab_gen_loader.proofs.Counted.{length-counted, get_counted}
use Rattle.fab_gen_loader.proofs.Digits.{digits_number}
use Rattle.fab_gen_loader.proofs.Ticks.{state_after, count_after, address_after, strobe_after, row_after}
use Rattle.fab_gen_loader.proofs.Values.{Shows, state_value, count_value, address_value, strobe_value, row_value}
use Rattle.fab_gen_loader.proofs.Widths.{state_width, count_width, address_width, row_width}

contains_counted : {X : Type 0} (n : ℕ) (f : ℕ → X) (i : ℕ) → i < n → Contains (counted n f) (f i)
contains_counted n f i within = (i, rw length-counted within, get_counted n f i (f i) within)

module _ (rows : ℕ) (few : rows ≤ 31) (text : List PlainModule) (path : Path) (now : Assignment) (stands : module_at text path ≡ Some (loader_module rows)) where
  abbrev names : List ℕ → List Bool
  names = names_at text now path

  abbrev write : Bool
  write = now (point path write_strobe_name 0)

  abbrev word : Word
  word = bits_at now path write_data_name 32

  abbrev state : List Bool
  state = bits_at now path state_name 2

  abbrev count : List Bool
  count = bits_at now path count_name 5

  abbrev address : List Bool
  address = bits_at now path address_register_name 32

  abbrev machine : Machine
  machine = machine_at now path rows

  shows : Shows names write word state count address
  shows = record {
    write_is = bits_of_name text now path (loader_module rows) write_strobe_name 1 stands refl;
    word_is = bits_of_name text now path (loader_module rows) write_data_name 32 stands refl;
    state_is = bits_of_name text now path (loader_module rows) state_name 2 stands (state_width rows (next_values rows));
    count_is = bits_of_name text now path (loader_module rows) count_name 5 stands (count_width rows (next_values rows));
    address_is = bits_of_name text now path (loader_module rows) address_register_name 32 stands (address_width rows (next_values rows));
    word_long = length_first_bits 32 (λ bit. now (point path write_data_name bit));
    state_long = refl;
    count_long = refl;
  }

  -- the process of a register stands in the module
  takes : (register : List ℕ) (next : PlainExpr) (bits : List Bool) → Contains (processes rows (next_values rows)) (clocked clock_name register next) →
      value names next ≡ bits → RegisterTakes text path now register bits
  takes register next bits there is = record {
    next = next;
    drives = λ bit. inr (record {
      path = path;
      module_here = loader_module rows;
      item = clocked clock_name register next;
      stands = stands;
      holds = Contains-append_right (registers rows) (processes rows (next_values rows) ++ outputs rows) (clocked clock_name register next)
          (Contains-append_left (processes rows (next_values rows)) (outputs rows) (clocked clock_name register next) there);
      drives = (refl, refl);
    });
    gives = is;
  }

  state_is : value names next_state ≡ digits 2 (machine_next now path rows).state
  state_is = state_value names write word state count address shows ∙ state_after rows machine word write state (sym (digits_number state))

  count_is : value names (next_count rows) ≡ digits 5 (machine_next now path rows).count
  count_is = count_value names write word state count address shows rows ∙ count_after rows machine word write count (sym (digits_number count))

  address_is : value names next_address ≡ (machine_next now path rows).address
  address_is = address_value names write word state count address shows ∙ address_after rows machine word write

  strobe_is : value names next_strobe ≡ (machine_next now path rows).strobe ∷ []
  strobe_is = strobe_value names write word state count address shows ∙ ap (λ strobe. strobe ∷ []) (strobe_after rows machine word write)

  row_is : (row : ℕ) → row < rows → value names (next_row rows row) ≡ get_or (machine_next now path rows).rows row []
  row_is row within =
      let kept : bits_at now path (row_register_name row) 32 ≡ get_or machine.rows row [] = sym (get_counted rows (λ r. bits_at now path (row_register_name r) 32) row [] within) in
      let before = bits_of_name text now path (loader_module rows) (row_register_name row) 32 stands (row_width rows (next_values rows) row within) ∙ kept in
      row_value names write word state count address shows rows row (get_or machine.rows row []) before (omega arith) ∙ row_after rows machine word write row within

  row_stands : (row : ℕ) → row < rows → Contains (processes rows (next_values rows)) (clocked clock_name (row_register_name row) (next_row rows row))
  row_stands row within =
      Contains-append_right
      (clocked clock_name state_name next_state ∷ clocked clock_name count_name (next_count rows)
      ∷ clocked clock_name address_register_name next_address ∷ clocked clock_name strobe_register_name next_strobe ∷ [])
      (counted rows (λ r. clocked clock_name (row_register_name r) (next_row rows r)))
      (clocked clock_name (row_register_name row) (next_row rows row))
      (contains_counted rows (λ r. clocked clock_name (row_register_name r) (next_row rows r)) row within)

  takes_next : TakesNext rows text path now
  takes_next = record {
    state = takes state_name next_state _ (0, omega arith, refl) state_is;
    count = takes count_name (next_count rows) _ (1, omega arith, refl) count_is;
    address = takes address_register_name next_address _ (2, omega arith, refl) address_is;
    strobe = takes strobe_register_name next_strobe _ (3, omega arith, refl) strobe_is;
    each_row = λ row within. takes (row_register_name row) (next_row rows row) _ (row_stands row within) (row_is row within);
  }

pub is_loader : (rows : ℕ) (m : PlainModule) → rows ≤ 31 → m ≡ loader_module rows → IsLoader rows m
is_loader rows m few is =
    subst (IsLoader rows) (sym is)
    (record { next = next_values rows; is = refl; steps = λ text path now stands. takes_next rows few text path now stands })
