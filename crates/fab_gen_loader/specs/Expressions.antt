-- The expressions of the loader's processes, as an engineer writes them. R is the number of rows.
use Rattle.std.specs.Prelude.{ℕ, ◌-◌, List}
use Rattle.fab_bits.specs.Bits.{digits}
use Rattle.fab_syntax.specs.declared.tree.Op.TheVariants.{And, Equal, Minus}
use Rattle.fab_syntax.specs.Plain.{PlainExpr, PlainModule, constant, variable, part, complement, operation, conditional}
use Rattle.fab_prim.specs.fab_meaning.specs.Loading.{write_strobe_name, write_data_name}
use Rattle.fab_gen_loader.specs.Machine.{wake_word, end_bit}
use Rattle.fab_gen_loader.specs.Loader.{NextValues, state_name, count_name, loader_of, address_register_name, row_register_name}

-- a number at a width, as 5'b00001
abbrev pub number_at : (width n : ℕ) → PlainExpr
number_at width n = constant (digits width n)

-- whether a name of this width has a number
abbrev pub equals : (name : List ℕ) (width n : ℕ) → PlainExpr
equals name width n = operation Equal (variable name) (number_at width n)

abbrev pub both : (first second : PlainExpr) → PlainExpr
both first second = operation And first second

-- a word comes in this state
abbrev pub takes_in : (state : ℕ) → PlainExpr
takes_in state = both (variable write_strobe_name) (equals state_name 2 state)

-- WriteData[20]
abbrev pub ends : PlainExpr
ends = part write_data_name end_bit end_bit

-- so many rows are to come
abbrev pub rows_left : (n : ℕ) → PlainExpr
rows_left n = equals count_name 5 n

-- what a register takes with a word in the state of addresses, in that of rows and while the loader waits, and what without a word
abbrev pub by_state : (address row waiting idle : PlainExpr) → PlainExpr
by_state address row waiting idle =
    conditional (variable write_strobe_name)
    (conditional (equals state_name 2 1) address (conditional (equals state_name 2 2) row waiting))
    idle

abbrev pub next_state : PlainExpr
next_state =
    by_state
    (conditional ends (number_at 2 0) (number_at 2 2))
    (conditional (rows_left 1) (number_at 2 1) (number_at 2 2))
    (conditional (equals write_data_name 32 wake_word) (number_at 2 1) (number_at 2 0))
    (variable state_name)

abbrev pub next_count : (rows : ℕ) → PlainExpr
next_count rows =
    by_state
    (conditional ends (variable count_name) (number_at 5 rows))
    (conditional (rows_left 1) (variable count_name) (operation Minus (variable count_name) (number_at 5 1)))
    (variable count_name)
    (variable count_name)

-- ((WriteStrobe & (state == 2'b01)) & (~WriteData[20])) ? WriteData : address
abbrev pub next_address : PlainExpr
next_address = conditional (both (takes_in 1) (complement ends)) (variable write_data_name) (variable address_register_name)

-- (WriteStrobe & (state == 2'b10)) & (count == 5'b00001)
abbrev pub next_strobe : PlainExpr
next_strobe = both (takes_in 2) (rows_left 1)

-- the row whose turn it is takes the word: ((WriteStrobe & (state == 2'b10)) & (count == R - row)) ? WriteData : row
abbrev pub next_row : (rows row : ℕ) → PlainExpr
next_row rows row = conditional (both (takes_in 2) (rows_left (rows - row))) (variable write_data_name) (variable (row_register_name row))

abbrev pub next_values : (rows : ℕ) → NextValues
next_values rows = record {
  state = next_state;
  count = next_count rows;
  address = next_address;
  strobe = next_strobe;
  row = next_row rows;
}

abbrev pub loader_module : (rows : ℕ) → PlainModule
loader_module rows = loader_of rows (next_values rows)
