-- The values of the loader's expressions.
use Rattle.std.proofs.Common.{◌≡◌, ℕ, ◌+◌, ◌-◌, ◌^◌, ◌<◌, Bool, false, not, ◌&&◌, List, [], ◌∷◌, length, get_or, drop, take, map, nat_eq, refl, sym, ap, ◌∙◌, arith, drop-cons, if◌then◌else◌}
use Rattle.fab_bits.specs.Bits.{number, digits, same_bits, each_bit}
use Rattle.fab_bits.proofs.Numbers.{same_bits_digits}
use Rattle.fab_syntax.specs.Plain.{PlainExpr, variable, complement, operation, conditional}
use Rattle.fab_syntax.specs.declared.tree.Op.TheVariants.{Minus}
use Rattle.fab_prim.specs.fab_meaning.specs.Value.{value, bit_at}
use Rattle.fab_prim.specs.fab_meaning.specs.Loading.{write_strobe_name, write_data_name}
use Rattle.fab_gen_loader.specs.Machine.{wake_word, end_bit}
use Rattle.fab_gen_loader.specs.Loader.{state_name, count_name, address_register_name, row_register_name}
use Rattle.fab_gen_loader.specs.Expressions.{number_at, equals, both, takes_in, ends, rows_left, by_state, next_state, next_count, next_address, next_strobe, next_row}

module _ (names : List ℕ → List Bool) where
  chosen : (c a b : PlainExpr) (test : Bool) (first second : List Bool) → value names c ≡ test ∷ [] → value names a ≡ first → value names b ≡ second →
      value names (conditional c a b) ≡ (if test then first else second)
  chosen c a b test first second tested one other = λ j. if bit_at (tested j) 0 then one j else other j

  equals_value : (name : List ℕ) (width n : ℕ) (bits : List Bool) → names name ≡ bits → length bits ≡ width → n < 2 ^ width →
      value names (equals name width n) ≡ nat_eq (number bits) n ∷ []
  equals_value name width n bits is wide small =
      let inside : n < 2 ^ length bits = rw wide small in
      (λ j. same_bits (is j) (digits (sym wide j) n) ∷ []) ∙ ap (λ same. same ∷ []) (same_bits_digits bits n inside)

  both_value : (a b : PlainExpr) (first second : Bool) → value names a ≡ first ∷ [] → value names b ≡ second ∷ [] →
      value names (both a b) ≡ (first && second) ∷ []
  both_value a b first second one other = λ j. each_bit (λ x y. x && y) (one j) (other j)

-- what the loader's names show
pub record Shows (names : List ℕ → List Bool) (write : Bool) (word state count address : List Bool) : Type 0 where
  pub write_is : names write_strobe_name ≡ write ∷ []
  pub word_is : names write_data_name ≡ word
  pub state_is : names state_name ≡ state
  pub count_is : names count_name ≡ count
  pub address_is : names address_register_name ≡ address
  pub word_long : length word ≡ 32
  pub state_long : length state ≡ 2
  pub count_long : length count ≡ 5

module _ (names : List ℕ → List Bool) (write : Bool) (word state count address : List Bool) (shows : Shows names write word state count address) where
  in_state : (n : ℕ) → n < 4 → value names (equals state_name 2 n) ≡ nat_eq (number state) n ∷ []
  in_state n small = equals_value names state_name 2 n state shows.state_is shows.state_long small

  left : (n : ℕ) → n < 32 → value names (rows_left n) ≡ nat_eq (number count) n ∷ []
  left n small = equals_value names count_name 5 n count shows.count_is shows.count_long small

  wakes : value names (equals write_data_name 32 wake_word) ≡ nat_eq (number word) wake_word ∷ []
  wakes = equals_value names write_data_name 32 wake_word word shows.word_is shows.word_long (omega arith)

  ends_value : value names ends ≡ get_or word end_bit false ∷ []
  ends_value =
      let long = shows.word_long in
      let inside : end_bit < length word = omega (arith, long) in
      ap (λ bits. take 1 (drop 20 bits)) shows.word_is ∙ ap (take 1) (drop-cons word 20 false inside)

  comes_in : (n : ℕ) → n < 4 → value names (takes_in n) ≡ (write && nat_eq (number state) n) ∷ []
  comes_in n small = both_value names (variable write_strobe_name) (equals state_name 2 n) write _ shows.write_is (in_state n small)

  by_state_value : (a r w i : PlainExpr) (address_bits row_bits waiting_bits idle_bits : List Bool) → value names a ≡ address_bits → value names r ≡ row_bits →
      value names w ≡ waiting_bits → value names i ≡ idle_bits →
      value names (by_state a r w i)
      ≡ (if write then (if nat_eq (number state) 1 then address_bits else (if nat_eq (number state) 2 then row_bits else waiting_bits)) else idle_bits)
  by_state_value a r w i address_bits row_bits waiting_bits idle_bits a_is r_is w_is i_is =
      let other = chosen names (equals state_name 2 2) r w (nat_eq (number state) 2) row_bits waiting_bits (in_state 2 (omega arith)) r_is w_is in
      let taken = chosen names (equals state_name 2 1) a (conditional (equals state_name 2 2) r w) (nat_eq (number state) 1) address_bits _ (in_state 1 (omega arith)) a_is other in
      chosen names (variable write_strobe_name) (conditional (equals state_name 2 1) a (conditional (equals state_name 2 2) r w)) i write _ idle_bits shows.write_is taken i_is

  pub state_value : value names next_state
      ≡ (if write
      then (if nat_eq (number state) 1
      then (if get_or word end_bit false then digits 2 0 else digits 2 2)
      else (if nat_eq (number state) 2
      then (if nat_eq (number count) 1 then digits 2 1 else digits 2 2)
      else (if nat_eq (number word) wake_word then digits 2 1 else digits 2 0)))
      else state)
  state_value =
      by_state_value
      (conditional ends (number_at 2 0) (number_at 2 2))
      (conditional (rows_left 1) (number_at 2 1) (number_at 2 2))
      (conditional (equals write_data_name 32 wake_word) (number_at 2 1) (number_at 2 0))
      (variable state_name) _ _ _ state
      (chosen names ends (number_at 2 0) (number_at 2 2) (get_or word end_bit false) (digits 2 0) (digits 2 2) ends_value refl refl)
      (chosen names (rows_left 1) (number_at 2 1) (number_at 2 2) (nat_eq (number count) 1) (digits 2 1) (digits 2 2) (left 1 (omega arith)) refl refl)
      (chosen names (equals write_data_name 32 wake_word) (number_at 2 1) (number_at 2 0) (nat_eq (number word) wake_word) (digits 2 1) (digits 2 0) wakes refl refl)
      shows.state_is

  -- the difference wraps at the width of the count
  less : value names (operation Minus (variable count_name) (number_at 5 1)) ≡ digits 5 (number count + 32 - 1)
  less =
      ap (λ bits. digits (length bits) (number bits + 2 ^ length bits - 1)) shows.count_is
      ∙ ap (λ width. digits width (number count + 2 ^ width - 1)) shows.count_long

  pub count_value : (rows : ℕ) → value names (next_count rows)
      ≡ (if write
      then (if nat_eq (number state) 1
      then (if get_or word end_bit false then count else digits 5 rows)
      else (if nat_eq (number state) 2
      then (if nat_eq (number count) 1 then count else digits 5 (number count + 32 - 1))
      else count))
      else count)
  count_value rows =
      by_state_value
      (conditional ends (variable count_name) (number_at 5 rows))
      (conditional (rows_left 1) (variable count_name) (operation Minus (variable count_name) (number_at 5 1)))
      (variable count_name) (variable count_name) _ _ count count
      (chosen names ends (variable count_name) (number_at 5 rows) (get_or word end_bit false) count (digits 5 rows) ends_value shows.count_is refl)
      (chosen names (rows_left 1) (variable count_name) (operation Minus (variable count_name) (number_at 5 1)) (nat_eq (number count) 1) count _ (left 1 (omega arith)) shows.count_is less)
      shows.count_is shows.count_is

  pub address_value : value names next_address
      ≡ (if (write && nat_eq (number state) 1) && not (get_or word end_bit false) then word else address)
  address_value =
      chosen names (both (takes_in 1) (complement ends)) (variable write_data_name) (variable address_register_name) _ word address
      (both_value names (takes_in 1) (complement ends) _ (not (get_or word end_bit false)) (comes_in 1 (omega arith)) (λ j. map not (ends_value j)))
      shows.word_is shows.address_is

  pub strobe_value : value names next_strobe ≡ ((write && nat_eq (number state) 2) && nat_eq (number count) 1) ∷ []
  strobe_value = both_value names (takes_in 2) (rows_left 1) _ _ (comes_in 2 (omega arith)) (left 1 (omega arith))

  pub row_value : (rows row : ℕ) (before : List Bool) → names (row_register_name row) ≡ before → rows - row < 32 →
      value names (next_row rows row) ≡ (if (write && nat_eq (number state) 2) && nat_eq (number count) (rows - row) then word else before)
  row_value rows row before is small =
      chosen names (both (takes_in 2) (rows_left (rows - row))) (variable write_data_name) (variable (row_register_name row)) _ word before
      (both_value names (takes_in 2) (rows_left (rows - row)) _ _ (comes_in 2 (omega arith)) (left (rows - row) small))
      shows.word_is is
