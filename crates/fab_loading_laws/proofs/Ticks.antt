-- What a tick with a word comes to in each state of the loader, and that ticks keep what registers can hold.
use Rattle.std.proofs.Common.{◌≡◌, ◌≢◌, ℕ, ◌+◌, ◌-◌, ◌<◌, ◌∙◌, Bool, true, false, [], length, get_or, nat_eq, refl, sym, subst, arith, inl, inr, if◌then◌else◌}
use Rattle.std.specs.List.{All}
use Rattle.std.proofs.lemmas.Bool.{cases_Bool, ne_eqb, eq-eqb}
use Rattle.std.proofs.lemmas.Bool.Decides.{eqb_tells}
use Rattle.std.proofs.lemmas.List.Elements.{All-get_or, All-from_get_or}
use Rattle.fab_bits.specs.Bits.{number}
use Rattle.fab_gen_loader.specs.Machine.{Machine, Word, wake_word, end_bit, take_waiting, take_address, take_row, tick, with_row}
use Rattle.fab_gen_loader.proofs.Counted.{length-counted, get_counted}
use Rattle.fab_loading_laws.specs.Latches.{IsWord, IsMachine}

module _ (rows : ℕ) (machine : Machine) (word : Word) where
  pub address_tick : machine.state ≡ 1 → tick rows machine true word ≡ take_address rows machine word
  address_tick is = let one : nat_eq machine.state 1 ≡ true = eq-eqb machine.state 1 is in rw one refl

  pub row_tick : machine.state ≡ 2 → tick rows machine true word ≡ take_row rows machine word
  row_tick is =
      let one : nat_eq machine.state 1 ≡ false = ne_eqb machine.state 1 (λ e. omega (arith, e)) in
      let two : nat_eq machine.state 2 ≡ true = eq-eqb machine.state 2 is in
      rw (one, two) refl

  pub waiting_tick : machine.state ≢ 1 → machine.state ≢ 2 → tick rows machine true word ≡ take_waiting machine word
  waiting_tick not_one not_two =
      let one : nat_eq machine.state 1 ≡ false = ne_eqb machine.state 1 not_one in
      let two : nat_eq machine.state 2 ≡ false = ne_eqb machine.state 2 not_two in
      rw (one, two) refl

  -- ---- the rows after a word

  abbrev row_after : ℕ → Word
  row_after row = if nat_eq machine.count (rows - row) then word else get_or machine.rows row []

  pub turn_row : (row : ℕ) → row < rows → row + machine.count ≡ rows → get_or (with_row rows machine word) row [] ≡ word
  turn_row row few turn =
      let here : nat_eq machine.count (rows - row) ≡ true = eq-eqb machine.count (rows - row) (omega arith) in
      get_counted rows row_after row [] few ∙ rw here refl

  pub other_row : (row : ℕ) → row < rows → row + machine.count ≢ rows → get_or (with_row rows machine word) row [] ≡ get_or machine.rows row []
  other_row row few turn =
      let elsewhere : nat_eq machine.count (rows - row) ≡ false = ne_eqb machine.count (rows - row) (λ e. turn (omega (arith, e))) in
      get_counted rows row_after row [] few ∙ rw elsewhere refl

  -- ---- what registers can hold

  row_is_word : IsMachine rows machine → IsWord word → (row : ℕ) → row < rows → IsWord (get_or (with_row rows machine word) row [])
  row_is_word is long row few =
      let before : IsWord (get_or machine.rows row []) = All-get_or IsWord machine.rows row [] (omega (arith, is.as_many)) is.words in
      elim (eqb_tells machine.count (rows - row)) [
        | inl here ↦ subst IsWord (sym (turn_row row few (omega (arith, here.1)))) long
        | inr elsewhere ↦ subst IsWord (sym (other_row row few (λ e. elsewhere.1 (omega (arith, e))))) before
      ]

  rows_are_words : IsMachine rows machine → IsWord word → All IsWord (with_row rows machine word)
  rows_are_words is long =
      All-from_get_or IsWord (with_row rows machine word) [] (λ row few. row_is_word is long row (omega (arith, few, length-counted rows row_after)))

  taken_address : rows < 32 → IsMachine rows machine → IsWord word → IsMachine rows (take_address rows machine word)
  taken_address few is long =
      elim (cases_Bool (get_or word end_bit false)) [
        | inl ends ↦ rw ends (record { state = omega arith; count = is.count; address = is.address; as_many = is.as_many; words = is.words })
        | inr goes ↦ rw goes (record { state = omega arith; count = few; address = long; as_many = is.as_many; words = is.words })
      ]

  taken_row : IsMachine rows machine → IsWord word → IsMachine rows (take_row rows machine word)
  taken_row is long =
      let many : length (with_row rows machine word) ≡ rows = length-counted rows row_after in
      elim (cases_Bool (nat_eq machine.count 1)) [
        | inl last ↦ rw last (record { state = omega arith; count = is.count; address = is.address; as_many = many; words = rows_are_words is long })
        | inr more ↦ rw more (record { state = omega arith; count = omega arith; address = is.address; as_many = many; words = rows_are_words is long })
      ]

  taken_waiting : IsMachine rows machine → IsMachine rows (take_waiting machine word)
  taken_waiting is =
      let state : (if nat_eq (number word) wake_word then 1 else 0) < 4
      = elim (nat_eq (number word) wake_word) as (λ b. (if b then 1 else 0) < 4) [ true ↦ omega arith | false ↦ omega arith ] in
      record { state = state; count = is.count; address = is.address; as_many = is.as_many; words = is.words }

  pub tick_keeps : (write : Bool) → rows < 32 → IsMachine rows machine → IsWord word → IsMachine rows (tick rows machine write word)
  tick_keeps false few is long = record { state = is.state; count = is.count; address = is.address; as_many = is.as_many; words = is.words }
  tick_keeps true few is long =
      elim (eqb_tells machine.state 1) [
        | inl address ↦ subst (IsMachine rows) (sym (address_tick address.1)) (taken_address few is long)
        | inr no_address ↦ elim (eqb_tells machine.state 2) [
          | inl row ↦ subst (IsMachine rows) (sym (row_tick row.1)) (taken_row is long)
          | inr waits ↦ subst (IsMachine rows) (sym (waiting_tick no_address.1 waits.1)) (taken_waiting is)
        ]
      ]
