-- A loader that strobes no column but some, as words come.
use Rattle.std.proofs.Common.{◌≡◌, ◌≢◌, ℕ, zero, suc, ◌+◌, ◌%◌, ◌<◌, ◌≤◌, ◌∙◌, true, false, List, [], ◌∷◌, ◌++◌, map, replicate, get_or, nat_eq, refl, sym, ap, subst, arith, inl, inr}
use Rattle.std.proofs.lemmas.Bool.{cases_Bool, false≢true, ne_eqb}
use Rattle.std.proofs.lemmas.Bool.Decides.{eqb_tells}
use Rattle.std.proofs.lemmas.List.{map-append}
use Rattle.fab_bits.specs.Bits.{number, digits}
use Rattle.fab_gen_loader.specs.fab_model.specs.Tiles.{counted}
use Rattle.fab_gen_loader.specs.Machine.{Machine, Word, wake_word, end_bit, tick, with_row}
use Rattle.fab_frames.specs.Stream.{waiting_word, waiting_words, synchronizing_words}
use Rattle.fab_loading_laws.specs.Latches.{LatchPlace, is_open}
use Rattle.fab_loading_laws.proofs.Ticks.{address_tick, row_tick, waiting_tick}
use Rattle.fab_loading_laws.proofs.Runs.{after_words}
use Rattle.fab_loading_laws.proofs.Frames.{AwaitsRows, with_last_row, with_next_row, last_row, next_row, awaits_next, with_address, address_taken, awaits_all}
use Rattle.fab_loading_laws.proofs.Loads.{header_words, last_word}
use Rattle.fab_partial.specs.Columns.{lies_within}
use Rattle.fab_exchange_laws.specs.Exchanges.{named_column, StrobesWithin}

-- the loader strobes no other column before each of these words, and none behind the last
abbrev pub StaysWithin : (rows first last : ℕ) → Machine → List Word → Type 0
StaysWithin rows first last machine [] = StrobesWithin first last machine
StaysWithin rows first last machine (word ∷ words) = StrobesWithin first last machine × StaysWithin rows first last (tick rows machine true word) words

-- it waits with its strobe 0
pub record Waits (machine : Machine) : Type 0 where
  pub state : machine.state ≡ 0
  pub strobe : machine.strobe ≡ false

module _ (rows first last : ℕ) where
  abbrev Is : Machine → Type 0
  Is machine = StrobesWithin first last machine

  abbrev Stays : Machine → List Word → Type 0
  Stays machine words = StaysWithin rows first last machine words

  abbrev Has : ℕ → Type 0
  Has x = lies_within first last x ≡ true

  -- ---- such loaders

  -- the address names one of the columns,
  names : (machine : Machine) → Has (named_column machine.address) → Is machine
  names machine has = record { awaits = λ is. has; strobes = λ is. has }

  -- or the loader awaits no rows and its strobe is 0
  pub rests : (machine : Machine) → machine.state ≢ 2 → machine.strobe ≡ false → Is machine
  rests machine other low = record { awaits = λ is. absurd (other is); strobes = λ is. absurd (false≢true (sym low ∙ is)) }

  -- a latch of another column stays shut
  pub shut : (machine : Machine) (place : LatchPlace) → Is machine → lies_within first last place.x ≡ false → is_open machine place ≡ false
  shut machine place is outside =
      elim (cases_Bool machine.strobe) [
        | inl high ↦ (
            let other : named_column machine.address ≢ place.x = λ e. false≢true (sym outside ∙ ap (lies_within first last) (sym e) ∙ is.strobes high) in
            let differs : nat_eq (named_column machine.address) place.x ≡ false = ne_eqb (named_column machine.address) place.x other in
            rw (high, differs) refl)
        | inr low ↦ rw low refl
      ]

  -- ---- some words and others

  pub both_stay : (machine : Machine) (front back : List Word) → Stays machine front → Stays (after_words rows machine front) back → Stays machine (front ++ back)
  both_stay machine [] back one other = other
  both_stay machine (word ∷ front) back one other = (one.0, both_stay (tick rows machine true word) front back one.1 other)

  pub at_first : (machine : Machine) (words : List Word) → Stays machine words → Is machine
  at_first machine [] stays = stays
  at_first machine (word ∷ words) stays = stays.0

  pub at_last : (machine : Machine) (words : List Word) → Stays machine words → Is (after_words rows machine words)
  at_last machine [] stays = stays
  at_last machine (word ∷ words) stays = at_last (tick rows machine true word) words stays.1

  -- ---- waiting words

  module _ (word : Word) (ends : get_or word end_bit false ≡ true) (sleeps : nat_eq (number word) wake_word ≡ false) where
    abbrev next : Machine → Machine
    next machine = tick rows machine true word

    abbrev waiting : Machine → Machine
    waiting machine = record machine { state = 0; strobe = false }

    waits_is : (machine : Machine) → Waits (waiting machine)
    waits_is machine = record { state = refl; strobe = refl }

    rests_is : (machine : Machine) → Is (waiting machine)
    rests_is machine = rests (waiting machine) (λ e. omega (arith, e)) refl

    address_waits : (machine : Machine) → machine.state ≡ 1 → next machine ≡ waiting machine
    address_waits machine is = address_tick rows machine word is ∙ rw ends refl

    waiting_waits : (machine : Machine) → machine.state ≢ 1 → machine.state ≢ 2 → next machine ≡ waiting machine
    waiting_waits machine not_one not_two = waiting_tick rows machine word not_one not_two ∙ rw sleeps refl

    -- as the words of rows they go to these columns
    rows_within : (machine : Machine) → machine.state ≡ 2 → Is machine → Is (next machine)
    rows_within machine two is =
        elim (eqb_tells machine.count 1) [
          | inl one ↦ (
              let to : next machine ≡ record machine { state = 1; strobe = true; rows = with_row rows machine word } = row_tick rows machine word two ∙ rw one.0 refl in
              subst Is (sym to) (names (record machine { state = 1; strobe = true; rows = with_row rows machine word }) (is.awaits two)))
          | inr more ↦ (
              let to : next machine ≡ record machine { state = 2; count = (machine.count + 31) % 32; strobe = false; rows = with_row rows machine word }
              = row_tick rows machine word two ∙ rw more.0 refl in
              subst Is (sym to) (names (record machine { state = 2; count = (machine.count + 31) % 32; strobe = false; rows = with_row rows machine word }) (is.awaits two)))
        ]

    next_within : (machine : Machine) → Is machine → Is (next machine)
    next_within machine is =
        elim (eqb_tells machine.state 1) [
          | inl one ↦ subst Is (sym (address_waits machine one.1)) (rests_is machine)
          | inr not_one ↦ elim (eqb_tells machine.state 2) [
            | inl two ↦ rows_within machine two.1 is
            | inr not_two ↦ subst Is (sym (waiting_waits machine not_one.1 not_two.1)) (rests_is machine)
          ]
        ]

    each_within : (n : ℕ) (machine : Machine) → Is machine → Stays machine (replicate n word)
    each_within zero machine is = is
    each_within (suc n) machine is = (is, each_within n (next machine) (next_within machine is))

    -- ---- they end the rows, and then the loader waits

    waits_on : (n : ℕ) (machine : Machine) → Waits machine → Waits (after_words rows machine (replicate n word))
    waits_on zero machine waits = waits
    waits_on (suc n) machine waits =
        let to = waiting_waits machine (λ e. omega (arith, e, waits.state)) (λ e. omega (arith, e, waits.state)) in
        waits_on n (next machine) (subst Waits (sym to) (waits_is machine))

    address_ends : (n : ℕ) (machine : Machine) → 1 ≤ n → machine.state ≡ 1 → Waits (after_words rows machine (replicate n word))
    address_ends zero machine some is = absurd (omega (arith, some))
    address_ends (suc n) machine some is = waits_on n (next machine) (subst Waits (sym (address_waits machine is)) (waits_is machine))

    -- of so many rows that are to come
    rows_end : (left n : ℕ) (machine : Machine) → left + 2 ≤ n → machine.state ≡ 2 → machine.count ≡ suc left → left < 31 → Waits (after_words rows machine (replicate n word))
    rows_end left zero machine enough two is few = absurd (omega (arith, enough))
    rows_end zero (suc n) machine enough two is few =
        let one : nat_eq machine.count 1 ≡ true = rw is refl in
        let to : next machine ≡ record machine { state = 1; strobe = true; rows = with_row rows machine word } = row_tick rows machine word two ∙ rw one refl in
        address_ends n (next machine) (omega (arith, enough)) (ap (λ (m : Machine). m.state) to)
    rows_end (suc left) (suc n) machine enough two is few =
        let more : nat_eq machine.count 1 ≡ false = ne_eqb machine.count 1 (λ e. omega (arith, e, is)) in
        let to : next machine ≡ record machine { state = 2; count = (machine.count + 31) % 32; strobe = false; rows = with_row rows machine word }
        = row_tick rows machine word two ∙ rw more refl in
        rows_end left n (next machine) (omega (arith, enough)) (ap (λ (m : Machine). m.state) to) (ap (λ (m : Machine). m.count) to ∙ omega (arith, is, few)) (omega (arith, few))

    -- a count of 0 wraps to 31
    all_rows_end : (count : ℕ) (machine : Machine) → machine.count ≡ count → count < 32 → machine.state ≡ 2 → Waits (after_words rows machine (replicate 33 word))
    all_rows_end zero machine is few two =
        let more : nat_eq machine.count 1 ≡ false = ne_eqb machine.count 1 (λ e. omega (arith, e, is)) in
        let to : next machine ≡ record machine { state = 2; count = (machine.count + 31) % 32; strobe = false; rows = with_row rows machine word }
        = row_tick rows machine word two ∙ rw more refl in
        rows_end 30 32 (next machine) (omega arith) (ap (λ (m : Machine). m.state) to) (ap (λ (m : Machine). m.count) to ∙ omega (arith, is)) (omega arith)
    all_rows_end (suc left) machine is few two = rows_end left 33 machine (omega (arith, few)) two is (omega (arith, few))

    all_end : (machine : Machine) → machine.count < 32 → Waits (after_words rows machine (replicate 33 word))
    all_end machine few =
        elim (eqb_tells machine.state 1) [
          | inl one ↦ address_ends 33 machine (omega arith) one.1
          | inr not_one ↦ elim (eqb_tells machine.state 2) [
            | inl two ↦ all_rows_end machine.count machine refl few two.1
            | inr not_two ↦ waits_on 32 (next machine) (subst Waits (sym (waiting_waits machine not_one.1 not_two.1)) (waits_is machine))
          ]
        ]

  map_replicate : (n word : ℕ) → map (digits 32) (replicate n word) ≡ replicate n (digits 32 word)
  map_replicate zero word = refl
  map_replicate (suc n) word = ap (λ words. digits 32 word ∷ words) (map_replicate n word)

  -- ---- the header

  wakes_within : (machine : Machine) → Waits machine → Stays machine (map (digits 32) synchronizing_words)
  wakes_within machine waits =
      let low : Machine = record machine { state = 0; strobe = false } in
      let woken : Machine = record machine { state = 1; strobe = false } in
      let to : tick rows machine true (digits 32 11206401) ≡ low =
      waiting_tick rows machine (digits 32 11206401) (λ e. omega (arith, e, waits.state)) (λ e. omega (arith, e, waits.state)) in
      let still : Is low = rests low (λ e. omega (arith, e)) refl in (
        rests machine (λ e. omega (arith, e, waits.state)) waits.strobe,
        subst (λ m. Stays m (map (digits 32) (1 ∷ 0 ∷ 0 ∷ wake_word ∷ []))) (sym to)
            (still, (still, (still, (still, rests woken (λ e. omega (arith, e)) refl)))),
      )

  pub header_within : (machine : Machine) → machine.count < 32 → Is machine → Stays machine header_words
  unfolding waiting_words
  header_within machine few is =
      let word = digits 32 waiting_word in
      let words : map (digits 32) waiting_words ≡ replicate 33 word = map_replicate 33 waiting_word in
      let front : Stays machine (map (digits 32) waiting_words) = subst (Stays machine) (sym words) (each_within word refl refl 33 machine is) in
      let waits : Waits (after_words rows machine (map (digits 32) waiting_words)) =
      subst (λ ws. Waits (after_words rows machine ws)) (sym words) (all_end word refl refl machine few) in
      subst (Stays machine) (sym (map-append (digits 32) waiting_words synchronizing_words))
      (both_stay machine (map (digits 32) waiting_words) (map (digits 32) synchronizing_words) front
      (wakes_within (after_words rows machine (map (digits 32) waiting_words)) waits))

  pub last_within : (machine : Machine) → machine.state ≡ 1 → Is machine → Stays machine (last_word ∷ [])
  last_within machine one is =
      let to : tick rows machine true last_word ≡ record machine { state = 0; strobe = false } = address_tick rows machine last_word one in
      (is, subst Is (sym to) (rests (record machine { state = 0; strobe = false }) (λ e. omega (arith, e)) refl))

  -- ---- a frame of one of the columns

  rows_stay : (left : ℕ) (words : ℕ → Word) (machine : Machine) → rows < 32 → 1 ≤ left → left ≤ rows → AwaitsRows left machine → Has (named_column machine.address) →
      Stays machine (counted left words)
  unfolding counted
  rows_stay zero words machine few some within awaits has = absurd (omega arith)
  rows_stay (suc zero) words machine few some within awaits has =
      (names machine has, subst Is (sym (last_row rows machine (words 0) awaits)) (names (with_last_row rows machine (words 0)) has))
  rows_stay (suc (suc left)) words machine few some within awaits has =
      let more = λ (place : ℕ). words (suc place) in
      let next = with_next_row rows machine (words 0) in (
        names machine has,
        subst (λ m. Stays m (counted (suc left) more)) (sym (next_row rows machine (words 0) left awaits))
            (rows_stay (suc left) more next few (omega arith) (omega arith) (awaits_next rows machine (words 0) left few within awaits) has),
      )

  pub frame_within : (few : rows < 32) (some : 1 ≤ rows) (machine : Machine) → machine.state ≡ 1 → Is machine → (address : Word) → get_or address end_bit false ≡ false →
      Has (named_column address) → (words : ℕ → Word) → Stays machine (address ∷ counted rows words)
  frame_within few some machine one is address goes_on has words = (
    is,
    subst (λ m. Stays m (counted rows words)) (sym (address_taken rows few some machine one address goes_on words))
        (rows_stay rows words (with_address rows machine address) few some (omega arith) (awaits_all rows few some machine one address goes_on words) has),
  )
