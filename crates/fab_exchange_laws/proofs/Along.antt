-- The loader and the configuration latches of a text, while words of some columns come.
use Rattle.std.proofs.Common.{◌≡◌, ℕ, zero, suc, ◌+◌, ◌*◌, ◌<◌, Bool, true, false, List, [], ◌∷◌, ◌++◌, refl, sym, ap, ◌∙◌, subst, inl, inr, arith, Some, All, length, slice_index_or, if◌then◌else◌}
use Rattle.std.specs.Option.{option_and_then}
use Rattle.std.proofs.lemmas.Bool.{cases_Bool, false≢true}
use Rattle.std.proofs.lemmas.List.Elements.{All-head, All-tail, All-contains}
use Rattle.std.proofs.lemmas.Option.{slice_get-get_or}
use Rattle.fab_bits.specs.Bits.{bit_number, number, first_bits}
use Rattle.fab_bits.proofs.Numbers.{first_bits_same}
use Rattle.fab_syntax.specs.Plain.{PlainModule}
use Rattle.fab_meaning.specs.Value.{bit_at}
use Rattle.fab_meaning.specs.Points.{Point, point}
use Rattle.fab_meaning.specs.Settled.{Assignment, IsSettledOn}
use Rattle.fab_meaning.specs.Runs.{clock_name, Ticks, Moment}
use Rattle.fab_meaning.specs.Loading.{IsLoading}
use Rattle.fab_model.specs.Tables.{HasTable}
use Rattle.fab_model.specs.Tiles.{PlainTile, tile_bits}
use Rattle.fab_model.specs.Grid.{PlainFabric, tile_at}
use Rattle.fab_model.specs.Drive.{PlainBits}
use Rattle.fab_fabric.specs.Fabric.{IsFabric}
use Rattle.fab_frames.specs.Stream.{placed_bit, bit_placed_at}
use Rattle.fab_loading_laws.proofs.fab_frames_Placed.{placed_at}
use Rattle.fab_gen_loader.specs.Machine.{Machine, Word, tick}
use Rattle.fab_gen_loader.specs.Loader.{NextValues, loader_of, state_name, machine_at}
use Rattle.fab_loading_laws.specs.Latches.{IsWord, LatchPlace, is_open, latch_shows, Turn, word, pause, other_clock, words_of}
use Rattle.fab_loading_laws.specs.Streams.{TicksKeepMachines}
use Rattle.fab_loading_laws.proofs.Runs.{after_words}
use Rattle.fab_text_loads_laws.specs.fab_drives_laws_Points.{ShowsBits}
use Rattle.fab_text_loads_laws.specs.Points.{loader_path, in_loader}
use Rattle.fab_text_loads_laws.specs.Loads.{IsTurn, LoaderWaits, LoaderRests, IsConfigured}
use Rattle.fab_text_loads_laws.proofs.fab_drives_laws_Modules.{tile_of_types}
use Rattle.fab_text_loads_laws.proofs.fab_drives_laws_Places.{in_grid}
use Rattle.fab_text_loads_laws.proofs.fab_tile_drives_laws_Driven.{declared_at}
use Rattle.fab_text_loads_laws.proofs.Loader.{HasLoader}
use Rattle.fab_text_loads_laws.proofs.Named.{named_are_loading}
use Rattle.fab_text_loads_laws.proofs.Settled.{latch_place, latch_point}
use Rattle.fab_text_loads_laws.proofs.Ticks.{held_is_machine, machine_same, word_ticks, quiet_ticks, machine_stays}
use Rattle.fab_text_loads_laws.proofs.Runs.{HasLatch, has_latch, latch_loads, latch_now, latch_ticks}
use Rattle.fab_partial.specs.Columns.{lies_within, exchanged}
use Rattle.fab_exchange_laws.specs.Exchanges.{StrobesWithin, HoldsBeside, partial_words}
use Rattle.fab_exchange_laws.proofs.Within.{StaysWithin, Waits, rests, shut, at_first}
use Rattle.fab_exchange_laws.proofs.Words.{shows_behind, words_exchange}

-- ---- ticks without a word

abbrev low : Machine → Machine
low machine = record machine { strobe = false }

low_is_within : (first last : ℕ) (machine : Machine) → StrobesWithin first last machine → StrobesWithin first last (low machine)
low_is_within first last machine is = record { awaits = is.awaits; strobes = λ e. absurd (false≢true e) }

low_within : (rows first last : ℕ) (machine : Machine) (words : List Word) → StaysWithin rows first last machine words → StaysWithin rows first last (low machine) words
low_within rows first last machine [] is = low_is_within first last machine is
low_within rows first last machine (offered ∷ words) stays = (low_is_within first last machine stays.0, stays.1)

low_ends : (rows : ℕ) (machine : Machine) (words : List Word) → Waits (after_words rows machine words) → Waits (after_words rows (low machine) words)
low_ends rows machine [] ends = record { state = ends.state; strobe = refl }
low_ends rows machine (offered ∷ words) ends = ends

low_shows : (rows : ℕ) (place : LatchPlace) (machine : Machine) (held : Bool) (words : List Word) →
    shows_behind rows place (low machine) (latch_shows machine place held) words ≡ shows_behind rows place machine held words
low_shows rows place machine held [] = refl
low_shows rows place machine held (offered ∷ words) = refl

-- what a latch shows it goes on showing
shows_again : (machine : Machine) (place : LatchPlace) (held : Bool) → latch_shows machine place (latch_shows machine place held) ≡ latch_shows machine place held
shows_again machine place held =
    elim (cases_Bool (is_open machine place)) [
      | inl opened ↦ rw opened refl
      | inr closed ↦ rw closed refl
    ]

still_shows : (rows : ℕ) (place : LatchPlace) (machine : Machine) (held : Bool) (words : List Word) →
    shows_behind rows place machine (latch_shows machine place held) words ≡ shows_behind rows place machine held words
still_shows rows place machine held [] = shows_again machine place held
still_shows rows place machine held (offered ∷ words) =
    ap (λ h. shows_behind rows place (tick rows machine true offered) h words) (shows_again machine place held)

-- a number is 0 where each of its bits is
zero_bits : (n : ℕ) (f : ℕ → Bool) → number (first_bits n f) ≡ 0 → (bit : ℕ) → bit < n → f bit ≡ false
zero_bits zero f none bit few = absurd (omega (arith, few))
zero_bits (suc n) f none zero few = elim (f 0) as (λ b. bit_number b + 2 * number (first_bits n (λ i. f (suc i))) ≡ 0 → b ≡ false) [
  | true ↦ λ sum. absurd (omega (arith, sum))
  | false ↦ λ sum. refl
] none
zero_bits (suc n) f none (suc bit) few =
    let rest : number (first_bits n (λ i. f (suc i))) ≡ 0 = omega (arith, none) in
    zero_bits n (λ i. f (suc i)) rest bit (omega (arith, few))

-- ---- a text to which words are written

-- The text of a fabric, bits that latches of it hold, and the columns to which words bring other ones.
pub record Writing : Type 0 where
  pub fabric : PlainFabric
  pub text : List PlainModule
  pub next : NextValues
  pub has : HasLoader fabric next text
  pub is : IsFabric fabric
  pub keeps : TicksKeepMachines
  pub first : ℕ
  pub last : ℕ
  pub bits : PlainBits
  pub others : PlainBits

module _ (w : Writing) where
  abbrev machine_of : Assignment → Machine
  machine_of held = machine_at held loader_path w.fabric.rows

  abbrev Latch : (x y number : ℕ) → Type 0
  Latch x y number = HasLatch w.fabric x y number

  abbrev IsInside : ℕ → Type 0
  IsInside x = lies_within w.first w.last x ≡ true

  abbrev IsOutside : ℕ → Type 0
  IsOutside x = lies_within w.first w.last x ≡ false

  -- what the latches show, as configuration bits
  abbrev pub shown : Assignment → PlainBits
  shown now x y number = now (latch_point x y number)

  latch_of : (x y : ℕ) (tile : PlainTile) (number : ℕ) → tile_at w.fabric x y ≡ Some tile → number < tile_bits tile → Latch x y number
  latch_of = has_latch w.fabric w.next w.text w.has w.is

  -- Of the words these are to come. Latches of other columns hold their bits, and the loader strobes none of them until the last word; behind it
  -- the loader waits, and latches of these columns show the new bits.
  pub record Along (held : Assignment) (rest : List Word) : Type 0 where
    pub long : All IsWord rest
    pub within : StaysWithin w.fabric.rows w.first w.last (machine_of held) rest
    pub ends : Waits (after_words w.fabric.rows (machine_of held) rest)
    pub outer : (x y number : ℕ) → Latch x y number → IsOutside x → held (latch_point x y number) ≡ w.bits x y number
    pub inner : (x y number : ℕ) (latch : Latch x y number) → IsInside x →
        shows_behind w.fabric.rows (latch_place x y latch.tile number) (machine_of held) (held (latch_point x y number)) rest ≡ w.others x y number

  -- ---- what the latches show

  module _ (inputs held now : Assignment) (settled : IsSettledOn (IsLoading w.text) w.text inputs held now) (rest : List Word) (along : Along held rest) where
    outer_shows : (x y number : ℕ) → Latch x y number → IsOutside x → now (latch_point x y number) ≡ w.bits x y number
    outer_shows x y number latch outside =
        let place = latch_place x y latch.tile number in
        let machine = machine_of held in
        latch_now w.fabric w.next w.text w.has w.is x y number latch inputs held now settled
        ∙ ap (λ opened. if opened then bit_at (slice_index_or machine.rows place.y []) place.bit else held (latch_point x y number))
        (shut w.fabric.rows w.first w.last machine place (at_first w.fabric.rows w.first w.last machine rest along.within) outside)
        ∙ along.outer x y number latch outside

    -- in these columns whatever they show, and in the others their bits
    pub along_shows : ShowsBits w.fabric (exchanged (lies_within w.first w.last) w.bits (shown now)) now
    along_shows x y tile there number few =
        elim (cases_Bool (lies_within w.first w.last x)) [
          | inl inside ↦ rw inside refl
          | inr outside ↦ rw outside (outer_shows x y number (latch_of x y tile number there few) outside)
        ]

  -- ---- a turn

  module _ (moment : Moment) (held now between : Assignment) (settled : IsSettledOn (IsLoading w.text) w.text moment.inputs held now)
      (ticks : Ticks (IsLoading w.text) w.text moment.clock held now between) where
    ticks_here : moment.clock ≡ clock_name → Ticks (IsLoading w.text) w.text clock_name held now between
    ticks_here clock = subst (λ clock. Ticks (IsLoading w.text) w.text clock held now between) clock ticks

    -- a latch is left with what it shows
    left : (x y number : ℕ) → Latch x y number → between (latch_point x y number) ≡ now (latch_point x y number)
    left x y number latch = latch_ticks w.fabric w.next w.text w.has w.is x y number latch moment.clock held now between ticks

    left_shows : (x y number : ℕ) (latch : Latch x y number) →
        between (latch_point x y number) ≡ latch_shows (machine_of held) (latch_place x y latch.tile number) (held (latch_point x y number))
    left_shows x y number latch = left x y number latch ∙ latch_now w.fabric w.next w.text w.has w.is x y number latch moment.inputs held now settled

    after_word : (offered : Word) (rest : List Word) → IsTurn (word offered) moment → Along held (offered ∷ rest) → Along between rest
    after_word offered rest is_turn along =
        let steps : machine_of between ≡ tick w.fabric.rows (machine_of held) true offered =
        word_ticks w.fabric w.next w.text w.has w.is w.keeps moment.inputs held now between settled (ticks_here is_turn.0) offered is_turn.1 (All-head IsWord offered rest along.long) in
        record {
          long = All-tail IsWord offered rest along.long;
          within = subst (λ m. StaysWithin w.fabric.rows w.first w.last m rest) (sym steps) along.within.1;
          ends = subst (λ m. Waits (after_words w.fabric.rows m rest)) (sym steps) along.ends;
          outer = λ x y number latch outside. left x y number latch ∙ outer_shows moment.inputs held now settled (offered ∷ rest) along x y number latch outside;
          inner = λ x y number latch inside.
              (λ j. shows_behind w.fabric.rows (latch_place x y latch.tile number) (steps j) (left_shows x y number latch j) rest) ∙ along.inner x y number latch inside;
        }

    after_pause : (rest : List Word) → IsTurn pause moment → Along held rest → Along between rest
    after_pause rest is_turn along =
        let steps : machine_of between ≡ low (machine_of held) =
        quiet_ticks w.fabric w.next w.text w.has w.is w.keeps moment.inputs held now between settled (ticks_here is_turn.0) is_turn.1 in
        record {
          long = along.long;
          within = subst (λ m. StaysWithin w.fabric.rows w.first w.last m rest) (sym steps) (low_within w.fabric.rows w.first w.last (machine_of held) rest along.within);
          ends = subst (λ m. Waits (after_words w.fabric.rows m rest)) (sym steps) (low_ends w.fabric.rows (machine_of held) rest along.ends);
          outer = λ x y number latch outside. left x y number latch ∙ outer_shows moment.inputs held now settled rest along x y number latch outside;
          inner = λ x y number latch inside.
              (λ j. shows_behind w.fabric.rows (latch_place x y latch.tile number) (steps j) (left_shows x y number latch j) rest)
              ∙ low_shows w.fabric.rows (latch_place x y latch.tile number) (machine_of held) (held (latch_point x y number)) rest
              ∙ along.inner x y number latch inside;
        }

    after_other : (rest : List Word) → IsTurn other_clock moment → Along held rest → Along between rest
    after_other rest is_turn along =
        let steps : machine_of between ≡ machine_of held = machine_stays w.fabric w.next w.text w.has moment.clock is_turn held now between ticks in
        record {
          long = along.long;
          within = subst (λ m. StaysWithin w.fabric.rows w.first w.last m rest) (sym steps) along.within;
          ends = subst (λ m. Waits (after_words w.fabric.rows m rest)) (sym steps) along.ends;
          outer = λ x y number latch outside. left x y number latch ∙ outer_shows moment.inputs held now settled rest along x y number latch outside;
          inner = λ x y number latch inside.
              (λ j. shows_behind w.fabric.rows (latch_place x y latch.tile number) (steps j) (left_shows x y number latch j) rest)
              ∙ still_shows w.fabric.rows (latch_place x y latch.tile number) (machine_of held) (held (latch_point x y number)) rest
              ∙ along.inner x y number latch inside;
        }

    pub after_turn : (turn : Turn) (turns : List Turn) (rest : List Word) → IsTurn turn moment → Along held (words_of (turn ∷ turns) ++ rest) → Along between (words_of turns ++ rest)
    after_turn (word offered) turns rest is_turn along = after_word offered (words_of turns ++ rest) is_turn along
    after_turn pause turns rest is_turn along = after_pause (words_of turns ++ rest) is_turn along
    after_turn other_clock turns rest is_turn along = after_other (words_of turns ++ rest) is_turn along

  -- ---- at first

  placed_there : (x y number : ℕ) (latch : Latch x y number) →
      bit_placed_at w.fabric x y (latch_place x y latch.tile number).frame (latch_place x y latch.tile number).bit ≡ Some number
  placed_there x y number latch =
      let tile = latch.tile in
      let table : HasTable tile = All-contains HasTable w.fabric.types tile w.is.tables (tile_of_types w.fabric x y tile latch.there) in
      let few = latch.few in
      let within : number < length tile.table = omega (arith, few, table.as_many) in
      let place = latch_place x y tile number in
      ap (option_and_then (placed_bit place.frame place.bit)) latch.there
      ∙ placed_at tile place.frame place.bit number table (slice_get-get_or tile.table number (0, 0) within)

  pub begins_along : (held : Assignment) → HoldsBeside w.fabric w.first w.last w.bits held → Along held (partial_words w.fabric w.others w.first w.last)
  begins_along held holds =
      let machine = machine_of held in
      let made = held_is_machine w.fabric.rows held in
      let lead = words_exchange w.fabric w.first w.last w.others w.is in
      record {
        long = lead.long;
        within = lead.within machine made holds.loader;
        ends = lead.ends machine made;
        outer = λ x y number latch outside. holds.latches x y latch.tile latch.there outside number latch.few;
        inner = λ x y number latch inside.
            let grid = in_grid w.fabric x y latch.tile latch.there in
            lead.sets machine (latch_place x y latch.tile number) number (held (latch_point x y number)) made
            (record { column = grid.0; row = grid.1; frame = latch.few_frames; bit = latch.few_bits }) inside (placed_there x y number latch);
      }

  -- behind a bitstream that was loaded whole words may begin,
  pub configured_holds : (held : Assignment) → IsConfigured w.fabric w.bits held → HoldsBeside w.fabric w.first w.last w.bits held
  configured_holds held configured =
      let waits : LoaderWaits held = subst (λ mode. LoaderRests mode held) w.has.frames configured.rests in
      let state : (machine_of held).state ≡ 0 =
      ap number (first_bits_same 2 (λ bit. held (point loader_path state_name bit)) (λ bit. false) (λ bit few. waits.state bit few)) in
      record {
        loader = rests w.fabric.rows w.first w.last (machine_of held) (λ e. omega (arith, e, state)) waits.strobe;
        latches = λ x y tile there outside. configured.bits_held x y tile there;
      }

  -- and wherever they were broken off
  pub along_holds : (held : Assignment) (rest : List Word) → Along held rest → HoldsBeside w.fabric w.first w.last w.bits held
  along_holds held rest along = record {
    loader = at_first w.fabric.rows w.first w.last (machine_of held) rest along.within;
    latches = λ x y tile there outside number few. along.outer x y number (latch_of x y tile number there few) outside;
  }

  -- ---- at last

  pub ends_configured : (held : Assignment) → Along held [] → IsConfigured w.fabric (exchanged (lies_within w.first w.last) w.bits w.others) held
  ends_configured held along =
      let waits : LoaderWaits held = record { state = zero_bits 2 (λ bit. held (point loader_path state_name bit)) along.ends.state; strobe = along.ends.strobe } in
      record {
        rests = subst (λ mode. LoaderRests mode held) (sym w.has.frames) waits;
        bits_held = λ x y tile there number few.
            let latch = latch_of x y tile number there few in
            elim (cases_Bool (lies_within w.first w.last x)) [
              | inl inside ↦ rw inside (
                  ap (λ strobe. latch_shows (record (machine_of held) { strobe = strobe }) (latch_place x y latch.tile number) (held (latch_point x y number))) (sym along.ends.strobe)
                  ∙ along.inner x y number latch inside)
              | inr outside ↦ rw outside (along.outer x y number latch outside)
            ];
      }

  -- what the loading points hold decides it
  pub same_along : (held after : Assignment) (rest : List Word) → ((p : Point) → IsLoading w.text p → after p ≡ held p) → Along held rest → Along after rest
  same_along held after rest same along =
      let steps : machine_of after ≡ machine_of held =
      machine_same w.fabric.rows w.next after held (λ name bit listed few. same (point loader_path name bit)
      (named_are_loading w.fabric w.next w.text w.has (point loader_path name bit) (in_loader refl) (declared_at w.text loader_path (loader_of w.fabric.rows w.next) name bit w.has.stands few))) in
      let latch_same : (x y number : ℕ) → Latch x y number → after (latch_point x y number) ≡ held (latch_point x y number) =
      λ x y number latch. same (latch_point x y number) (latch_loads w.fabric w.next w.text w.has w.is x y number latch) in
      record {
        long = along.long;
        within = subst (λ m. StaysWithin w.fabric.rows w.first w.last m rest) (sym steps) along.within;
        ends = subst (λ m. Waits (after_words w.fabric.rows m rest)) (sym steps) along.ends;
        outer = λ x y number latch outside. latch_same x y number latch ∙ along.outer x y number latch outside;
        inner = λ x y number latch inside.
            (λ j. shows_behind w.fabric.rows (latch_place x y latch.tile number) (steps j) (latch_same x y number latch j) rest) ∙ along.inner x y number latch inside;
      }
