-- In frames writing words takes the machine and the latches through the turns of their moments, and so to the configuration.
use Rattle.std.proofs.Common.{◌≡◌, ℕ, zero, suc, ◌+◌, ◌*◌, ◌<◌, Bool, true, false, List, [], ◌∷◌, length, refl, sym, ap, ◌∙◌, subst, arith, Some, All}
use Rattle.std.specs.List.{AllZip}
use Rattle.std.specs.Option.{option_and_then}
use Rattle.std.proofs.lemmas.List.Elements.{All-nil, All-cons, All-head, All-tail, All-map, All-contains}
use Rattle.std.proofs.lemmas.Option.{slice_get-get_or}
use Rattle.fab_bits.specs.Bits.{bit_number, number, digits, first_bits}
use Rattle.fab_syntax.specs.Plain.{PlainModule, part}
use Rattle.fab_meaning.specs.Points.{point, hold}
use Rattle.fab_meaning.specs.Settled.{Assignment, IsSettledOn}
use Rattle.fab_meaning.specs.Runs.{clock_name, Ticks, Moment, IsRunOn}
use Rattle.fab_meaning.specs.Loading.{IsLoading}
use Rattle.fab_drives_laws.specs.fab_model_mode_Mode_TheVariants as modes
use Rattle.fab_drives_laws.specs.fab_model_Tables.{HasTable}
use Rattle.fab_drives_laws.specs.fab_model_Tiles.{PlainTile, tile_bits}
use Rattle.fab_drives_laws.specs.fab_model_Grid.{PlainFabric, tile_at}
use Rattle.fab_drives_laws.specs.fab_model_Drive.{PlainBits}
use Rattle.fab_drives_laws.specs.fab_fabric_Fabric.{IsFabric}
use Rattle.fab_drives_laws.specs.fab_gen_tile_Names.{frame_data_name, frame_strobe_name, latch_name}
use Rattle.fab_drives_laws.specs.fab_gen_tile_ConfigModule.{config_module}
use Rattle.fab_drives_laws.specs.fab_gen_loader_Loader.{NextValues, loader_of, state_name, machine_at}
use Rattle.fab_drives_laws.specs.Points.{ShowsBits}
use Rattle.fab_drives_laws.specs.fab_model_mode_Mode.{Mode}
use Rattle.fab_drives_laws.specs.fab_fabric_text_defs_Mode.{text_mode}
use Rattle.fab_loading_laws.specs.fab_frames_Stream.{stream, placed_bit, bit_placed_at}
use Rattle.fab_loading_laws.specs.Latches.{IsWord, Turn, word, pause, other_clock, words_of, after_turn, after_turns, latch_shows, latch_after}
use Rattle.fab_loading_laws.specs.Streams.{stream_words, StreamsLoad, TicksKeepMachines}
use Rattle.fab_loading_laws.proofs.fab_frames_Placed.{placed_at}
use Rattle.fab_drives_laws.proofs.fab_tile_drives_laws_Driven.{declared_at}
use Rattle.fab_drives_laws.proofs.fab_tile_drives_laws_Latches.{latch_width}
use Rattle.fab_drives_laws.proofs.Lists.{all_of}
use Rattle.fab_drives_laws.proofs.Modules.{tile_of_types}
use Rattle.fab_drives_laws.proofs.Places.{in_grid}
use Rattle.fab_text_loads_laws.specs.Points.{loader_path, config_path, in_loader, in_configuration}
use Rattle.fab_text_loads_laws.specs.Loads.{IsTurn, Writes, LoaderWaits, LoaderRests, IsConfigured}
use Rattle.fab_text_loads_laws.proofs.Drivers.{latched_by}
use Rattle.fab_text_loads_laws.proofs.Loader.{HasLoader}
use Rattle.fab_text_loads_laws.proofs.Offered.{offered_whole}
use Rattle.fab_text_loads_laws.proofs.Named.{latch_there, config_stands, named_are_loading}
use Rattle.fab_text_loads_laws.proofs.Settled.{latch_place, latch_point, latch_is_shown}
use Rattle.fab_text_loads_laws.proofs.Ticks.{digits_long, held_is_machine, machine_same, word_ticks, quiet_ticks, machine_stays}
use Rattle.fab_text_loads_laws.proofs.InMode.{modes_agree}

-- ---- the loader rests

pub rests_in : (fabric : PlainFabric) {held : Assignment} → text_mode fabric ≡ modes.Frames → LoaderWaits held → LoaderRests (text_mode fabric) held
rests_in fabric {held} frames waits = subst (λ (m : Mode). LoaderRests m held) (sym frames) waits

pub loader_waits : (fabric : PlainFabric) → text_mode fabric ≡ modes.Frames → (bits : PlainBits) (held : Assignment) → IsConfigured fabric bits held →
    LoaderWaits held
loader_waits fabric frames bits held configured = subst (λ (m : Mode). LoaderRests m held) frames configured.rests

-- ---- what turns leave

-- a bit of a tile, whose latch has a place
pub record HasLatch (fabric : PlainFabric) (x y number : ℕ) : Type 0 where
  pub tile : PlainTile
  pub there : tile_at fabric x y ≡ Some tile
  pub few : number < tile_bits tile
  pub few_frames : (latch_place x y tile number).frame < 20
  pub few_bits : (latch_place x y tile number).bit < 32

-- the machine and the latches have gone through turns
record HasTaken (fabric : PlainFabric) (turns : List Turn) (held after : Assignment) : Type 0 where
  machine : machine_at after loader_path fabric.rows ≡ after_turns fabric.rows (machine_at held loader_path fabric.rows) turns
  latches : (x y number : ℕ) (latch : HasLatch fabric x y number) →
      after (latch_point x y number)
      ≡ latch_after fabric.rows (machine_at held loader_path fabric.rows) (latch_place x y latch.tile number) (held (latch_point x y number)) turns

-- a word is of 32 bits
abbrev IsWordTurn : Turn → Type 0
IsWordTurn (word offered) = IsWord offered
IsWordTurn pause = Unit {0}
IsWordTurn other_clock = Unit {0}

-- the words of turns are such
words_fit : (turns : List Turn) → All IsWord (words_of turns) → All IsWordTurn turns
words_fit [] long = All-nil IsWordTurn
words_fit (word offered ∷ turns) long =
    All-cons IsWordTurn (word offered) turns (All-head IsWord offered (words_of turns) long) (words_fit turns (All-tail IsWord offered (words_of turns) long))
words_fit (pause ∷ turns) long = All-cons IsWordTurn pause turns tt (words_fit turns long)
words_fit (other_clock ∷ turns) long = All-cons IsWordTurn other_clock turns tt (words_fit turns long)

module _ (fabric : PlainFabric) (next : NextValues) (text : List PlainModule) (has : HasLoader fabric next text) (is : IsFabric fabric) where
  abbrev rows : ℕ
  rows = fabric.rows

  table_of : (x y : ℕ) (tile : PlainTile) → tile_at fabric x y ≡ Some tile → HasTable tile
  table_of x y tile there = All-contains HasTable fabric.types tile is.tables (tile_of_types fabric x y tile there)

  -- each bit of a tile has such a latch
  pub has_latch : (x y : ℕ) (tile : PlainTile) (number : ℕ) → tile_at fabric x y ≡ Some tile → number < tile_bits tile → HasLatch fabric x y number
  has_latch x y tile number there few =
      let table = table_of x y tile there in
      let within : number < length tile.table = omega (arith, few, table.as_many) in
      let place = table.in_frames number (0, 0) within in
      record { tile = tile; there = there; few = few; few_frames = place.0; few_bits = place.1 }

  placed_there : (x y : ℕ) (tile : PlainTile) (number : ℕ) → tile_at fabric x y ≡ Some tile → number < tile_bits tile →
      bit_placed_at fabric x y (latch_place x y tile number).frame (latch_place x y tile number).bit ≡ Some number
  placed_there x y tile number there few =
      let table = table_of x y tile there in
      let within : number < length tile.table = omega (arith, few, table.as_many) in
      let place = latch_place x y tile number in
      ap (option_and_then (placed_bit place.frame place.bit)) there
      ∙ placed_at tile place.frame place.bit number table (slice_get-get_or tile.table number (0, 0) within)

  -- ---- latches

  module _ (x y number : ℕ) (latch : HasLatch fabric x y number) where
    pub latch_loads : IsLoading text (latch_point x y number)
    latch_loads =
        let few = latch.few in
        let some : 0 < tile_bits latch.tile = omega (arith, few) in
        named_are_loading fabric next text has (latch_point x y number) (in_configuration x y latch.tile latch.there refl)
        (declared_at text (config_path x y) (config_module modes.Frames latch.tile) (latch_name number) 0
        (config_stands fabric next text has x y latch.tile latch.there some)
        (omega (arith, latch_width modes.Frames latch.tile number few)))

    pub latch_now : (inputs held now : Assignment) → IsSettledOn (IsLoading text) text inputs held now →
        now (latch_point x y number) ≡ latch_shows (machine_at held loader_path rows) (latch_place x y latch.tile number) (held (latch_point x y number))
    latch_now inputs held now settled =
        let few = latch.few in
        latch_is_shown fabric next text has is inputs held now settled x y latch.tile latch.there (omega (arith, few)) number few latch.few_frames latch.few_bits

    -- a tick of any clock leaves the latch with what it shows
    pub latch_ticks : (clock : List ℕ) (held now after : Assignment) → Ticks (IsLoading text) text clock held now after → after (latch_point x y number) ≡ now (latch_point x y number)
    latch_ticks clock held now after ticks =
        let few = latch.few in
        let some : 0 < tile_bits latch.tile = omega (arith, few) in
        let place = latch_place x y latch.tile number in
        let gate = part frame_strobe_name place.frame place.frame in
        let data_value = part frame_data_name place.bit place.bit in
        ticks (latch_point x y number) (hold (config_path x y) gate data_value 0) latch_loads
        (latched_by text (config_path x y) (config_module modes.Frames latch.tile) (config_stands fabric next text has x y latch.tile latch.there some)
        (latch_name number) gate data_value 0
        (latch_there latch.tile number few))

  -- ---- a run

  module _ (keeps : TicksKeepMachines) where
    module _ (moment : Moment) (held now between : Assignment)
        (settled : IsSettledOn (IsLoading text) text moment.inputs held now) (ticks : Ticks (IsLoading text) text moment.clock held now between) where
      ticks_here : moment.clock ≡ clock_name → Ticks (IsLoading text) text clock_name held now between
      ticks_here clock = subst (λ clock. Ticks (IsLoading text) text clock held now between) clock ticks

      machine_turns : (turn : Turn) → IsWordTurn turn → IsTurn turn moment → machine_at between loader_path rows ≡ after_turn rows (machine_at held loader_path rows) turn
      machine_turns (word offered) long (clock, writes) =
          word_ticks fabric next text has is keeps moment.inputs held now between settled (ticks_here clock) offered writes long
      machine_turns pause long (clock, quiet) = quiet_ticks fabric next text has is keeps moment.inputs held now between settled (ticks_here clock) quiet
      machine_turns other_clock long other = machine_stays fabric next text has moment.clock other held now between ticks

      taken_one : (turn : Turn) (turns : List Turn) (after : Assignment) → IsWordTurn turn → IsTurn turn moment → HasTaken fabric turns between after → HasTaken fabric (turn ∷ turns) held after
      taken_one turn turns after long is_turn later =
          let steps = machine_turns turn long is_turn in
          record {
            machine = later.machine ∙ ap (λ machine. after_turns rows machine turns) steps;
            latches = λ x y number latch.
                let place = latch_place x y latch.tile number in
                let keeps_it : between (latch_point x y number) ≡ latch_shows (machine_at held loader_path rows) place (held (latch_point x y number)) =
                latch_ticks x y number latch moment.clock held now between ticks ∙ latch_now x y number latch moment.inputs held now settled in
                later.latches x y number latch
                ∙ (λ j. latch_after rows (steps j) place (keeps_it j) turns);
          }

    taken : (turns : List Turn) (moments : List Moment) (held after : Assignment) → All IsWordTurn turns → AllZip IsTurn turns moments → IsRunOn (IsLoading text) text moments held after →
        HasTaken fabric turns held after
    taken [] [] held after long are_turns run = record {
      machine = machine_same rows next after held (λ name bit listed few. run (point loader_path name bit)
          (named_are_loading fabric next text has (point loader_path name bit) (in_loader refl) (declared_at text loader_path (loader_of rows next) name bit has.stands few)));
      latches = λ x y number latch. run (latch_point x y number) (latch_loads x y number latch);
    }
    taken [] (moment ∷ moments) held after long are_turns run = absurd are_turns
    taken (turn ∷ turns) [] held after long are_turns run = absurd are_turns
    taken (turn ∷ turns) (moment ∷ moments) held after long are_turns (now, between, settled, low, ticks, rest) =
        taken_one moment held now between settled ticks turn turns after (All-head IsWordTurn turn turns long) are_turns.0
        (taken turns moments between after (All-tail IsWordTurn turn turns long) are_turns.1 rest)

    -- ---- the configuration

    zero_bits : (n : ℕ) (f : ℕ → Bool) → number (first_bits n f) ≡ 0 → (bit : ℕ) → bit < n → f bit ≡ false
    zero_bits zero f none bit few = absurd (omega (arith, few))
    zero_bits (suc n) f none zero few = elim (f 0) as (λ b. bit_number b + 2 * number (first_bits n (λ i. f (suc i))) ≡ 0 → b ≡ false) [
      | true ↦ λ sum. absurd (omega (arith, sum))
      | false ↦ λ sum. refl
    ] none
    zero_bits (suc n) f none (suc bit) few =
        let rest : number (first_bits n (λ i. f (suc i))) ≡ 0 = omega (arith, none) in
        zero_bits n (λ i. f (suc i)) rest bit (omega (arith, few))

    pub writing_configures : StreamsLoad → (bits : PlainBits) (moments : List Moment) (held after : Assignment) → Writes text (stream_words fabric bits) moments →
        IsRunOn (IsLoading text) text moments held after → IsConfigured fabric bits after
    unfolding has_latch
    writing_configures streams_load bits moments held after writes run =
        let written : words_of writes.turns ≡ stream_words fabric bits =
        writes.written ∙ offered_whole fabric text has.tiles has.frames (stream_words fabric bits) in
        let loaded =
        streams_load fabric bits (machine_at held loader_path rows) writes.turns (sym (modes_agree fabric) ∙ has.frames) is
        (held_is_machine rows held) written in
        let long : All IsWord (words_of writes.turns) =
        subst (All IsWord) (sym written) (All-map IsWord (digits 32) (stream fabric bits) (all_of (λ (n : ℕ). IsWord (digits 32 n)) (stream fabric bits) (digits_long 32))) in
        let through = taken writes.turns moments held after (words_fit writes.turns long) writes.each run in
        record {
          rests = rests_in fabric has.frames (record {
            state = zero_bits 2 (λ bit. after (point loader_path state_name bit)) (ap (λ machine. machine.state) through.machine ∙ loaded.state);
            strobe = ap (λ machine. machine.strobe) through.machine ∙ loaded.strobe;
          });
          bits_held = λ x y tile there number few.
              let latch = has_latch x y tile number there few in
              let grid = in_grid fabric x y tile there in
              through.latches x y number latch
              ∙ loaded.latches (latch_place x y tile number) number (held (latch_point x y number))
              (record { column = grid.0; row = grid.1; frame = latch.few_frames; bit = latch.few_bits }) (placed_there x y tile number there few);
        }

  -- a configured text shows its bits
  pub configured_shows : (bits : PlainBits) (inputs held now : Assignment) → IsConfigured fabric bits held → IsSettledOn (IsLoading text) text inputs held now → ShowsBits fabric bits now
  unfolding has_latch
  configured_shows bits inputs held now configured settled x y tile there number few =
      let latch = has_latch x y tile number there few in
      let place = latch_place x y tile number in
      let machine = machine_at held loader_path rows in
      latch_now x y number latch inputs held now settled
      ∙ ap (λ strobe. latch_shows (record machine { strobe = strobe }) place (held (latch_point x y number)))
      (loader_waits fabric has.frames bits held configured).strobe
      ∙ configured.bits_held x y tile there number few
