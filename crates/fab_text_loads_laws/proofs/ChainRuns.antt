-- In a chain writing words moves its bits on, one at a tick, and so to the configuration. Without words they stay.
use Rattle.std.proofs.Common.{◌≡◌, ℕ, ◌<◌, Bool, true, false, cond, List, [], ◌∷◌, map, refl, sym, ap, ◌∙◌, subst, inl, inr, arith, Some, All, ◌≢◌}
use Rattle.std.specs.List.{AllZip}
use Rattle.std.specs.Str.{bytes_eq}
use Rattle.std.proofs.lemmas.Bool.{cases_Bool}
use Rattle.std.proofs.lemmas.Slice.Eq.{bytes_eq-Decides}
use Rattle.std.proofs.lemmas.List.Elements.{All-weaker, All-contains}
use Rattle.fab_syntax.specs.Plain.{PlainModule}
use Rattle.fab_meaning.specs.Points.{Point, point}
use Rattle.fab_meaning.specs.Settled.{Assignment, IsSettledOn}
use Rattle.fab_meaning.specs.Reads.{is_declared}
use Rattle.fab_meaning.specs.Runs.{clock_name, Ticks, Moment, IsRunOn}
use Rattle.fab_meaning.specs.Loading.{IsLoading, write_strobe_name, write_data_name}
use Rattle.fab_meaning.proofs.Dependence.{same_name}
use Rattle.fab_drives_laws.specs.fab_model_mode_Mode.{Mode}
use Rattle.fab_drives_laws.specs.fab_model_mode_Mode_TheVariants as modes
use Rattle.fab_drives_laws.specs.fab_model_Tiles.{PlainTile, tile_bits}
use Rattle.fab_drives_laws.specs.fab_model_Grid.{PlainFabric, tile_at}
use Rattle.fab_drives_laws.specs.fab_model_Drive.{PlainBits}
use Rattle.fab_drives_laws.specs.fab_fabric_Fabric.{IsFabric}
use Rattle.fab_drives_laws.specs.fab_gen_tile_Names.{latch_name}
use Rattle.fab_drives_laws.specs.fab_gen_tile_ConfigModule.{config_module}
use Rattle.fab_drives_laws.specs.fab_fabric_text_defs_Chain.{chain_source}
use Rattle.fab_drives_laws.specs.fab_fabric_text_defs_Mode.{text_mode}
use Rattle.fab_drives_laws.specs.fab_fabric_text_defs_Places.{PlacedTile, placed_tiles}
use Rattle.fab_drives_laws.specs.Points.{ShowsBits}
use Rattle.fab_loading_laws.specs.Chain.{shifted, after_bits, TilesAreOneChain, stream_bits, ChainLoads}
use Rattle.fab_loading_laws.specs.Latches.{Turn, word, pause, other_clock, words_of}
use Rattle.fab_loading_laws.specs.Streams.{stream_words}
use Rattle.fab_drives_laws.proofs.fab_tile_drives_laws_Driven.{declared_at}
use Rattle.fab_drives_laws.proofs.fab_tile_drives_laws_Latches.{latch_width}
use Rattle.fab_drives_laws.proofs.Places.{placed_tile, tile_is_placed, IsThere, all_placed}
use Rattle.fab_text_loads_laws.specs.Points.{config_path, in_configuration}
use Rattle.fab_text_loads_laws.specs.Loads.{IsQuiet, WritesWord, IsTurn, Writes, LoaderRests, IsConfigured}
use Rattle.fab_text_loads_laws.proofs.ChainLists.{behind, counted_same, counted_apart, shifted_counted, tile_values, all_values, flat_same, values_are, tiles_same}
use Rattle.fab_text_loads_laws.proofs.ChainOrder.{LetsOut, tiles_apart, handed_on}
use Rattle.fab_text_loads_laws.proofs.ChainValues.{held_bits, data_shows, lets_out, tile_bit_shows, tile_bit_ticks}
use Rattle.fab_text_loads_laws.proofs.ChainWithin.{chain_named_are_loading}
use Rattle.fab_text_loads_laws.proofs.Clocks.{IsOfClock, of_loader, of_bit}
use Rattle.fab_text_loads_laws.proofs.Declared.{bit_below}
use Rattle.fab_text_loads_laws.proofs.InMode.{modes_agree, not_both, config_in}
use Rattle.fab_text_loads_laws.proofs.Loader.{HasChain}
use Rattle.fab_text_loads_laws.proofs.Offered.{offered_singly}
use Rattle.fab_text_loads_laws.proofs.Parts.{IsLatchOf, LoaderIs}
use Rattle.fab_text_loads_laws.proofs.Settled.{latch_point}
use Rattle.fab_text_loads_laws.proofs.Stays.{all_stay, run_stays}

-- another clock than CLK
not_same : (clock : List ℕ) → clock ≢ clock_name → bytes_eq clock_name clock ≡ false
not_same clock other =
    elim (cases_Bool (bytes_eq clock_name clock)) [
      | inl same ↦ absurd (other (sym ((bytes_eq-Decides clock_name clock).0 same)))
      | inr differs ↦ differs
    ]

module _ (fabric : PlainFabric) (text : List PlainModule) (has : HasChain fabric text) (is : IsFabric fabric) where
  abbrev Loading : Point → Type 0
  Loading = IsLoading text

  abbrev values : Assignment → List Bool
  values held = all_values fabric (held_bits held)

  bit_loads : (x y : ℕ) (tile : PlainTile) (number : ℕ) → tile_at fabric x y ≡ Some tile → number < tile_bits tile → Loading (latch_point x y number)
  bit_loads x y tile number there few =
      let here = config_in fabric modes.Chain has.chain text has.tiles x y tile there (omega (arith, few)) in
      let wide = latch_width modes.Chain tile number few in
      chain_named_are_loading fabric text has is (latch_point x y number) (in_configuration x y tile there refl)
      (declared_at text (config_path x y) (config_module modes.Chain tile) (latch_name number) 0 here (omega (arith, wide)))

  -- ---- a tick

  module _ (inputs held now : Assignment) (settled : IsSettledOn Loading text inputs held now) (clock : List ℕ) (after : Assignment)
      (ticks : Ticks Loading text clock held now after) where
    -- what a tile gets from the wire before it
    abbrev comes : PlacedTile → Bool
    comes placed = now (point [] (chain_source fabric placed.x placed.y) 0)

    -- while a bit is written the bits of a tile move on,
    tile_moves : bytes_eq clock_name clock ≡ true → inputs (point [] write_strobe_name 0) ≡ true → (placed : PlacedTile) → IsThere fabric placed →
        tile_values (held_bits after) placed ≡ shifted (tile_values (held_bits held) placed) (comes placed)
    tile_moves ticked writes placed there =
        let x = placed.x in
        let y = placed.y in
        let n = tile_bits placed.tile in
        counted_same n (held_bits after x y) (behind (comes placed) (held_bits held x y))
        (λ number few. tile_bit_ticks fabric text has is inputs held now settled x y placed.tile there clock after ticks number few
        ∙ (λ j. cond (ticked j) (cond (writes j) (behind (comes placed) (held_bits held x y) number) (held_bits held x y number)) (held_bits held x y number)))
        ∙ shifted_counted n (held_bits held x y) (comes placed)

    -- and so does the whole chain
    chain_moves : TilesAreOneChain → bytes_eq clock_name clock ≡ true → inputs (point [] write_strobe_name 0) ≡ true →
        values after ≡ shifted (values held) (inputs (point [] write_data_name 0))
    chain_moves one_chain ticked writes =
        let all = placed_tiles fabric in
        let shows : List ℕ → Bool = λ name. now (point [] name 0) in
        let own = tile_values (held_bits held) in
        let Out = LetsOut shows own write_data_name all in
        let out : All Out all =
        All-weaker (IsThere fabric) Out (λ placed there. lets_out fabric text has is inputs held now settled placed.x placed.y placed.tile there) all
        (all_placed fabric) in
        flat_same (tile_values (held_bits after)) (λ placed. shifted (own placed) (comes placed)) all
        (All-weaker (IsThere fabric) (λ placed. tile_values (held_bits after) placed ≡ shifted (own placed) (comes placed)) (tile_moves ticked writes) all
        (all_placed fabric))
        ∙ one_chain comes own (shows write_data_name) all (handed_on shows own write_data_name all (tiles_apart fabric) out)
        ∙ ap (shifted (values held)) (data_shows fabric text has is inputs held now settled)

    -- else nothing moves
    bit_stays : (bytes_eq clock_name clock ≡ true → inputs (point [] write_strobe_name 0) ≡ false) → (x y : ℕ) (tile : PlainTile) (number : ℕ) →
        tile_at fabric x y ≡ Some tile →
        number < tile_bits tile → after (latch_point x y number) ≡ held (latch_point x y number)
    bit_stays quiet x y tile number there few =
        let moved = behind (now (point [] (chain_source fabric x y) 0)) (held_bits held x y) number in
        let own = held (latch_point x y number) in
        tile_bit_ticks fabric text has is inputs held now settled x y tile there clock after ticks number few
        ∙ elim (cases_Bool (bytes_eq clock_name clock)) [
          | inl ticked ↦ (λ j. cond (ticked j) (cond (quiet ticked j) moved own) own)
          | inr other ↦ ap (λ b. cond b (cond (inputs (point [] write_strobe_name 0)) moved own) own) other
        ]

    chain_stays : (bytes_eq clock_name clock ≡ true → inputs (point [] write_strobe_name 0) ≡ false) → values after ≡ values held
    chain_stays quiet =
        flat_same (tile_values (held_bits after)) (tile_values (held_bits held)) (placed_tiles fabric)
        (All-weaker (IsThere fabric) (λ placed. tile_values (held_bits after) placed ≡ tile_values (held_bits held) placed)
        (λ placed there. counted_same (tile_bits placed.tile) (held_bits after placed.x placed.y) (held_bits held placed.x placed.y)
        (λ number few. bit_stays quiet placed.x placed.y placed.tile number there few)) (placed_tiles fabric) (all_placed fabric))

  -- ---- a run

  abbrev single : Bool → List Bool
  single bit = bit ∷ []

  same_values : (held after : Assignment) → ((p : Point) → Loading p → after p ≡ held p) → values after ≡ values held
  same_values held after same =
      flat_same (tile_values (held_bits after)) (tile_values (held_bits held)) (placed_tiles fabric)
      (All-weaker (IsThere fabric) (λ placed. tile_values (held_bits after) placed ≡ tile_values (held_bits held) placed)
      (λ placed there. counted_same (tile_bits placed.tile) (held_bits after placed.x placed.y) (held_bits held placed.x placed.y)
      (λ number few. same (latch_point placed.x placed.y number) (bit_loads placed.x placed.y placed.tile number there few))) (placed_tiles fabric)
      (all_placed fabric))

  rests : (held : Assignment) → LoaderRests (text_mode fabric) held
  rests held = subst (λ (m : Mode). LoaderRests m held) (sym has.chain) tt

  module _ (one_chain : TilesAreOneChain) where
    -- bits that are written, one at a tick, move the chain on
    bits_move : (turns : List Turn) (moments : List Moment) (bits : List Bool) (held after : Assignment) → words_of turns ≡ map single bits →
        AllZip IsTurn turns moments →
        IsRunOn Loading text moments held after → values after ≡ after_bits (values held) bits
    bits_move [] [] [] held after written are_turns run = same_values held after run
    bits_move [] [] (bit ∷ bits) held after written are_turns run = absurd cc
    bits_move [] (moment ∷ moments) bits held after written are_turns run = absurd are_turns
    bits_move (turn ∷ turns) [] bits held after written are_turns run = absurd are_turns
    bits_move (word piece ∷ turns) (moment ∷ moments) [] held after written are_turns run = absurd cc
    bits_move (word piece ∷ turns) (moment ∷ moments) (bit ∷ bits) held after written are_turns (now, between, settled, low, ticks, rest) =
        let is_single : piece ≡ single bit = cc in
        let others : words_of turns ≡ map single bits = cc in
        let clock = are_turns.0.0 in
        let writes : WritesWord (single bit) moment.inputs = subst (λ piece. WritesWord piece moment.inputs) is_single are_turns.0.1 in
        let ticked : bytes_eq clock_name moment.clock ≡ true = ap (bytes_eq clock_name) clock ∙ same_name clock_name in
        bits_move turns moments bits between after others are_turns.1 rest
        ∙ ap (λ held. after_bits held bits)
        (chain_moves moment.inputs held now settled moment.clock between ticks one_chain ticked writes.strobe
        ∙ ap (shifted (values held)) (writes.bits 0 (omega arith)))
    bits_move (pause ∷ turns) (moment ∷ moments) bits held after written are_turns (now, between, settled, low, ticks, rest) =
        bits_move turns moments bits between after written are_turns.1 rest
        ∙ ap (λ held. after_bits held bits) (chain_stays moment.inputs held now settled moment.clock between ticks (λ ticked. are_turns.0.1))
    bits_move (other_clock ∷ turns) (moment ∷ moments) bits held after written are_turns (now, between, settled, low, ticks, rest) =
        bits_move turns moments bits between after written are_turns.1 rest
        ∙ ap (λ held. after_bits held bits)
        (chain_stays moment.inputs held now settled moment.clock between ticks
        (λ ticked. absurd (are_turns.0 (sym ((bytes_eq-Decides clock_name moment.clock).0 ticked)))))

    -- so the words of a bitstream leave its bits,
    pub chain_configures : ChainLoads → (bits : PlainBits) (moments : List Moment) (held after : Assignment) → Writes text (stream_words fabric bits) moments →
        IsRunOn Loading text moments held after → IsConfigured fabric bits after
    chain_configures chain_loads bits moments held after writes run =
        let written = writes.written ∙ offered_singly fabric text has.tiles has.chain (stream_words fabric bits) in
        let moved = bits_move writes.turns moments (stream_bits fabric bits) held after written writes.each run in
        let loaded = chain_loads fabric bits (held_bits held) (sym (modes_agree fabric) ∙ has.chain) in
        let whole : values after ≡ all_values fabric bits =
        moved ∙ ap (λ held. after_bits held (stream_bits fabric bits)) (sym (values_are fabric (held_bits held))) ∙ loaded ∙ values_are fabric bits in
        let each = tiles_same fabric (held_bits after) bits whole in
        record {
          rests = rests after;
          bits_held = λ x y tile there number few.
              counted_apart (tile_bits tile) (held_bits after x y) (bits x y)
              (All-contains (λ (placed : PlacedTile). tile_values (held_bits after) placed ≡ tile_values bits placed) (placed_tiles fabric)
              (placed_tile x y tile) each
              (tile_is_placed fabric x y tile there)) number few;
        }

  -- which goes with what the loading points hold,
  pub chain_goes : (bits : PlainBits) (held after : Assignment) → IsConfigured fabric bits held → ((p : Point) → Loading p → after p ≡ held p) →
      IsConfigured fabric bits after
  chain_goes bits held after configured same = record {
    rests = rests after;
    bits_held =
        λ x y tile there number few. same (latch_point x y number) (bit_loads x y tile number there few) ∙ configured.bits_held x y tile there number few;
  }

  -- is shown,
  pub chain_shows : (bits : PlainBits) (inputs held now : Assignment) → IsConfigured fabric bits held → IsSettledOn Loading text inputs held now →
      ShowsBits fabric bits now
  chain_shows bits inputs held now configured settled x y tile there number few =
      tile_bit_shows fabric text has is inputs held now settled x y tile there number few ∙ configured.bits_held x y tile there number few

  -- and stays
  no_loader_is : LoaderIs fabric text
  no_loader_is frames = absurd (not_both (text_mode fabric) frames has.chain)

  module _ (moment : Moment) (held now after : Assignment) (quiet : IsQuiet moment) (settled : IsSettledOn Loading text moment.inputs held now)
      (ticks : Ticks Loading text moment.clock held now after) where
    flop_keeps : moment.clock ≡ clock_name → (path : List (List ℕ)) (target : List ℕ) (bit : ℕ) → IsOfClock fabric path target →
        is_declared text (point path target bit) ≡ true →
        after (point path target bit) ≡ held (point path target bit)
    flop_keeps clock path target bit (of_loader frames at listed) declared = absurd (not_both (text_mode fabric) frames has.chain)
    flop_keeps clock path target bit (of_bit x y tile number chain there few at named) declared =
        let here = config_in fabric modes.Chain has.chain text has.tiles x y tile there (omega (arith, few)) in
        let moved : point path target bit ≡ point (config_path x y) (latch_name number) bit = (λ j. point (at j) (named j) bit) in
        let below =
        bit_below text (config_path x y) (config_module modes.Chain tile) (latch_name number) bit here
        (subst (λ q. is_declared text q ≡ true) moved declared) in
        let wide = latch_width modes.Chain tile number few in
        let first : bit ≡ 0 = omega (arith, below, wide) in
        let same : point path target bit ≡ latch_point x y number = moved ∙ ap (λ bit. point (config_path x y) (latch_name number) bit) first in
        ap after same
        ∙ bit_stays moment.inputs held now settled moment.clock after ticks (λ ticked. quiet clock) x y tile number there few
        ∙ ap held (sym same)

    latch_keeps : (x y : ℕ) (tile : PlainTile) (target : List ℕ) (bit : ℕ) → tile_at fabric x y ≡ Some tile → IsLatchOf (text_mode fabric) tile target →
        is_declared text (point (config_path x y) target bit) ≡ true → after (point (config_path x y) target bit) ≡ held (point (config_path x y) target bit)
    latch_keeps x y tile target bit there latch declared = absurd (not_both (text_mode fabric) latch.0 has.chain)

    one_stays : (p : Point) → Loading p → after p ≡ held p
    one_stays = all_stay fabric text has.tiles no_loader_is is moment.clock held now after ticks flop_keeps latch_keeps

  pub chain_rests : (bits : PlainBits) (moments : List Moment) (held after : Assignment) → IsConfigured fabric bits held → All IsQuiet moments →
      IsRunOn Loading text moments held after → (p : Point) → Loading p → after p ≡ held p
  chain_rests bits =
      run_stays text (IsConfigured fabric bits) (chain_goes bits)
      (λ moment held now after configured quiet settled ticks. one_stays moment held now after quiet settled ticks)
