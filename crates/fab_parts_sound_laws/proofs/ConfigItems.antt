-- The ports of a configuration's module and what keeps its bits, mode by mode.
use Rattle.std.proofs.Common.{◌≡◌, ◌≢◌, ℕ, zero, suc, ◌<◌, ◌≤◌, false, List, [], ◌∷◌, ◌++◌, map, refl, sym, ◌∙◌, arith, All, Contains, append-nil, append_assoc}
use Rattle.std.specs.List.{flat_map, list_any}
use Rattle.std.specs.Str.{bytes_eq}
use Rattle.std.proofs.lemmas.List.Concat.{flat_map-append}
use Rattle.std.proofs.lemmas.List.Elements.{All-nil, All-cons, All-append, Contains-append_left, Contains-append_right}
use Rattle.fab_syntax.specs.declared.tree.Port.{Port}
use Rattle.fab_syntax.specs.Plain.{PlainItem, PlainModule}
use Rattle.fab_syntax.specs.Sound.{width_of_name}
use Rattle.fab_tile_drives_laws.proofs.fab_meaning_Modules.{each_all}
use Rattle.fab_tile_drives_laws.specs.fab_meaning_Ports.{config_name}
use Rattle.fab_tile_drives_laws.specs.fab_meaning_Runs.{clock_name}
use Rattle.fab_tile_drives_laws.specs.fab_meaning_Loading.{write_strobe_name}
use Rattle.fab_tile_drives_laws.specs.fab_model_mode_Mode.{Mode}
use Rattle.fab_tile_drives_laws.specs.fab_model_mode_Mode_TheVariants as modes
use Rattle.fab_tile_drives_laws.specs.fab_model_Tiles.{PlainTile, counted, tile_bits}
use Rattle.fab_tile_drives_laws.specs.fab_model_Tables.{HasTable}
use Rattle.fab_tile_drives_laws.specs.fab_gen_tile_Names.{latch_name, frame_data_name, frame_strobe_name, chain_in_name, chain_out_name, vector}
use Rattle.fab_tile_drives_laws.specs.fab_gen_tile_ConfigModule.{frame_ports, chain_ports, config_ports, bit_latch, before_bit, bit_flop, chain_end, keeping_items, config_module}
use Rattle.fab_tile_drives_laws.proofs.Latches.{latch_width}
use Rattle.fab_parts_sound_laws.proofs.Lists.{all_counted, contains_first, contains_counted, one_each}
use Rattle.fab_parts_sound_laws.proofs.Apart.{apart_if, differs_from, none_is}
use Rattle.fab_parts_sound_laws.proofs.Names.{Differ, told_apart, AreApart, IsNoneOf}
use Rattle.fab_parts_sound_laws.proofs.Counts.{item_drives, item_holds, IsPortAmong}
use Rattle.fab_parts_sound_laws.proofs.Clocks.{ClocksBy}
use Rattle.fab_parts_sound_laws.proofs.Flat.{ItemFits}
use Rattle.fab_parts_sound_laws.proofs.FlatNames.{UsesOnly}

-- ---- names of ports

abbrev pub port_names : Mode → List (List ℕ)
port_names mode = map (λ (port : Port). port.name) (config_ports mode) ++ config_name ∷ []

-- those of outputs
abbrev pub output_names : Mode → List (List ℕ)
output_names modes.Frames = config_name ∷ []
output_names modes.Chain = chain_out_name ∷ config_name ∷ []

pub ports_apart : (mode : Mode) → AreApart (port_names mode)
ports_apart modes.Frames = apart_if (port_names modes.Frames) refl
ports_apart modes.Chain = apart_if (port_names modes.Chain) refl

pub outputs_apart : (mode : Mode) → AreApart (output_names mode)
outputs_apart modes.Frames = apart_if (output_names modes.Frames) refl
outputs_apart modes.Chain = apart_if (output_names modes.Chain) refl

-- no port has the name of a bit
pub ports_differ : (mode : Mode) → All (λ name. (bit : ℕ) → name ≢ latch_name bit) (port_names mode)
ports_differ modes.Frames =
    each_all (λ name. (bit : ℕ) → name ≢ latch_name bit) (port_names modes.Frames)
    (λ bit. told_apart _ _ refl, (λ bit. told_apart _ _ refl, (λ bit. told_apart _ _ refl, tt)))
ports_differ modes.Chain =
    each_all (λ name. (bit : ℕ) → name ≢ latch_name bit) (port_names modes.Chain)
    (λ bit. told_apart _ _ refl, (λ bit. told_apart _ _ refl, (λ bit. told_apart _ _ refl, (λ bit. told_apart _ _ refl, (λ bit. told_apart _ _ refl, tt)))))

pub outputs_differ : (mode : Mode) (bit : ℕ) → All (Differ (latch_name bit)) (output_names mode)
outputs_differ modes.Frames bit = differs_from (latch_name bit) (output_names modes.Frames) refl
outputs_differ modes.Chain bit = differs_from (latch_name bit) (output_names modes.Chain) refl

pub config_port : (mode : Mode) → Contains (port_names mode) config_name
config_port mode =
    Contains-append_right (map (λ (port : Port). port.name) (config_ports mode)) (config_name ∷ []) config_name (contains_first config_name [])

-- ---- drivers of ports, of a module with so many bits

module _ (bits : ℕ) where
  abbrev latches : List (List ℕ)
  latches = counted bits latch_name

  none_held : (name : List ℕ) → ((bit : ℕ) → latch_name bit ≢ name) → IsNoneOf latches name
  none_held name no_latch = all_counted (λ other. other ≢ name) bits latch_name (λ bit within. no_latch bit)

  -- an input: a name apart from all bits and from the outputs
  apart : (mode : Mode) (name : List ℕ) → ((bit : ℕ) → latch_name bit ≢ name) → list_any (λ other. bytes_eq other name) (output_names mode) ≡ false →
      IsNoneOf (latches ++ output_names mode) name
  apart mode name no_latch no_output =
      All-append (λ other. other ≢ name) latches (output_names mode) (none_held name no_latch) (none_is (output_names mode) name no_output)

  abbrev IsDriven : Mode → Port → Type 0
  IsDriven mode port = IsPortAmong (latches ++ output_names mode) latches port.input port.name

  pub ports_among : (mode : Mode) → All (IsDriven mode) (config_ports mode ++ vector false bits config_name ∷ [])
  ports_among modes.Frames =
      each_all (IsDriven modes.Frames) (frame_ports ++ vector false bits config_name ∷ []) (
        apart modes.Frames frame_data_name (λ bit. told_apart _ _ refl) refl,
        (
          apart modes.Frames frame_strobe_name (λ bit. told_apart _ _ refl) refl,
          ((Contains-append_right latches (output_names modes.Frames) config_name (0, omega arith, refl), none_held config_name (λ bit. told_apart _ _ refl)), tt),
        ),
      )
  ports_among modes.Chain =
      each_all (IsDriven modes.Chain) (chain_ports ++ vector false bits config_name ∷ []) (
        apart modes.Chain clock_name (λ bit. told_apart _ _ refl) refl,
        (
          apart modes.Chain write_strobe_name (λ bit. told_apart _ _ refl) refl,
          (
            apart modes.Chain chain_in_name (λ bit. told_apart _ _ refl) refl,
            (
              (Contains-append_right latches (output_names modes.Chain) chain_out_name (0, omega arith, refl), none_held chain_out_name (λ bit. told_apart _ _ refl)),
              ((Contains-append_right latches (output_names modes.Chain) config_name (1, omega arith, refl), none_held config_name (λ bit. told_apart _ _ refl)), tt),
            ),
          ),
        ),
      )

-- ---- what keeps the bits

module _ (tile : PlainTile) where
  abbrev bits : ℕ
  bits = tile_bits tile

  abbrev Fits : Mode → PlainItem → Type 0
  Fits mode = ItemFits (config_module mode tile)

  latch_fits : HasTable tile → (bit : ℕ) → bit < bits → Fits modes.Frames (bit_latch tile bit)
  latch_fits table bit within =
      let place = table.in_frames bit (0, 0) (omega (arith, table.as_many)) in
      let wide = latch_width modes.Frames tile bit within in
      (((omega arith, place.0), tt), ((omega arith, place.1), tt), omega arith, omega (arith, wide))

  -- what stands before a bit is one bit wide
  before_wide : (bit : ℕ) → bit ≤ bits → width_of_name (config_module modes.Chain tile) (before_bit bit) ≡ 1
  before_wide zero within = refl
  before_wide (suc bit) within = latch_width modes.Chain tile bit (omega arith)

  flop_fits : (bit : ℕ) → bit < bits → Fits modes.Chain (bit_flop bit)
  flop_fits bit within =
      let before = before_wide bit (omega arith) in
      let wide = latch_width modes.Chain tile bit within in
      (((tt, (refl, before ∙ sym wide)), (tt, tt), (tt, tt), (tt, tt)), wide ∙ sym before, (refl, refl))

  pub kept_fits : (mode : Mode) → HasTable tile → All (Fits mode) (keeping_items mode tile)
  kept_fits modes.Frames table = all_counted (Fits modes.Frames) bits (bit_latch tile) (latch_fits table)
  kept_fits modes.Chain table =
      All-append (Fits modes.Chain) (counted bits bit_flop) (chain_end bits ∷ []) (all_counted (Fits modes.Chain) bits bit_flop flop_fits)
      (All-cons (Fits modes.Chain) (chain_end bits) [] ((tt, tt), sym (before_wide bits (omega arith))) (All-nil (Fits modes.Chain)))

  -- ---- names

  abbrev known : Mode → List (List ℕ)
  known mode = port_names mode ++ counted bits latch_name

  bit_known : (mode : Mode) (bit : ℕ) → bit < bits → Contains (known mode) (latch_name bit)
  bit_known mode bit within = Contains-append_right (port_names mode) (counted bits latch_name) (latch_name bit) (contains_counted bits latch_name bit within)

  port_known : (mode : Mode) (name : List ℕ) → Contains (port_names mode) name → Contains (known mode) name
  port_known mode name there = Contains-append_left (port_names mode) (counted bits latch_name) name there

  before_known : (bit : ℕ) → bit ≤ bits → Contains (known modes.Chain) (before_bit bit)
  before_known zero within = port_known modes.Chain chain_in_name (2, omega arith, refl)
  before_known (suc bit) within = bit_known modes.Chain bit (omega arith)

  latch_uses : (bit : ℕ) → bit < bits → UsesOnly (known modes.Frames) (bit_latch tile bit)
  latch_uses bit within =
      (bit_known modes.Frames bit within, port_known modes.Frames frame_strobe_name (1, omega arith, refl), port_known modes.Frames frame_data_name (0, omega arith, refl))

  flop_uses : (bit : ℕ) → bit < bits → UsesOnly (known modes.Chain) (bit_flop bit)
  flop_uses bit within = (
    port_known modes.Chain clock_name (0, omega arith, refl),
    bit_known modes.Chain bit within,
    (tt, port_known modes.Chain write_strobe_name (1, omega arith, refl), before_known bit (omega arith), bit_known modes.Chain bit within),
  )

  pub kept_uses : (mode : Mode) → All (UsesOnly (known mode)) (keeping_items mode tile)
  kept_uses modes.Frames = all_counted (UsesOnly (known modes.Frames)) bits (bit_latch tile) latch_uses
  kept_uses modes.Chain =
      All-append (UsesOnly (known modes.Chain)) (counted bits bit_flop) (chain_end bits ∷ []) (all_counted (UsesOnly (known modes.Chain)) bits bit_flop flop_uses)
      (All-cons (UsesOnly (known modes.Chain)) (chain_end bits) []
      (port_known modes.Chain chain_out_name (3, omega arith, refl), before_known bits (omega arith)) (All-nil (UsesOnly (known modes.Chain))))

  -- ---- drivers and clocks

  -- they drive the bits and all outputs but that of the bits, which is assigned behind them
  pub kept_drives : (mode : Mode) (text : List PlainModule) →
      flat_map (item_drives text) (keeping_items mode tile) ++ config_name ∷ [] ≡ counted bits latch_name ++ output_names mode
  kept_drives modes.Frames text = λ j. one_each (item_drives text) bits (bit_latch tile) latch_name (λ bit. refl) j ++ config_name ∷ []
  kept_drives modes.Chain text =
      (λ j. flat_map-append (item_drives text) (counted bits bit_flop) (chain_end bits ∷ []) j ++ config_name ∷ [])
      ∙ (λ j. (one_each (item_drives text) bits bit_flop latch_name (λ bit. refl) j ++ chain_out_name ∷ []) ++ config_name ∷ [])
      ∙ append_assoc (counted bits latch_name) (chain_out_name ∷ []) (config_name ∷ [])

  pub kept_holds : (mode : Mode) → flat_map item_holds (keeping_items mode tile) ≡ counted bits latch_name
  kept_holds modes.Frames = one_each item_holds bits (bit_latch tile) latch_name (λ bit. refl)
  kept_holds modes.Chain =
      flat_map-append item_holds (counted bits bit_flop) (chain_end bits ∷ [])
      ∙ (λ j. one_each item_holds bits bit_flop latch_name (λ bit. refl) j ++ [])
      ∙ append-nil (counted bits latch_name)

  pub kept_clocks : (mode : Mode) → All (ClocksBy (λ clock. (mode ≡ modes.Chain) × (clock ≡ clock_name))) (keeping_items mode tile)
  kept_clocks modes.Frames = all_counted (ClocksBy (λ clock. (modes.Frames ≡ modes.Chain) × (clock ≡ clock_name))) bits (bit_latch tile) (λ bit within. tt)
  kept_clocks modes.Chain =
      let ByClock : PlainItem → Type 0 = ClocksBy (λ clock. (modes.Chain ≡ modes.Chain) × (clock ≡ clock_name)) in
      All-append ByClock (counted bits bit_flop) (chain_end bits ∷ []) (all_counted ByClock bits bit_flop (λ bit within. (refl, refl)))
      (All-cons ByClock (chain_end bits) [] tt (All-nil ByClock))
