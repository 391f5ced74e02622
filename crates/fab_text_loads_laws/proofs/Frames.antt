-- While no word is written, a configured text in frames holds what it holds.
use Rattle.std.proofs.Common.{◌≡◌, ℕ, true, List, ap, ◌∙◌, Some, refl, sym, subst, All, Contains, ◌<◌, false, arith}
use Rattle.std.proofs.lemmas.List.Elements.{All-contains}
use Rattle.fab_syntax.specs.Plain.{PlainModule}
use Rattle.fab_meaning.specs.Loading.{IsLoading}
use Rattle.fab_meaning.specs.Points.{Path, Point, point}
use Rattle.fab_meaning.specs.Reads.{is_declared}
use Rattle.fab_meaning.specs.Runs.{clock_name, Ticks, Moment, IsRunOn}
use Rattle.fab_meaning.specs.Settled.{Assignment, IsSettledOn}
use Rattle.fab_drives_laws.specs.fab_model_mode_Mode_TheVariants as modes
use Rattle.fab_drives_laws.specs.fab_fabric_Fabric.{IsFabric}
use Rattle.fab_drives_laws.specs.fab_fabric_text_defs_Mode.{text_mode}
use Rattle.fab_drives_laws.specs.fab_gen_loader_Loader.{NextValues, loader_of, state_name, strobe_register_name, machine_at}
use Rattle.fab_drives_laws.specs.fab_gen_tile_ConfigModule.{config_module}
use Rattle.fab_drives_laws.specs.fab_gen_tile_Names.{latch_name}
use Rattle.fab_drives_laws.specs.fab_model_Drive.{PlainBits}
use Rattle.fab_drives_laws.specs.fab_model_Grid.{PlainFabric, tile_at}
use Rattle.fab_drives_laws.specs.fab_model_Tiles.{PlainTile}
use Rattle.fab_loading_laws.specs.Latches.{latch_shows}
use Rattle.fab_loading_laws.specs.Streams.{TicksKeepMachines}
use Rattle.fab_drives_laws.proofs.fab_gen_loader_Widths.{state_width}
use Rattle.fab_drives_laws.proofs.fab_tile_drives_laws_Driven.{width_of, declared_at}
use Rattle.fab_drives_laws.proofs.fab_tile_drives_laws_Latches.{latch_width}
use Rattle.fab_text_loads_laws.specs.Loads.{IsConfigured, IsQuiet}
use Rattle.fab_text_loads_laws.specs.Points.{config_path, loader_path, in_loader}
use Rattle.fab_text_loads_laws.proofs.Clocks.{IsOfClock, of_loader, of_bit}
use Rattle.fab_text_loads_laws.proofs.Declared.{bit_below}
use Rattle.fab_text_loads_laws.proofs.InMode.{not_both}
use Rattle.fab_text_loads_laws.proofs.Loader.{HasLoader, register_names, strobe_register_width}
use Rattle.fab_text_loads_laws.proofs.Named.{config_stands, named_are_loading}
use Rattle.fab_text_loads_laws.proofs.Parts.{IsLatchOf, LoaderIs}
use Rattle.fab_text_loads_laws.proofs.Runs.{HasLatch, has_latch, latch_loads, latch_now, latch_ticks, rests_in, loader_waits}
use Rattle.fab_text_loads_laws.proofs.Settled.{latch_place, latch_point}
use Rattle.fab_text_loads_laws.proofs.Stays.{all_stay, run_stays}
use Rattle.fab_text_loads_laws.proofs.Ticks.{Stays, registers_stay}

module _ (fabric : PlainFabric) (next : NextValues) (text : List PlainModule) (has : HasLoader fabric next text) (is : IsFabric fabric) (bits : PlainBits) where
  register_same : (held after : Assignment) → ((p : Point) → IsLoading text p → after p ≡ held p) → (name : List ℕ) (bit : ℕ) →
      bit < width_of (loader_of fabric.rows next) name → after (point loader_path name bit) ≡ held (point loader_path name bit)
  register_same held after same name bit few =
      same (point loader_path name bit)
      (named_are_loading fabric next text has (point loader_path name bit) (in_loader refl)
      (declared_at text loader_path (loader_of fabric.rows next) name bit has.stands few))

  -- what holds the same is configured as well
  pub still_configured : (held after : Assignment) → IsConfigured fabric bits held → ((p : Point) → IsLoading text p → after p ≡ held p) →
      IsConfigured fabric bits after
  still_configured held after configured same =
      let waits = loader_waits fabric has.frames bits held configured in record {
        rests = rests_in fabric has.frames (record {
          state = λ bit few. register_same held after same state_name bit (omega (arith, few, state_width fabric.rows next)) ∙ waits.state bit few;
          strobe = register_same held after same strobe_register_name 0 (omega (arith, strobe_register_width fabric.rows next)) ∙ waits.strobe;
        });
        bits_held = λ x y tile there number few.
            same (latch_point x y number) (latch_loads fabric next text has is x y number (has_latch fabric next text has is x y tile number there few))
            ∙ configured.bits_held x y tile there number few;
      }

module _ (fabric : PlainFabric) (next : NextValues) (text : List PlainModule) (has : HasLoader fabric next text) (is : IsFabric fabric)
    (keeps : TicksKeepMachines) (bits : PlainBits) where
  loader : LoaderIs fabric text
  loader frames = (next, has.named)

  module _ (moment : Moment) (held now after : Assignment) (configured : IsConfigured fabric bits held) (quiet : IsQuiet moment)
      (settled : IsSettledOn (IsLoading text) text moment.inputs held now) (ticks : Ticks (IsLoading text) text moment.clock held now after) where
    strobe_low : held (point loader_path strobe_register_name 0) ≡ false
    strobe_low = (loader_waits fabric has.frames bits held configured).strobe

    -- a register of the loader at a tick of CLK
    register_stays : (name : List ℕ) (bit : ℕ) → moment.clock ≡ clock_name → Contains (register_names fabric.rows) name →
        is_declared text (point loader_path name bit) ≡ true →
        after (point loader_path name bit) ≡ held (point loader_path name bit)
    register_stays name bit clock listed declared =
        let made = loader_of fabric.rows next in
        let ticks_here : Ticks (IsLoading text) text clock_name held now after =
        subst (λ clock. Ticks (IsLoading text) text clock held now after) clock ticks in
        All-contains (Stays fabric next text has is keeps moment.inputs held now after settled ticks_here (quiet clock) strobe_low)
        (register_names fabric.rows) name
        (registers_stay fabric next text has is keeps moment.inputs held now after settled ticks_here (quiet clock) strobe_low) listed bit
        (bit_below text loader_path made name bit has.stands declared)

    flop_keeps : moment.clock ≡ clock_name → (path : Path) (target : List ℕ) (bit : ℕ) → IsOfClock fabric path target →
        is_declared text (point path target bit) ≡ true →
        after (point path target bit) ≡ held (point path target bit)
    flop_keeps clock path target bit (of_loader frames at listed) declared =
        let same : point path target bit ≡ point loader_path target bit = ap (λ path. point path target bit) at in
        ap after same ∙ register_stays target bit clock listed (subst (λ q. is_declared text q ≡ true) same declared) ∙ ap held (sym same)
    flop_keeps clock path target bit (of_bit x y tile number chain there few at is_named) declared = absurd (not_both (text_mode fabric) has.frames chain)

    -- the strobe is 0, so that a latch shows what it holds
    closed_latch : (x y number : ℕ) → HasLatch fabric x y number → after (latch_point x y number) ≡ held (latch_point x y number)
    closed_latch x y number found =
        let place = latch_place x y found.tile number in
        let machine = machine_at held loader_path fabric.rows in
        latch_ticks fabric next text has is x y number found moment.clock held now after ticks
        ∙ latch_now fabric next text has is x y number found moment.inputs held now settled
        ∙ ap (λ strobe. latch_shows (record machine { strobe = strobe }) place (held (latch_point x y number))) strobe_low

    latch_keeps : (x y : ℕ) (tile : PlainTile) (target : List ℕ) (bit : ℕ) → tile_at fabric x y ≡ Some tile → IsLatchOf (text_mode fabric) tile target →
        is_declared text (point (config_path x y) target bit) ≡ true → after (point (config_path x y) target bit) ≡ held (point (config_path x y) target bit)
    latch_keeps x y tile target bit there (frames, found) declared =
        let number = found.0 in
        let few = found.1 in
        let named : point (config_path x y) target bit ≡ point (config_path x y) (latch_name number) bit =
        ap (λ name. point (config_path x y) name bit) found.2 in
        let below =
        bit_below text (config_path x y) (config_module modes.Frames tile) (latch_name number) bit
        (config_stands fabric next text has x y tile there (omega (arith, few)))
        (subst (λ q. is_declared text q ≡ true) named declared) in
        let first : bit ≡ 0 = omega (arith, below, latch_width modes.Frames tile number few) in
        let same : point (config_path x y) target bit ≡ latch_point x y number = named ∙ ap (λ bit. point (config_path x y) (latch_name number) bit) first in
        ap after same ∙ closed_latch x y number (has_latch fabric next text has is x y tile number there few) ∙ ap held (sym same)

    one_stays : (p : Point) → IsLoading text p → after p ≡ held p
    one_stays = all_stay fabric text has.tiles loader is moment.clock held now after ticks flop_keeps latch_keeps

  -- ---- a run

  pub configuration_stays : (moments : List Moment) (held after : Assignment) → IsConfigured fabric bits held → All IsQuiet moments →
      IsRunOn (IsLoading text) text moments held after →
      (p : Point) → IsLoading text p → after p ≡ held p
  configuration_stays = run_stays text (IsConfigured fabric bits) (still_configured fabric next text has is bits) one_stays
