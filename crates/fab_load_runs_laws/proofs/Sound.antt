-- The laws, for sound texts: their points stand on a list, and each has one driver.
use Rattle.std.proofs.Common.{ℕ, suc, Bool, List, length, All}
use Rattle.fab_equations.specs.fab_syntax.specs.Plain.{PlainModule}
use Rattle.fab_equations.specs.fab_syntax.specs.Sound.{IsSound}
use Rattle.fab_systems_laws.specs.System.{AreListed}
use Rattle.fab_equations.specs.fab_meaning.specs.Points.{Point, Driver}
use Rattle.fab_equations.specs.fab_meaning.specs.Settled.{Assignment}
use Rattle.fab_equations.specs.fab_meaning.specs.Reads.{is_declared}
use Rattle.fab_equations.specs.fab_meaning.specs.Runs.{user_clock_name, Moment, IsRunOn}
use Rattle.fab_equations.specs.fab_meaning.specs.Loading.{IsOneOf, stream_names, Loads}
use Rattle.fab_equations.specs.fab_meaning.specs.Ranked.{AreDrivenBy}
use Rattle.fab_equations.specs.Instances.{points}
use Rattle.fab_equations.proofs.Points.{declared_are_points}
use Rattle.fab_load_runs_laws.specs.Runs.{Decides, HasClocks, IsClockLow}
use Rattle.fab_load_runs_laws.proofs.Drivers.{drivers}
use Rattle.fab_load_runs_laws.proofs.Closing.{loading, loading_decided, loading_rank, loading_ranked}
use Rattle.fab_load_runs_laws.proofs.Streams.{IsLedFor}
use Rattle.fab_load_runs_laws.proofs.Running.{runs_exist, user_no_stream, loads_exist}

module _ (text : List PlainModule) (sound : IsSound text) where
  listed : AreListed (is_declared text) (points text)
  listed = declared_are_points text sound

  abbrev driver : Point → Driver
  driver = (drivers text sound).0

  driven : AreDrivenBy text (is_declared text) driver
  driven = (drivers text sound).1

  module _ (names : List (List ℕ)) where
    abbrev has : Point → Bool
    has = loading text names (points text) driver

    pub led_decided : (test : Point → Bool) × Decides (IsLedFor text names) test
    led_decided = (has, loading_decided text names (points text) listed driver driven)

    pub led_runs : HasClocks text → (IsOneOf names user_clock_name → ⊥) → (moments : List Moment) → All IsClockLow moments → (held : Assignment) →
        (after : Assignment) × IsRunOn (IsLedFor text names) text moments held after
    led_runs clocks no_user =
        runs_exist text clocks driver driven names no_user has (loading_decided text names (points text) listed driver driven)
        (loading_rank text names (points text) listed driver driven) (suc (length (points text))) (loading_ranked text names (points text) listed driver driven)

  pub decided : (test : Point → Bool) × Decides (IsLedFor text stream_names) test
  decided = led_decided stream_names

  pub sound_runs : HasClocks text → (moments : List Moment) → All IsClockLow moments → (held : Assignment) →
      (after : Assignment) × IsRunOn (IsLedFor text stream_names) text moments held after
  sound_runs clocks = led_runs stream_names clocks user_no_stream

  pub sound_loads : HasClocks text → (words : List (List Bool)) (held : Assignment) → (after : Assignment) × Loads text words held after
  sound_loads clocks = loads_exist text (sound_runs clocks)
