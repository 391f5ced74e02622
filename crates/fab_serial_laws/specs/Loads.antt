-- Serial loading of the text of a fabric: the bits of a bitstream's words leave the fabric behind the port configured, whatever was held.
use Rattle.std.specs.Prelude.{◌≡◌, Bool, false, List, [], ◌∷◌, All}
use Rattle.fab_syntax.specs.Plain.{PlainModule}
use Rattle.fab_meaning.specs.Points.{Point, point}
use Rattle.fab_meaning.specs.Settled.{Assignment, IsSettledOn}
use Rattle.fab_meaning.specs.Runs.{clock_name, Moment, IsRunOn}
use Rattle.fab_drives_laws.specs.fab_model_mode_Mode_TheVariants as modes
use Rattle.fab_drives_laws.specs.fab_model_Grid.{PlainFabric}
use Rattle.fab_drives_laws.specs.fab_model_Drive.{PlainBits}
use Rattle.fab_text_loads_laws.specs.fab_drives_laws_Points.{ShowsBits}
use Rattle.fab_text_loads_laws.specs.fab_fabric_Fabric.{IsFabric}
use Rattle.fab_text_loads_laws.specs.fab_fabric_text_defs_Mode.{text_mode}
use Rattle.fab_text_loads_laws.specs.fab_fabric_text_defs_Texts.{IsFabricText}
use Rattle.fab_text_loads_laws.specs.fab_load_runs_laws_Runs.{IsClockLow}
use Rattle.fab_text_loads_laws.specs.Loads.{IsConfigured}
use Rattle.fab_nested_laws.specs.Nested.{within}
use Rattle.fab_serial.specs.fab_loading_laws_Streams.{stream_words}
use Rattle.fab_serial.specs.Module.{serial_instance_name, fabric_instance_name, full_name, serial_text, CanHaveSerialPort}
use Rattle.fab_serial.specs.Delivery.{IsSerialLoading, SendsWords, strobe_point}

-- ---- runs

-- The points that bits lead to have exactly one run through any moments that leave CLK at 0, whatever is held, moment by moment.
pub record RunsSeriallyOnce (text : List PlainModule) : Type 0 where
  -- there is one,
  pub exists : (moments : List Moment) → All IsClockLow moments → (held : Assignment) →
      (after : Assignment) × IsRunOn (IsSerialLoading text) text moments held after
  -- what the points hold after these moments is always the same,
  pub once : (moments : List Moment) (held after other : Assignment) → IsRunOn (IsSerialLoading text) text moments held after →
      IsRunOn (IsSerialLoading text) text moments held other → (p : Point) → IsSerialLoading text p → after p ≡ other p
  -- and so is what they show in a moment
  pub settles_once : (inputs held now other : Assignment) → IsSettledOn (IsSerialLoading text) text inputs held now →
      IsSettledOn (IsSerialLoading text) text inputs held other → (p : Point) → IsSerialLoading text p → now p ≡ other p

-- ---- the configuration

-- no bit is sent at the end of a moment: where another clock than CLK ticks, the port takes nothing
abbrev pub IsStill : Moment → Type 0
IsStill moment = moment.clock ≡ clock_name → moment.inputs strobe_point ≡ false

abbrev pub full_point : Point
full_point = point (serial_instance_name ∷ []) full_name 0

-- the fabric behind the port holds these bits, and the port has no word for it
pub record IsConfiguredBehind (fabric : PlainFabric) (bits : PlainBits) (held : Assignment) : Type 0 where
  pub configured : IsConfigured fabric bits (within fabric_instance_name held)
  pub empty : held full_point ≡ false

-- What serial loading is in the text of a fabric behind a serial port.
pub record LoadsSerially (fabric : PlainFabric) (text : List PlainModule) : Type 0 where
  pub runs : RunsSeriallyOnce text
  -- Any words can be sent,
  pub sendable : (words : List (List Bool)) → (moments : List Moment) × SendsWords words moments × All IsClockLow moments
  -- and however those of a bitstream are, whatever was held, they leave the configuration,
  pub configures : (bits : PlainBits) (moments : List Moment) (held after : Assignment) → SendsWords (stream_words fabric bits) moments →
      IsRunOn (IsSerialLoading text) text moments held after → IsConfiguredBehind fabric bits after
  -- which stays, whatever ticks, while no bit is sent,
  pub stays : (bits : PlainBits) (moments : List Moment) (held after : Assignment) → IsConfiguredBehind fabric bits held → All IsStill moments →
      IsRunOn (IsSerialLoading text) text moments held after → IsConfiguredBehind fabric bits after
  -- and which the points of the bits show
  pub shows : (bits : PlainBits) (inputs held now : Assignment) → IsConfiguredBehind fabric bits held → IsSettledOn (IsSerialLoading text) text inputs held now →
      ShowsBits fabric bits (within fabric_instance_name now)

-- The text of each fabric in frames can have a serial port. That of a chain takes words bit by bit as it is.
abbrev pub FabricTextsTakePorts : Type 0
FabricTextsTakePorts =
    (fabric : PlainFabric) (text : List PlainModule) → text_mode fabric ≡ modes.Frames → IsFabric fabric → IsFabricText fabric text → CanHaveSerialPort text

-- Behind one, its bitstreams can be loaded bit by bit.
abbrev pub SerialTextsLoad : Type 0
SerialTextsLoad =
    (fabric : PlainFabric) (text : List PlainModule) → text_mode fabric ≡ modes.Frames → IsFabric fabric → IsFabricText fabric text →
    LoadsSerially fabric (serial_text text)
