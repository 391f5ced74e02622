-- The law of loading: the words of a bitstream leave the text of a fabric configured, whatever it held, however the clocks tick between words.
use Rattle.std.specs.Prelude.{◌≡◌, ◌≢◌, ◌<◌, ℕ, Bool, true, false, List, [], length, All}
use Rattle.std.specs.List.{AllZip}
use Rattle.fab_syntax.specs.Plain.{PlainModule}
use Rattle.fab_meaning.specs.Value.{bit_at}
use Rattle.fab_meaning.specs.Points.{Point, point}
use Rattle.fab_meaning.specs.Settled.{Assignment, IsSettledOn}
use Rattle.fab_meaning.specs.Reads.{is_declared}
use Rattle.fab_meaning.specs.Runs.{clock_name, Moment, IsRunOn}
use Rattle.fab_meaning.specs.Loading.{offered, IsLoading, IsSameStream, IsIdle, write_strobe_name, write_data_name}
use Rattle.fab_drives_laws.specs.fab_model_mode_Mode.{Mode}
use Rattle.fab_drives_laws.specs.fab_model_mode_Mode_TheVariants as modes
use Rattle.fab_drives_laws.specs.fab_model_Grid.{PlainFabric}
use Rattle.fab_drives_laws.specs.fab_model_Drive.{PlainBits}
use Rattle.fab_drives_laws.specs.fab_gen_loader_Loader.{state_name, strobe_register_name}
use Rattle.fab_drives_laws.specs.fab_fabric_text_defs_Mode.{text_mode}
use Rattle.fab_drives_laws.specs.Points.{ShowsBits}
use Rattle.fab_loading_laws.specs.Latches.{Turn, word, pause, other_clock, words_of}
use Rattle.fab_loading_laws.specs.Streams.{stream_words}
use Rattle.fab_load_runs_laws.specs.Runs.{IsClockLow}
use Rattle.fab_text_loads_laws.specs.Points.{loader_path, IsLoadingPoint}

-- ---- words in moments

-- No word is written at the end of a moment: where another clock than CLK ticks, the loader sees nothing.
abbrev pub IsQuiet : Moment → Type 0
IsQuiet moment = moment.clock ≡ clock_name → moment.inputs (point [] write_strobe_name 0) ≡ false

-- Inputs that write a word, with bit 0 the least significant. Of WriteData the text of a fabric declares no further bits.
pub record WritesWord (piece : List Bool) (inputs : Assignment) : Type 0 where
  pub strobe : inputs (point [] write_strobe_name 0) ≡ true
  pub bits : (bit : ℕ) → bit < length piece → inputs (point [] write_data_name bit) ≡ bit_at piece bit

-- What the loader sees at the end of a moment. Where another clock than CLK ticks, the inputs are free.
abbrev pub IsTurn : Turn → Moment → Type 0
IsTurn (word piece) moment = (moment.clock ≡ clock_name) × WritesWord piece moment.inputs
IsTurn pause moment = (moment.clock ≡ clock_name) × (moment.inputs (point [] write_strobe_name 0) ≡ false)
IsTurn other_clock moment = moment.clock ≢ clock_name

-- In these moments what the text is offered for words is written, one piece after the other. There may be ticks of CLK without a piece and
-- ticks of other clocks among them.
pub record Writes (text : List PlainModule) (words : List (List Bool)) (moments : List Moment) : Type 0 where
  pub turns : List Turn
  pub each : AllZip IsTurn turns moments
  pub written : words_of turns ≡ offered text words

-- ---- runs

-- The loading points of a text have exactly one run through any moments that leave CLK at 0, whatever is held, moment by moment.
pub record RunsOnce (text : List PlainModule) : Type 0 where
  -- there is one
  pub exists : (moments : List Moment) → All IsClockLow moments → (held : Assignment) →
      (after : Assignment) × IsRunOn (IsLoading text) text moments held after
  -- what the points hold after these moments is always the same,
  pub once : (moments : List Moment) (held after other : Assignment) →
      IsRunOn (IsLoading text) text moments held after → IsRunOn (IsLoading text) text moments held other → (p : Point) → IsLoading text p → after p ≡ other p
  -- and so is what they show in a moment
  pub settles_once : (inputs held now other : Assignment) →
      IsSettledOn (IsLoading text) text inputs held now → IsSettledOn (IsLoading text) text inputs held other → (p : Point) → IsLoading text p → now p ≡ other p
  -- ticks of other clocks than CLK change nothing of it, while the inputs that carry words stay
  pub idle : (moments : List Moment) (inputs later held after now last : Assignment) → All (IsIdle text inputs) moments →
      IsRunOn (IsLoading text) text moments held after → IsSettledOn (IsLoading text) text inputs held now →
      IsSettledOn (IsLoading text) text later after last → IsSameStream text inputs later → (p : Point) → IsLoading text p → now p ≡ last p

-- ---- the configuration

-- the loader holds that it waits and strobes no frame
pub record LoaderWaits (held : Assignment) : Type 0 where
  pub state : (bit : ℕ) → bit < 2 → held (point loader_path state_name bit) ≡ false
  pub strobe : held (point loader_path strobe_register_name 0) ≡ false

-- the loader, where there is one, waits
abbrev pub LoaderRests : Mode → (held : Assignment) → Type 0
LoaderRests modes.Frames held = LoaderWaits held
LoaderRests modes.Chain held = Unit {0}

-- The loader rests, and what keeps the configuration holds each bit.
pub record IsConfigured (fabric : PlainFabric) (bits : PlainBits) (held : Assignment) : Type 0 where
  pub rests : LoaderRests (text_mode fabric) held
  pub bits_held : ShowsBits fabric bits held

pub record LoadsBits (fabric : PlainFabric) (text : List PlainModule) (bits : PlainBits) : Type 0 where
  -- the words of the bitstream can be written,
  pub writable : (moments : List Moment) × Writes text (stream_words fabric bits) moments × All IsClockLow moments
  -- and however they are, whatever was held, they leave the configuration,
  pub configures : (moments : List Moment) (held after : Assignment) → Writes text (stream_words fabric bits) moments →
      IsRunOn (IsLoading text) text moments held after → IsConfigured fabric bits after
  -- which stays, whatever ticks, while no word is written,
  pub stays : (moments : List Moment) (held after : Assignment) → IsConfigured fabric bits held → All IsQuiet moments →
      IsRunOn (IsLoading text) text moments held after → (p : Point) → IsLoading text p → after p ≡ held p
  -- which is there wherever the loading points hold the same,
  pub goes : (held after : Assignment) → IsConfigured fabric bits held → ((p : Point) → IsLoading text p → after p ≡ held p) → IsConfigured fabric bits after
  -- and which the points of the bits show
  pub shows : (inputs held now : Assignment) → IsConfigured fabric bits held → IsSettledOn (IsLoading text) text inputs held now → ShowsBits fabric bits now

-- the named points that the text declares are loading points
abbrev pub NamedAreLoading : PlainFabric → List PlainModule → Type 0
NamedAreLoading fabric text = (p : Point) → IsLoadingPoint fabric p → is_declared text p ≡ true → IsLoading text p

-- Loading has exactly one run, and the words of each bitstream load its bits.
pub record LoadsConfigurations (fabric : PlainFabric) (text : List PlainModule) : Type 0 where
  pub named : NamedAreLoading fabric text
  pub runs : RunsOnce text
  pub loads : (bits : PlainBits) → LoadsBits fabric text bits
