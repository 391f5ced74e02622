-- Serial loading of a text, and what the fabric behind the port sees of it.
use Rattle.std.specs.Prelude.{◌≡◌, ◌≢◌, ◌<◌, ℕ, Bool, true, false, List, [], ◌∷◌, All, map}
use Rattle.std.specs.List.{AllZip}
use Rattle.fab_syntax.specs.Plain.{PlainModule}
use Rattle.fab_meaning.specs.Value.{bit_at}
use Rattle.fab_meaning.specs.Points.{Point, point}
use Rattle.fab_meaning.specs.Settled.{Assignment, IsSettledOn}
use Rattle.fab_meaning.specs.Runs.{clock_name, AreClocksLow, Ticks, Moment}
use Rattle.fab_meaning.specs.Loading.{IsStreamOf, IsLed, write_strobe_name, write_data_name}
use Rattle.fab_loading_laws.specs.Latches as latches
use Rattle.fab_loading_laws.specs.Latches.{Turn, IsWord, words_of}
use Rattle.fab_serial.specs.Module.{serial_strobe_name, serial_data_name, fabric_instance_name}
use Rattle.fab_serial.specs.Sending.{SerialTurn, bit, still, aside, Sends, delivered}

-- ---- the points

abbrev pub serial_names : List (List ℕ)
serial_names = clock_name ∷ serial_strobe_name ∷ serial_data_name ∷ []

-- the inputs that carry bits
abbrev pub IsSerialStream : List PlainModule → Point → Type 0
IsSerialStream text p = IsStreamOf text serial_names p

-- the points that bits lead to
abbrev pub IsSerialLoading : List PlainModule → Point → Type 0
IsSerialLoading text p = IsLed text (IsSerialStream text) p

-- ---- what is sent

abbrev pub strobe_point : Point
strobe_point = point [] serial_strobe_name 0

abbrev pub data_point : Point
data_point = point [] serial_data_name 0

-- what the inputs of the top are as a clock ticks
abbrev pub IsSerialTurn : SerialTurn → Moment → Type 0
IsSerialTurn (bit b) moment = (moment.clock ≡ clock_name) × (moment.inputs strobe_point ≡ true) × (moment.inputs data_point ≡ b)
IsSerialTurn still moment = (moment.clock ≡ clock_name) × (moment.inputs strobe_point ≡ false)
IsSerialTurn aside moment = moment.clock ≢ clock_name

-- In these moments the words are sent: CLK ticks once without a bit, then once for each bit, and once without a bit.
pub record SendsWords (words : List (List Bool)) (moments : List Moment) : Type 0 where
  pub turns : List SerialTurn
  pub each : AllZip IsSerialTurn turns moments
  pub sends : Sends words turns

-- ---- what the fabric sees

-- a moment of a run with what its points show
pub record Shown : Type 0 where
  pub moment : Moment
  pub now : Assignment

abbrev pub moments_of : List Shown → List Moment
moments_of run = map (λ shown. shown.moment) run

-- a run, moment by moment with what it shows
abbrev pub IsShownRunOn : (Point → Type 0) → List PlainModule → List Shown → (held after : Assignment) → Type 0
IsShownRunOn Has text [] held after = (p : Point) → Has p → after p ≡ held p
IsShownRunOn Has text (shown ∷ more) held after =
    (next : Assignment) × IsSettledOn Has text shown.moment.inputs held shown.now × AreClocksLow shown.now
    × Ticks Has text shown.moment.clock held shown.now next × IsShownRunOn Has text more next after

abbrev pub fabric_strobe : Point
fabric_strobe = point (fabric_instance_name ∷ []) write_strobe_name 0

abbrev pub fabric_data : (place : ℕ) → Point
fabric_data place = point (fabric_instance_name ∷ []) write_data_name place

-- what stands at the fabric's inputs as a clock ticks
abbrev pub Sees : Turn → Shown → Type 0
Sees (latches.word word) shown =
    (shown.moment.clock ≡ clock_name) × (shown.now fabric_strobe ≡ true) × ((place : ℕ) → place < 32 → shown.now (fabric_data place) ≡ bit_at word place)
Sees latches.pause shown = (shown.moment.clock ≡ clock_name) × (shown.now fabric_strobe ≡ false)
Sees latches.other_clock shown = shown.moment.clock ≢ clock_name

-- the moments behind the first tick of CLK
pub data BehindFirst : List Shown → List Shown → Type 0 where
  ticks : {shown : Shown} {more : List Shown} → shown.moment.clock ≡ clock_name → BehindFirst (shown ∷ more) more
  waits : {shown : Shown} {more behind : List Shown} → shown.moment.clock ≢ clock_name → BehindFirst more behind → BehindFirst (shown ∷ more) behind

-- In these moments the fabric sees the words, each once and in their order.
pub record Delivers (words : List (List Bool)) (behind : List Shown) : Type 0 where
  pub turns : List Turn
  pub each : AllZip Sees turns behind
  pub words_are : words_of turns ≡ words
  -- Where CLK alone ticks, each comes in the tick that follows its last bit.
  pub in_time : All (λ shown. shown.moment.clock ≡ clock_name) behind → turns ≡ delivered words

-- Whatever was held, in each serial loading the fabric sees the words that are sent, from the second tick of CLK on.
abbrev pub DeliversSerially : List PlainModule → Type 0
DeliversSerially text =
    (words : List (List Bool)) (run : List Shown) (held after : Assignment) → All IsWord words → SendsWords words (moments_of run) →
    IsShownRunOn (IsSerialLoading text) text run held after → (behind : List Shown) × BehindFirst run behind × Delivers words behind
