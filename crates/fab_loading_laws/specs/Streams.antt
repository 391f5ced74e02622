-- What the words of a bitstream leave in the loader and in the configuration latches, however the clocks tick between them.
use Rattle.std.specs.Prelude.{◌≡◌, ◌<◌, ℕ, Bool, false, List, map, Some}
use Rattle.fab_bits.specs.Bits.{digits}
use Rattle.fab_gen_loader.specs.fab_model.specs.declared.mode.Mode.TheVariants as modes
use Rattle.fab_gen_loader.specs.fab_model.specs.Grid.{PlainFabric}
use Rattle.fab_gen_loader.specs.fab_model.specs.Drive.{PlainBits}
use Rattle.fab_frames.specs.fab_fabric.specs.Fabric.{IsFabric}
use Rattle.fab_gen_loader.specs.Machine.{Machine, Word, tick}
use Rattle.fab_frames.specs.Stream.{stream_mode, stream, bit_placed_at}
use Rattle.fab_loading_laws.specs.Latches.{IsWord, IsMachine, LatchPlace, Turn, words_of, after_turns, latch_after}

-- the words of a bitstream as bits
abbrev pub stream_words : PlainFabric → PlainBits → List Word
stream_words fabric bits = map (digits 32) (stream fabric bits)

-- the latch stands in the fabric
pub record IsLatchPlace (fabric : PlainFabric) (place : LatchPlace) : Type 0 where
  pub column : place.x < fabric.columns
  pub row : place.y < fabric.rows
  pub frame : place.frame < 20
  pub bit : place.bit < 32

-- After such turns the loader waits with its strobe 0, and each latch, whatever it held, holds the configuration bit that is placed there.
pub record IsLoaded (fabric : PlainFabric) (bits : PlainBits) (machine : Machine) (turns : List Turn) : Type 0 where
  pub state : (after_turns fabric.rows machine turns).state ≡ 0
  pub strobe : (after_turns fabric.rows machine turns).strobe ≡ false
  pub latches : (place : LatchPlace) (number : ℕ) (held : Bool) → IsLatchPlace fabric place →
      bit_placed_at fabric place.x place.y place.frame place.bit ≡ Some number →
      latch_after fabric.rows machine place held turns ≡ bits place.x place.y number

-- The words of a bitstream in frames load its bits from every machine, whatever turns without words come before, between and behind them.
abbrev pub StreamsLoad : Type 0
StreamsLoad =
    (fabric : PlainFabric) (bits : PlainBits) (machine : Machine) (turns : List Turn) → stream_mode fabric ≡ modes.Frames → IsFabric fabric →
    IsMachine fabric.rows machine → words_of turns ≡ stream_words fabric bits → IsLoaded fabric bits machine turns

-- What registers can hold, they can hold after a tick.
abbrev pub TicksKeepMachines : Type 0
TicksKeepMachines =
    (rows : ℕ) (machine : Machine) (write : Bool) (word : Word) → rows < 32 → IsMachine rows machine → IsWord word → IsMachine rows (tick rows machine write word)
