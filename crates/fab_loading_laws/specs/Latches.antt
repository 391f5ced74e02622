-- What the loader and a configuration latch hold as words come in, apart from any text: a latch takes a bit of a row while the strobe of its
-- frame is 1. Between words the clocks may tick as they like.
use Rattle.std.specs.Prelude.{◌≡◌, ◌<◌, ℕ, Bool, true, false, ◌&&◌, List, [], ◌∷◌, All, length, nat_eq, slice_range, slice_index_or, if◌then◌else◌}
use Rattle.fab_bits.specs.Bits.{number}
use Rattle.fab_gen_loader.specs.fab_meaning.specs.Value.{bit_at}
use Rattle.fab_gen_loader.specs.Machine.{Machine, Word, tick}

abbrev pub IsWord : Word → Type 0
IsWord word = length word ≡ 32

-- what the registers of a loader of so many rows can hold
pub record IsMachine (rows : ℕ) (machine : Machine) : Type 0 where
  pub state : machine.state < 4
  pub count : machine.count < 32
  pub address : IsWord machine.address
  pub as_many : length machine.rows ≡ rows
  pub words : All IsWord machine.rows

-- ---- turns

-- what the loader sees at the end of a moment: a word at a tick of its clock, such a tick without a word, or a tick of another clock
pub data Turn : Type 0 where
  word : Word → Turn
  pause : Turn
  other_clock : Turn

abbrev pub words_of : List Turn → List Word
words_of [] = []
words_of (word offered ∷ turns) = offered ∷ words_of turns
words_of (pause ∷ turns) = words_of turns
words_of (other_clock ∷ turns) = words_of turns

abbrev pub after_turn : (rows : ℕ) → Machine → Turn → Machine
after_turn rows machine (word offered) = tick rows machine true offered
after_turn rows machine pause = tick rows machine false []
after_turn rows machine other_clock = machine

abbrev pub after_turns : (rows : ℕ) → Machine → List Turn → Machine
after_turns rows machine [] = machine
after_turns rows machine (turn ∷ turns) = after_turns rows (after_turn rows machine turn) turns

-- ---- a latch

-- the place of a configuration latch: a column, a row, a frame of the column and a bit of the row's word
pub record LatchPlace : Type 0 where
  pub x : ℕ
  pub y : ℕ
  pub frame : ℕ
  pub bit : ℕ

-- whether the strobe of the latch is 1: that of the loader is, and the address names the column in its five high bits and has the frame's bit
abbrev pub is_open : Machine → LatchPlace → Bool
is_open machine place =
    machine.strobe && (nat_eq (number (slice_range machine.address 27 32)) place.x && bit_at machine.address place.frame)

-- what the latch shows
abbrev pub latch_shows : Machine → LatchPlace → (held : Bool) → Bool
latch_shows machine place held = if is_open machine place then bit_at (slice_index_or machine.rows place.y []) place.bit else held

-- what it holds after turns: at the end of each it keeps what it shows before
abbrev pub latch_after : (rows : ℕ) → Machine → LatchPlace → (held : Bool) → List Turn → Bool
latch_after rows machine place held [] = held
latch_after rows machine place held (turn ∷ turns) =
    latch_after rows (after_turn rows machine turn) place (latch_shows machine place held) turns
