-- The registers of a serial port, and what each bit makes of them, apart from any expression of Verilog.
use Rattle.std.proofs.Common.{◌≡◌, ℕ, ◌+◌, ◌%◌, Bool, false, List, [], ◌∷◌, ◌++◌, All, nat_eq, take, if◌then◌else◌}
use Rattle.std.specs.List.{flat_map}
use Rattle.fab_loading_laws.specs.Latches as latches
use Rattle.fab_loading_laws.specs.Latches.{Turn, IsWord, words_of}
use Rattle.fab_serial.specs.Sending.{SerialTurn, bit, still, aside, sent, Sends, delivered}

pub record Registers : Type 0 where
  pub word : List Bool
  pub count : ℕ
  pub full : Bool

-- A bit goes in at the low end of the word. One is taken off the count, modulo 32, and the word is full where that was 1.
abbrev pub after_serial : Registers → SerialTurn → Registers
after_serial held (bit b) = record { word = b ∷ take 31 held.word; count = (held.count + 31) % 32; full = nat_eq held.count 1 }
after_serial held still = record { word = held.word; count = 0; full = false }
after_serial held aside = held

-- ---- what comes out

-- what stands behind the port as CLK ticks: the word where it is full
abbrev pub at_tick : Registers → Turn
at_tick held = if held.full then latches.word held.word else latches.pause

abbrev pub shows : Registers → SerialTurn → Turn
shows held (bit b) = at_tick held
shows held still = at_tick held
shows held aside = latches.other_clock

abbrev pub shown_turns : Registers → List SerialTurn → List Turn
shown_turns held [] = []
shown_turns held (turn ∷ turns) = shows held turn ∷ shown_turns (after_serial held turn) turns

-- the turns behind the first tick of CLK
abbrev pub behind_first : Registers → List SerialTurn → List Turn
behind_first held [] = []
behind_first held (bit b ∷ turns) = shown_turns (after_serial held (bit b)) turns
behind_first held (still ∷ turns) = shown_turns (after_serial held still) turns
behind_first held (aside ∷ turns) = behind_first held turns

-- Whatever the registers held, behind the first tick the words come out, each once and in their order.
abbrev pub PortsDeliver : Type 0
PortsDeliver = (words : List (List Bool)) (turns : List SerialTurn) (held : Registers) → All IsWord words → Sends words turns → words_of (behind_first held turns) ≡ words

-- Where no other clock ticks, each comes in the tick that follows its last bit.
abbrev pub PortsDeliverInTime : Type 0
PortsDeliverInTime =
    (words : List (List Bool)) (held : Registers) → All IsWord words → shown_turns (after_serial held still) (flat_map sent words ++ still ∷ []) ≡ delivered words
