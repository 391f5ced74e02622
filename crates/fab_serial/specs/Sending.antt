-- What is sent to a serial port, and when the words come out behind it. Words are lists of bits, the least significant first.
use Rattle.std.specs.Prelude.{◌≡◌, ℕ, zero, suc, Bool, List, [], ◌∷◌, ◌++◌, map, reverse}
use Rattle.std.specs.List.{flat_map}
use Rattle.fab_loading_laws.specs.Latches as latches
use Rattle.fab_loading_laws.specs.Latches.{Turn}

-- what comes at the end of a moment: a tick of CLK with a bit, one without a bit, or a tick of another clock
pub data SerialTurn : Type 0 where
  bit : Bool → SerialTurn
  still : SerialTurn
  aside : SerialTurn

-- the bits of a word, bit 31 first and bit 0 last
abbrev pub sent : List Bool → List SerialTurn
sent word = map bit (reverse word)

-- the ticks of CLK among some turns
abbrev pub clocked : List SerialTurn → List SerialTurn
clocked [] = []
clocked (bit b ∷ turns) = bit b ∷ clocked turns
clocked (still ∷ turns) = still ∷ clocked turns
clocked (aside ∷ turns) = clocked turns

-- A tick without a bit, then the words one behind the other, and a tick without a bit. Other clocks may tick anywhere among them.
abbrev pub Sends : List (List Bool) → List SerialTurn → Type 0
Sends words turns = clocked turns ≡ still ∷ (flat_map sent words ++ still ∷ [])

-- ---- when words come out, where CLK alone ticks

abbrev pub pauses : ℕ → List Turn
pauses zero = []
pauses (suc n) = latches.pause ∷ pauses n

abbrev pub delivered_behind : List Bool → List (List Bool) → List Turn
delivered_behind last [] = latches.word last ∷ []
delivered_behind last (next ∷ words) = latches.word last ∷ (pauses 31 ++ delivered_behind next words)

-- Behind the first tick each word comes in the tick that follows its last bit: so the first one behind 32 pauses, and each further one behind 31.
abbrev pub delivered : List (List Bool) → List Turn
delivered [] = latches.pause ∷ []
delivered (next ∷ words) = pauses 32 ++ delivered_behind next words
