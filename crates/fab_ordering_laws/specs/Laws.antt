-- Blocks settle what is known.
use Rattle.std.specs.Prelude.{◌≡◌, ℕ, Bool, true, List}
use Rattle.fab_syntax.specs.Plain.{PlainExpr, PlainModule}
use Rattle.fab_syntax.specs.Sound.{IsSound}
use Rattle.fab_systems_laws.specs.Ternary.{known}
use Rattle.fab_meaning.specs.Points.{Path, Point, hold, Drives}
use Rattle.fab_meaning.specs.Settled.{Assignment}
use Rattle.fab_meaning.specs.Reads.{is_declared}
use Rattle.fab_meaning.specs.Loading.{IsLoading}
use Rattle.fab_sound.specs.Narrow.{AreNarrow}
use Rattle.fab_simulation_laws.specs.fab_state_Plain.{PlainState}
use Rattle.fab_ternary_laws.specs.Shown.{Terns}
use Rattle.fab_ordering_laws.specs.Ordered.{Moment, AreOrderedBlocks, enough, last, more, IsOrderedCycle, AreOrderedCycles, none, after, SimulatesInOrder}

-- loading sets each latch of the text
abbrev pub LatchesLoad : List PlainModule → Type 0
LatchesLoad text =
    (p : Point) (path : Path) (gate e : PlainExpr) (bit : ℕ) → is_declared text p ≡ true → Drives text p (hold path gate e bit) → IsLoading text p

-- Blocks have ended because the last one has changed no known point, and not because enough were made.
abbrev pub EndUnchanged : {text : List PlainModule} → {draws : ℕ → ℕ} → {most : ℕ} → {before after : Moment} →
    AreOrderedBlocks text draws most before after → Type 0
EndUnchanged enough = ⊥
EndUnchanged (last block unchanged) = Unit {0}
EndUnchanged (more block changes later) = EndUnchanged later

-- Each point that a solution knows has this value.
abbrev pub AllStand : List PlainModule → (solution : Terns) → Assignment → Type 0
AllStand text solution now = (p : Point) (value : Bool) → is_declared text p ≡ true → solution p ≡ known value → now p ≡ value

-- A cycle settles: some block changes no known point, and then each known point stands at the value of the least solution.
pub record Settles {text : List PlainModule} {state : PlainState} {draws : ℕ → ℕ} {values shown : List Bool} {before after : Moment}
    (cycle : IsOrderedCycle text state draws values shown before after) : Type 0 where
  pub unchanged : EndUnchanged cycle.blocks
  pub stand : AllStand text cycle.begun.solution cycle.at_rest.standing.now

abbrev pub EachSettles : {text : List PlainModule} → {state : PlainState} → {draws : ℕ → ℕ} → {before last : Moment} → {lines shown : List (List Bool)} →
    AreOrderedCycles text state draws before lines shown last → Type 0
EachSettles none = Unit {0}
EachSettles (after cycle later) = Settles cycle × EachSettles later

-- The law. In a sound text each of whose latches is a loading point, and where the widths of expressions are counted in 64 bits, each cycle of an ordered
-- simulation settles, whatever is drawn and given: the bound on the number of blocks is never reached.
abbrev pub OrderedBlocksSettle : Type 0
OrderedBlocksSettle =
    (text : List PlainModule) → IsSound text → AreNarrow text → LatchesLoad text →
    (state : PlainState) (draws : ℕ → ℕ) (words lines shown : List (List Bool)) (simulation : SimulatesInOrder text state draws words lines shown) →
    EachSettles simulation.cycles
