-- What a simulation of a text shows: words are loaded from zeros, the registers of a state are set, and then cycle by cycle each pad of an output
-- port shows what the least ternary solution of the text has there.
use Rattle.std.specs.Prelude.{◌≡◌, ℕ, Bool, true, false, List, [], ◌∷◌, map, codes, if◌then◌else◌}
use Rattle.fab_syntax.specs.Plain.{PlainModule}
use Rattle.fab_systems_laws.specs.Ternary.{Tern, no, known}
use Rattle.fab_meaning.specs.Points.{Point, Driver, Drives}
use Rattle.fab_meaning.specs.Settled.{Assignment}
use Rattle.fab_meaning.specs.Reads.{is_declared, same_point}
use Rattle.fab_meaning.specs.Runs.{user_clock_name}
use Rattle.fab_meaning.specs.Loading.{IsLoading, Loads}
use Rattle.fab_implementation.specs.Plain.{Pad}
use Rattle.fab_use_defs.specs.fab_state_Plain.{Register, PlainState}
use Rattle.fab_prim.specs.Ports.{top_name}
use Rattle.fab_prim.specs.Modules.{flip_flop_name}
use Rattle.fab_ternary_laws.specs.Shown.{Terns}
use Rattle.fab_solutions_laws.specs.Solutions.{IsLeastSolution, tern_kept}
use Rattle.fab_use_defs.specs.Sites.{bel_point, top_point}

-- ---- what is held when use starts

abbrev pub zeros : Assignment
zeros p = false

-- Words are loaded while flip-flops and latches outside the loading points stay 0.
pub record IsLoaded (text : List PlainModule) (words : List (List Bool)) (held : Terns) : Type 0 where
  pub after : Assignment
  pub loads : Loads text words zeros after
  pub loaded : (p : Point) → IsLoading text p → held p ≡ known (after p)
  pub others : (p : Point) → (IsLoading text p → ⊥) → held p ≡ no

-- flip-flops at sites hold the values of a state; all else is held as before
abbrev pub with_registers : List Register → Terns → Terns
with_registers [] held p = held p
with_registers (register ∷ registers) held p =
    if same_point (bel_point register.0 flip_flop_name) p then known register.1 else with_registers registers held p

-- ---- what is given

-- The pads of input ports have these values at O_top, in the order of the ports; all other inputs are 0, WriteStrobe and the clocks among them.
abbrev pub given : List Pad → (values : List Bool) → Terns
given [] values p = no
given (pad ∷ pads) [] p = no
given (pad ∷ pads) (value ∷ values) p = if same_point (top_point pad.1 top_name) p then known value else given pads values p

-- ---- cycles

-- what the pads of output ports show, in the order of the ports
abbrev pub shown_at : List Pad → Terns → List Tern
shown_at pads t = map (λ pad. t (top_point pad.1 (codes "I_top"))) pads

-- what flip-flops and latches are left with at a tick of a clock
abbrev pub LeavesAt : List PlainModule → (clock : List ℕ) → (held t next : Terns) → Type 0
LeavesAt text clock held t next = (p : Point) (d : Driver) → is_declared text p ≡ true → Drives text p d → next p ≡ tern_kept text clock held t p d

-- A cycle: the least solution over what is held and given, what it shows, and what the tick of UserCLK leaves.
pub record IsCycle (text : List PlainModule) (state : PlainState) (held : Terns) (values : List Bool) (shown : List Tern) (next : Terns) : Type 0 where
  pub now : Terns
  pub least : IsLeastSolution text (given state.ins values) held now
  pub shows : shown ≡ shown_at state.outs now
  pub leaves : LeavesAt text user_clock_name held now next

-- Cycles one after the other, with the values given in each and what it shows, from what is held at first to what is held at last.
pub data AreCycles (text : List PlainModule) (state : PlainState) : (held : Terns) → (lines : List (List Bool)) → (shown : List (List Tern)) →
    (last : Terns) → Type 0 where
  none : {held : Terns} → AreCycles text state held [] [] held
  after : {held next last : Terns} {values : List Bool} {lines : List (List Bool)} {shown : List Tern} {later : List (List Tern)} →
      IsCycle text state held values shown next → AreCycles text state next lines later last → AreCycles text state held (values ∷ lines) (shown ∷ later) last

-- What a simulation shows for the lines of a stimulus.
pub record Simulates (text : List PlainModule) (state : PlainState) (words lines : List (List Bool)) (shown : List (List Tern)) : Type 0 where
  pub loaded : Terns
  pub is_loaded : IsLoaded text words loaded
  pub last : Terns
  pub cycles : AreCycles text state (with_registers state.ffs loaded) lines shown last
