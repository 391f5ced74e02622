-- Ordered simulation: the points of a loaded text are activated one by one, in an order that words of a generator draw, from garbage that they draw too.
use Rattle.std.specs.Prelude.{◌≡◌, ◌≢◌, ◌⊎◌, ℕ, suc, ◌+◌, ◌-◌, Bool, true, false, List, [], ◌∷◌, length, map, codes, Contains}
use Rattle.std.specs.List.{AllZip, range_with_len}
use Rattle.fab_draws.specs.Draws.{behind, is_one}
use Rattle.fab_draws.specs.Shuffled.{shuffled}
use Rattle.fab_syntax.specs.Plain.{PlainModule}
use Rattle.fab_systems_laws.specs.Ternary.{known}
use Rattle.fab_meaning.specs.Points.{Point, Driver, outside, Drives, IsStored}
use Rattle.fab_meaning.specs.Settled.{Assignment}
use Rattle.fab_meaning.specs.Reads.{is_declared}
use Rattle.fab_meaning.specs.Runs.{user_clock_name, kept}
use Rattle.fab_meaning.specs.Activation.{State, activate, IsStep, AreSteps}
use Rattle.fab_meaning.specs.Loading.{IsLoading, IsStream}
use Rattle.fab_meaning.specs.Loaded as settled_by
use Rattle.fab_equations.specs.Instances.{points}
use Rattle.fab_equations.specs.Equations.{IsPoint}
use Rattle.fab_ternary_laws.specs.Shown.{Terns}
use Rattle.fab_solutions_laws.specs.Solutions.{IsLeastSolution}
use Rattle.fab_simulation_laws.specs.fab_state_Plain.{PlainState}
use Rattle.fab_prim.specs.Ports.{top_name}
use Rattle.fab_prim.specs.Modules.{flip_flop_name}
use Rattle.fab_simulation_laws.specs.fab_use_defs_Sites.{bel_point, top_point}
use Rattle.fab_simulation_laws.specs.Simulation.{IsLoaded, with_registers, given}

-- Where an ordered simulation stands: what the points have and what is held, the least ternary solution of the present cycle, the order in which points were
-- activated last, by their numbers, and how many words have been drawn.
pub record Moment : Type 0 where
  pub standing : State
  pub solution : Terns
  pub order : List ℕ
  pub drawn : ℕ

-- ---- what is drawn

-- In the order of a list each point of a set takes bit 0 of one word; `first` words were drawn before, and `next` with them.
pub data AreDrawn (draws : ℕ → ℕ) (Has : Point → Type 0) (values : Assignment) : List Point → (first next : ℕ) → Type 0 where
  none : {first : ℕ} → AreDrawn draws Has values [] first first
  passes : {p : Point} {ps : List Point} {first next : ℕ} → (Has p → ⊥) → AreDrawn draws Has values ps first next →
      AreDrawn draws Has values (p ∷ ps) first next
  takes : {p : Point} {ps : List Point} {first next : ℕ} → Has p → values p ≡ is_one (draws first) → AreDrawn draws Has values ps (1 + first) next →
      AreDrawn draws Has values (p ∷ ps) first next

-- ---- the start

-- a flip-flop of the state
abbrev pub IsNamedRegister : PlainState → Point → Type 0
IsNamedRegister state p = Contains (map (λ register. bel_point register.0 flip_flop_name) state.ffs) p

-- Words are loaded. The loading points are settled over what loading and the state leave in their flip-flops and latches, while no word is offered. Each
-- other point has a value that is drawn, and its flip-flop or latch holds this too, where the state does not say what it holds.
pub record IsStart (text : List PlainModule) (state : PlainState) (draws : ℕ → ℕ) (words : List (List Bool)) (moment : Moment) : Type 0 where
  pub left : Terns
  pub is_left : IsLoaded text words left
  pub keeps : (p : Point) → is_declared text p ≡ true → IsLoading text p ⊎ IsNamedRegister state p →
      known (moment.standing.held p) ≡ with_registers state.ffs left p
  pub quiet : (p : Point) → IsStream text p → moment.standing.now p ≡ false
  pub settled : settled_by.IsLoaded text moment.standing
  pub drawn : AreDrawn draws (λ p. IsLoading text p → ⊥) moment.standing.now (points text) 0 moment.drawn
  pub others : (p : Point) (d : Driver) → is_declared text p ≡ true → (IsLoading text p → ⊥) → (IsNamedRegister state p → ⊥) → Drives text p d → IsStored d →
      moment.standing.held p ≡ moment.standing.now p
  pub order : moment.order ≡ range_with_len 0 (length (points text))

-- ---- a cycle

-- an input of the top that is an input port of the state
pub record IsNamedInput (text : List PlainModule) (state : PlainState) (p : Point) : Type 0 where
  pub input : Drives text p outside
  pub named : Contains (map (λ pad. top_point pad.1 top_name) state.ins) p

-- an input of the top that is no loading point, no clock, and no input port of the state
pub record IsFreeInput (text : List PlainModule) (state : PlainState) (p : Point) : Type 0 where
  pub input : Drives text p outside
  pub declared : is_declared text p ≡ true
  pub unloaded : IsLoading text p → ⊥
  pub no_clock : p.name ≢ user_clock_name
  pub unnamed : IsNamedInput text state p → ⊥

-- The inputs of the state have these values, all other free inputs drawn ones. What is known in this cycle is what the least ternary solution knows.
pub record IsBegun (text : List PlainModule) (state : PlainState) (draws : ℕ → ℕ) (values : List Bool) (before after : Moment) : Type 0 where
  pub named : (p : Point) → IsNamedInput text state p → known (after.standing.now p) ≡ given state.ins values p
  pub drawn : AreDrawn draws (IsFreeInput text state) after.standing.now (points text) before.drawn after.drawn
  pub others : (p : Point) → (IsNamedInput text state p → ⊥) → (IsFreeInput text state p → ⊥) → after.standing.now p ≡ before.standing.now p
  pub held : (p : Point) → after.standing.held p ≡ before.standing.held p
  pub least : IsLeastSolution text (λ p. known (after.standing.now p)) (λ p. known (after.standing.held p)) after.solution
  pub order : after.order ≡ before.order

-- The order is shuffled, and each point is activated in its turn.
pub record IsOrderedBlock (text : List PlainModule) (draws : ℕ → ℕ) (before after : Moment) : Type 0 where
  pub order : after.order ≡ shuffled (length before.order) (behind before.drawn draws) before.order
  pub drawn : after.drawn ≡ before.drawn + (length before.order - 1)
  pub activated : List Point
  pub numbered : AllZip (IsPoint text) after.order activated
  pub steps : AreSteps (IsStep text) (map activate activated) before.standing after.standing
  pub solution : after.solution ≡ before.solution

-- a point that is known in this cycle has changed
pub record ChangesKnown (text : List PlainModule) (before after : Moment) : Type 0 where
  pub p : Point
  pub declared : is_declared text p ≡ true
  pub value : Bool
  pub is_known : before.solution p ≡ known value
  pub changed : after.standing.now p ≢ before.standing.now p

-- blocks until one has changed no known point, or until this many have been made
pub data AreOrderedBlocks (text : List PlainModule) (draws : ℕ → ℕ) : (most : ℕ) → (before after : Moment) → Type 0 where
  enough : {moment : Moment} → AreOrderedBlocks text draws 0 moment moment
  last : {most : ℕ} {before after : Moment} → IsOrderedBlock text draws before after → (ChangesKnown text before after → ⊥) →
      AreOrderedBlocks text draws (suc most) before after
  more : {most : ℕ} {before between after : Moment} → IsOrderedBlock text draws before between → ChangesKnown text before between →
      AreOrderedBlocks text draws most between after → AreOrderedBlocks text draws (suc most) before after

-- At a tick of UserCLK no point moves, and what the driver of each declared point keeps is held from then on.
pub record IsUserTick (text : List PlainModule) (before after : State) : Type 0 where
  pub stays : (p : Point) → after.now p ≡ before.now p
  pub keeps : (p : Point) (d : Driver) → is_declared text p ≡ true → Drives text p d → after.held p ≡ kept text user_clock_name before.held before.now p d

-- The pads of output ports are read, and UserCLK ticks.
pub record IsEnd (text : List PlainModule) (state : PlainState) (shown : List Bool) (before after : Moment) : Type 0 where
  pub shows : shown ≡ map (λ pad. before.standing.now (top_point pad.1 (codes "I_top"))) state.outs
  pub ticks : IsUserTick text before.standing after.standing
  pub solution : after.solution ≡ before.solution
  pub order : after.order ≡ before.order
  pub drawn : after.drawn ≡ before.drawn

-- A cycle on a line of a stimulus, with at most one block more than there are points.
pub record IsOrderedCycle (text : List PlainModule) (state : PlainState) (draws : ℕ → ℕ) (values shown : List Bool) (before after : Moment) : Type 0 where
  pub begun : Moment
  pub at_rest : Moment
  pub begins : IsBegun text state draws values before begun
  pub blocks : AreOrderedBlocks text draws (1 + length (points text)) begun at_rest
  pub ends : IsEnd text state shown at_rest after

-- Cycles one after the other, with the values given in each and what it shows.
pub data AreOrderedCycles (text : List PlainModule) (state : PlainState) (draws : ℕ → ℕ) : (before : Moment) → (lines shown : List (List Bool)) →
    (last : Moment) → Type 0 where
  none : {moment : Moment} → AreOrderedCycles text state draws moment [] [] moment
  after : {before next last : Moment} {values shown : List Bool} {lines later : List (List Bool)} → IsOrderedCycle text state draws values shown before next →
      AreOrderedCycles text state draws next lines later last → AreOrderedCycles text state draws before (values ∷ lines) (shown ∷ later) last

-- What an ordered simulation shows for the lines of a stimulus.
pub record SimulatesInOrder (text : List PlainModule) (state : PlainState) (draws : ℕ → ℕ) (words lines shown : List (List Bool)) : Type 0 where
  pub start : Moment
  pub starts : IsStart text state draws words start
  pub last : Moment
  pub cycles : AreOrderedCycles text state draws start lines shown last
