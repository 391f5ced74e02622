-- Each cycle settles.
use Rattle.std.proofs.Common.{◌≡◌, ℕ, suc, ◌+◌, List, [], ◌∷◌, Bool, length, refl, sym, ◌∙◌, subst, arith}
use Rattle.fab_syntax.specs.Plain.{PlainModule}
use Rattle.fab_meaning.specs.Points.{Point}
use Rattle.fab_meaning.specs.Loading.{IsLoading}
use Rattle.fab_meaning.specs.Loaded.{LoadedPointsStay, IsLoaded}
use Rattle.fab_equations.specs.Instances.{points}
use Rattle.fab_simulation_laws.specs.fab_state_Plain.{PlainState}
use Rattle.fab_solutions_laws.specs.Laws.{DriversGrow, DriversFit}
use Rattle.fab_simulation_laws.specs.Laws.{LoadingIsKnown}
use Rattle.fab_ordering_laws.specs.Ordered.{Moment, IsStart, IsBegun, IsOrderedCycle, AreOrderedCycles, none, after}
use Rattle.fab_ordering_laws.specs.Laws.{EndUnchanged, AllStand, Settles, EachSettles, OrderedBlocksSettle}
use Rattle.fab_ordering_laws.proofs.Orders.{HasAll, first_order}
use Rattle.fab_ordering_laws.proofs.Loading.{loaded_still, loaded_ticked, named_unloaded}
use Rattle.fab_ordering_laws.proofs.Setting.{Setting}
use Rattle.fab_ordering_laws.proofs.Blocks.{Keeps, IsAt, holds_same, first_stands, blocks_settle}

module _ (s : Setting) (state : PlainState) (draws : ℕ → ℕ) where
  -- a moment between cycles, or when one has begun
  pub record IsReady (moment : Moment) : Type 0 where
    pub all : HasAll s.text moment.order
    pub loaded : IsLoaded s.text moment.standing

  pub start_ready : (words : List (List Bool)) (moment : Moment) → IsStart s.text state draws words moment → IsReady moment
  start_ready words moment starts = record {
    all = subst (HasAll s.text) (sym starts.order) (first_order s.text);
    loaded = starts.settled;
  }

  module _ (values shown : List Bool) (before next : Moment) (cycle : IsOrderedCycle s.text state draws values shown before next) (ready : IsReady before) where
    -- inputs change, and none of them is a loading point
    pub loading_still : (p : Point) → IsLoading s.text p → cycle.begun.standing.now p ≡ before.standing.now p
    loading_still p loads =
        cycle.begins.others p (λ named. named_unloaded s.text s.sound state p named loads) (λ free. free.unloaded loads)

    pub begun_loaded : IsLoaded s.text cycle.begun.standing
    begun_loaded = loaded_still s.text s.sound before.standing cycle.begun.standing ready.loaded cycle.begins.held loading_still

    at_first : IsAt s cycle.begun.standing cycle.begun.solution cycle.begins.least begun_loaded cycle.begun
    at_first = record {
      keeps = record {
        loaded = begun_loaded;
        loading = λ p loads. refl;
        inputs = λ p drives. refl;
        holding = λ p d drives. holds_same d (cycle.begun.standing.held p) (cycle.begun.standing.held p) refl;
      };
      all = subst (HasAll s.text) (sym cycle.begins.order) ready.all;
      solution_is = refl;
    }

    done : EndUnchanged cycle.blocks
        × IsAt s cycle.begun.standing cycle.begun.solution cycle.begins.least begun_loaded cycle.at_rest
        × AllStand s.text cycle.begun.solution cycle.at_rest.standing.now
    done =
        blocks_settle s cycle.begun.standing cycle.begun.solution cycle.begins.least begun_loaded draws (1 + length (points s.text)) 0
        cycle.begun cycle.at_rest cycle.blocks (omega arith) (omega arith) at_first
        (first_stands s cycle.begun.standing cycle.begun.solution cycle.begins.least begun_loaded cycle.begun.standing.now)

    pub settles : Settles cycle
    settles = record { unchanged = done.0; stand = done.2 }

    pub keeps : Keeps s cycle.begun.standing cycle.at_rest.standing
    keeps = done.1.keeps

    pub next_ready : IsReady next
    next_ready = record {
      all = subst (HasAll s.text) (sym cycle.ends.order) done.1.all;
      loaded = loaded_ticked s.text s.sound cycle.at_rest.standing next.standing done.1.keeps.loaded cycle.ends.ticks;
    }

  each_settles : (before last : Moment) (lines shown : List (List Bool)) (cycles : AreOrderedCycles s.text state draws before lines shown last) →
      IsReady before → EachSettles cycles
  each_settles before last [] shown none ready = tt
  each_settles before last (values ∷ lines) shown (after {next = next} {shown = first} {later = later} cycle rest) ready =
      (settles values first before next cycle ready, each_settles next last lines later rest (next_ready values first before next cycle ready))

pub ordered_blocks_settle : LoadedPointsStay → LoadingIsKnown → DriversGrow → DriversFit → OrderedBlocksSettle
ordered_blocks_settle stay knows grow fit text sound narrow latches state draws words lines shown simulation =
    let s : Setting = record {
      stay = stay;
      knows = knows;
      grow = grow;
      fit = fit;
      text = text;
      sound = sound;
      narrow = narrow;
      latches = latches;
    } in
    each_settles s state draws simulation.start simulation.last lines shown simulation.cycles (start_ready s state draws words simulation.start simulation.starts)
