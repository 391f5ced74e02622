-- How a machine goes through cycles, one line after the other.
use Rattle.std.proofs.Common.{◌≡◌, ◌<◌, ◌+◌, ℕ, Bool, List, [], ◌∷◌, ◌++◌, length, map, drop, get_or, refl, sym, ap, ◌∙◌, add-one, subst}
use Rattle.std.proofs.lemmas.List.{append-nil, append_assoc, length-map}
use Rattle.std.proofs.Math.Seq.{drop-cons}
use Rattle.std.proofs.Math.ListN.{get_or-map}
use Rattle.std.proofs.lemmas.List.Elements.{All-get_or}
use Rattle.fab_syntax.specs.Plain.{PlainModule}
use Rattle.fab_systems_laws.specs.Ternary.{Tern}
use Rattle.fab_ternary_laws.specs.Shown.{Terns}
use Rattle.fab_state.specs.Plain.{PlainState}
use Rattle.fab_sim.specs.fab_simulation_laws_Simulation.{AreCycles, IsCycle, IsLoaded, Simulates, after, none, with_registers}
use Rattle.fab_sim.specs.fab_simulation_laws_Laws.{SimulationsExist}
use Rattle.fab_sim.specs.declared.machine.Machine.{Machine}
use Rattle.fab_sim.specs.Machine.{IsAt, IsNew}
use Rattle.fab_simulate_command.specs.inner.Going.{AreFull, GoesThrough}
use Rattle.fab_simulate_command.proofs.Clocks.{stream_has_clocks}

-- what is left of lists, each seen by a view, begins with the next
pub drop_mapped : {X Y : Type 0} (view : X → Y) (items : List X) (place : ℕ) (item : X) → place < length items → item ≡ get_or items place item →
    drop place (map view items) ≡ view item ∷ drop (place + 1) (map view items)
drop_mapped view items place item below is =
    let seen : view item ≡ get_or (map view items) place (view item) = ap view is ∙ sym (get_or-map view items place item) in
    rw (add-one, seen) (drop-cons (map view items) place (view item) (subst (λ n. place < n) (sym (length-map items view)) below))

-- each of lists seen by a view has what all have
pub full_at : {X : Type 0} (view : X → List Bool) (items : List X) (state : PlainState) (place : ℕ) (item : X) → place < length items → item ≡ get_or items place item →
    AreFull state (map view items) → length (view item) ≡ length state.ins
full_at view items state place item below is full =
    let seen : view item ≡ get_or (map view items) place (view item) = ap view is ∙ sym (get_or-map view items place item) in
    ap length seen ∙ All-get_or (λ values. length values ≡ length state.ins) (map view items) place (view item) (subst (λ n. place < n) (sym (length-map items view)) below) full

-- A machine has gone through cycles that showed `done` of what is shown, and goes on through the lines that are left.
pub record HasGone (text : List PlainModule) (state : PlainState) (machine : Machine) (left : List (List Bool)) (shown done : List (List Tern)) : Type 0 where
  pub rest : List (List Tern)
  pub parted : shown ≡ done ++ rest
  pub goes : GoesThrough text state machine left rest

pub starts : (text : List PlainModule) (state : PlainState) (machine : Machine) (lines : List (List Bool)) (shown : List (List Tern)) → GoesThrough text state machine lines shown →
    HasGone text state machine lines shown []
starts text state machine lines shown goes = record { rest = shown; parted = refl; goes = goes }

-- the first cycle of some
pub record FirstCycle (text : List PlainModule) (state : PlainState) (held : Terns) (values : List Bool) (lines : List (List Bool)) (shown : List (List Tern)) (last : Terns) : Type 0 where
  pub first : List Tern
  pub later : List (List Tern)
  pub next : Terns
  pub shown_is : shown ≡ first ∷ later
  pub cycle : IsCycle text state held values first next
  pub cycles : AreCycles text state next lines later last

pub first_cycle : (text : List PlainModule) (state : PlainState) (held last : Terns) (values : List Bool) (lines : List (List Bool)) (shown : List (List Tern)) →
    AreCycles text state held (values ∷ lines) shown last → FirstCycle text state held values lines shown last
first_cycle text state held last values lines [] cycles = elim cycles [ ]
first_cycle text state held last values lines (first ∷ later) (after {next = next} cycle cycles) =
    record { first = first; later = later; next = next; shown_is = refl; cycle = cycle; cycles = cycles }

-- no cycle shows nothing
pub ended : (text : List PlainModule) (state : PlainState) (held last : Terns) (shown : List (List Tern)) → AreCycles text state held [] shown last → shown ≡ []
ended text state held last [] none = refl
ended text state held last (first ∷ later) cycles = elim cycles [ ]

-- what stands behind a cycle that shows the next
pub goes_on : (text : List PlainModule) (state : PlainState) (before machine : Machine) (values : List Bool) (lines : List (List Bool)) (shown done : List (List Tern)) (outputs : List Tern)
    (gone : HasGone text state before (values ∷ lines) shown done) →
    ((held next : Terns) (first : List Tern) → IsAt text state before held → IsCycle text state held values first next → (outputs ≡ first) × IsAt text state machine next) →
    HasGone text state machine lines shown (done ++ outputs ∷ [])
goes_on text state before machine values lines shown done outputs gone shows =
    let goes = gone.goes in
    let first = first_cycle text state goes.held goes.last values lines gone.rest goes.cycles in
    let come = shows goes.held first.next first.first goes.at first.cycle in
    record {
      rest = first.later;
      parted = gone.parted ∙ ap (λ (r : List (List Tern)). done ++ r) (first.shown_is ∙ ap (λ (o : List Tern). o ∷ first.later) (sym come.0)) ∙ sym (append_assoc done (outputs ∷ []) first.later);
      goes = record { held = first.next; last = goes.last; at = come.1; cycles = first.cycles };
    }

-- where no line is left, all is shown
pub all_shown : (text : List PlainModule) (state : PlainState) (machine : Machine) (shown done : List (List Tern)) → HasGone text state machine [] shown done → done ≡ shown
all_shown text state machine shown done gone =
    let none_left : gone.rest ≡ [] = ended text state gone.goes.held gone.goes.last gone.rest gone.goes.cycles in
    sym (gone.parted ∙ ap (λ (r : List (List Tern)). done ++ r) none_left ∙ append-nil done)

-- ---- words

-- a machine to which no word has been loaded has a simulation
pub has_simulation : SimulationsExist → (text : List PlainModule) (state : PlainState) (machine : Machine) (words lines : List (List Bool)) → IsNew text state machine →
    (shown : List (List Tern)) × Simulates text state words lines shown
has_simulation exist text state machine words lines new =
    exist text state words lines new.of.network.sound new.of.network.narrow (stream_has_clocks text new.of.stands.has)

-- where the words are loaded, it goes through the cycles of a simulation
pub goes_from_new : (text : List PlainModule) (state : PlainState) (machine : Machine) (words lines : List (List Bool)) (shown : List (List Tern))
    (simulates : Simulates text state words lines shown) → ((loaded : Terns) → IsLoaded text words loaded → IsAt text state machine (with_registers state.ffs loaded)) →
    GoesThrough text state machine lines shown
goes_from_new text state machine words lines shown simulates at = record {
  held = with_registers state.ffs simulates.loaded;
  last = simulates.last;
  at = at simulates.loaded simulates.is_loaded;
  cycles = simulates.cycles;
}
