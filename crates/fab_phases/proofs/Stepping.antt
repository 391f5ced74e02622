-- A piece that is loaded: what is given stays kept, and the step is done.
use Rattle.std.proofs.Common.{◌≡◌, ◌⊎◌, ℕ, ◌+◌, ◌-◌, ◌<◌, ◌≤◌, Bool, List, [], ◌∷◌, ◌++◌, length, map, append-nil, Option, Some, refl, sym, ap, ◌∙◌, subst, inl, inr, arith}
use Rattle.std.specs.List.{flat_map, slice_get}
use Rattle.std.proofs.lemmas.Bool.{cases_lt}
use Rattle.std.proofs.lemmas.List.{map-append}
use Rattle.std.proofs.lemmas.List.Concat.{flat_map-append}
use Rattle.std.proofs.lemmas.Option.{slice_get_within}
use Rattle.fab_meaning.specs.Loading.{single_bits}
use Rattle.fab_systems_laws.specs.Ternary.{unknown, IsBelow, Tern as PlainTern}
use Rattle.fab_ternary_laws.specs.Shown.{through}
use Rattle.fab_ternary.specs.declared.Tern.{Tern}
use Rattle.fab_compiled.specs.Leading.{PointTerns, IsMarked}
use Rattle.fab_network.specs.declared.network.Clock.TheVariants.{Loader}
use Rattle.fab_network.specs.declared.network.Drive.{Drive}
use Rattle.fab_network.specs.declared.network.Drive.TheVariants.{Given, Flop, Hold}
use Rattle.fab_network.specs.declared.network.Network.{Network}
use Rattle.fab_network.specs.declared.network.Source.{Source}
use Rattle.fab_network.specs.Network.{source_tern}
use Rattle.fab_network.specs.Passes.{kept_tern}
use Rattle.fab_network.specs.Solved.{asked_by, IsLeast, Solves}
use Rattle.fab_demand.specs.Asked.{Asked, DiffersInOwn, IsPossible}
use Rattle.fab_demand.specs.Demand.{IsAsked, IsKept, IsKeptBy, ShowsLeast}
use Rattle.fab_phases.specs.Lists.{HasOne}
use Rattle.fab_phases.specs.Loading.{AreLoading, IsInRuns}
use Rattle.fab_phases.specs.Words.{AreLoadSteps, IsLeft, IsLoadingAt, IsLoadStep, IsOffered, word_bits}
use Rattle.fab_phases.specs.inner.Enables.{LeavesFlopsOf}
use Rattle.fab_phases.specs.inner.Ticks.{AreOnWay, IsLoadTick, IsSet, LeavesPoints, LeavesRuns, Tick}
use Rattle.fab_phases.specs.declared.loading.Loading.{Loading}

-- ---- what is given while a piece is offered

-- a point is among those of the piece, or it is not
pub among : (first width point : ℕ) → ((bit : ℕ) × (bit < width) × (point ≡ first + bit)) ⊎ ((point < first) ⊎ (first + width ≤ point))
among first width point =
    elim (cases_lt point first) [
      | inl l ↦ inr (inl l)
      | inr g ↦ elim (cases_lt point (first + width)) [
        | inl l ↦ inl (point - first, omega arith, omega arith)
        | inr h ↦ inr (inr h)
      ]
    ]

-- what is kept of a point, by its drive
abbrev kept_at : Network → (base : PointTerns) → Asked → (point : ℕ) → (later : PlainTern) → Type 0
kept_at network base asked point later = IsKeptBy network.trees.items Loader asked.terns asked.leads (base point) later (slice_get network.drives.items point)

-- an input that was open may have anything
kept_input : (network : Network) (base : PointTerns) (asked : Asked) (point : ℕ) (later : PlainTern) → slice_get network.drives.items point ≡ Some Given →
    base point ≡ unknown → kept_at network base asked point later
kept_input network base asked point later drives open_at =
    subst (λ (drive : Option Drive). IsKeptBy network.trees.items Loader asked.terns asked.leads (base point) later drive) (sym drives)
    (subst (λ (t : PlainTern). IsBelow t later) (sym open_at) tt)

pub offered_kept : (network : Network) (base : PointTerns) (asked : Asked) (first : ℕ) (piece : List Bool) (old new : PointTerns) →
    ((bit : ℕ) → bit < length piece → (slice_get network.drives.items (first + bit) ≡ Some Given) × (base (first + bit) ≡ unknown)) → IsOffered first piece old new →
    IsKept network Loader base asked.terns asked.leads old → IsKept network Loader base asked.terns asked.leads new
offered_kept network base asked first piece old new inputs is kept point =
    elim (among first (length piece) point) [
      | inl b ↦
          let input = inputs b.0 b.1 in
          kept_input network base asked point (new point) (ap (slice_get network.drives.items) b.2 ∙ input.0) (ap base b.2 ∙ input.1)
      | inr outside ↦ subst (kept_at network base asked point) (sym (is.others point outside)) (kept point)
    ]

-- ---- the tick over a solution

-- what a latch has in a solution
latch_solved : (network : Network) (given t : PointTerns) → Solves network.trees.items network.drives.items given t → (point : ℕ) (gate latched : Source) →
    slice_get network.drives.items point ≡ Some (Hold gate latched) →
    t point ≡ through (source_tern network.trees.items t gate) (source_tern network.trees.items t latched) (given point)
latch_solved network given t solves point gate latched drives =
    solves point (slice_get_within network.drives.items point (Hold gate latched) drives)
    ∙ ap (asked_by network.trees.items (given point) t) drives

pub tick_of : (network : Network) (base : PointTerns) (asked : Asked) (loads : List Bool) (given t : PointTerns) → IsAsked network Loader base asked →
    IsKept network Loader base asked.terns asked.leads given → Solves network.trees.items network.drives.items given t → Tick network
tick_of network base asked loads given t is_asked kept solves = record {
  asked = asked;
  loads = loads;
  before = given;
  t = t;
  possible = is_asked.sound given t kept solves;
  flops = λ point next drives.
      solves point (slice_get_within network.drives.items point (Flop Loader next) drives) ∙ ap (asked_by network.trees.items (given point) t) drives;
  latches = latch_solved network given t solves;
}

-- a latch that is closed for good keeps what it holds
closed_latch : (network : Network) (tick : Tick network) (base : PointTerns) (asked : Asked) (point : ℕ) (gate latched : Source) (held : PlainTern) → tick.asked ≡ asked →
    slice_get network.drives.items point ≡ Some (Hold gate latched) → IsLeft network Loader tick.t point held → kept_at network base asked point (tick.before point) →
    kept_at network base asked point held
closed_latch network tick base asked point gate latched held same drives left kept =
    let by : (later : PlainTern) → Option Drive → Type 0 = λ later drive. IsKeptBy network.trees.items Loader asked.terns asked.leads (base point) later drive in
    let before : by (tick.before point) (Some (Hold gate latched)) = subst (by (tick.before point)) drives kept in
    let possible : IsPossible asked tick.t = subst (λ (a : Asked). IsPossible a tick.t) same tick.possible in
    let now : by held (Some (Hold gate latched)) = λ closed.
    left.latch gate latched drives ∙ tick.latches point gate latched drives
    ∙ ap (λ (g : PlainTern). through g (source_tern network.trees.items tick.t latched) (tick.before point)) (closed tick.t possible.above) ∙ before closed in
    subst (by held) (sym drives) now

-- what the tick sets is kept
set_kept : (network : Network) (tick : Tick network) (base : PointTerns) (asked : Asked) (point : ℕ) (held : PlainTern) → tick.asked ≡ asked →
    IsSet network tick point held → kept_at network base asked point (tick.before point) → kept_at network base asked point held
set_kept network tick base asked point held same set kept =
    let by : Option Drive → Type 0 = λ drive. IsKeptBy network.trees.items Loader asked.terns asked.leads (base point) held drive in
    elim set.stored [
      | inl flop ↦ subst by (sym flop.1) (λ other. absurd (other refl))
      | inr latch ↦ closed_latch network tick base asked point latch.0 latch.1 held same latch.2 set.left kept
    ]

pub ticked_kept : (network : Network) (tick : Tick network) (base : PointTerns) (asked : Asked) (given : List Tern) → tick.asked ≡ asked →
    IsKept network Loader base asked.terns asked.leads tick.before → AreOnWay network tick given → IsKept network Loader base asked.terns asked.leads (kept_tern given)
ticked_kept network tick base asked given same kept way point =
    elim (way point) [
      | inl e ↦ subst (kept_at network base asked point) (sym e) (kept point)
      | inr set ↦ set_kept network tick base asked point (kept_tern given point) same set (kept point)
    ]

-- ---- the step

-- All that loading sets is left with what the tick leaves there.
all_left : (network : Network) (tick : Tick network) (loading : Loading) (one two new : List Tern) → AreLoading network tick.asked tick.loads loading →
    LeavesPoints network tick (λ point. HasOne loading.flops.items (λ flop. flop.point ≡ point)) one two →
    LeavesPoints network tick (IsInRuns loading.runs.items) two new →
    (point : ℕ) → IsMarked tick.loads point → IsLeft network Loader tick.t point (kept_tern new point)
all_left network tick loading one two new are flops runs point marked = record {
  flop = λ next drives.
      let less = slice_get_within network.drives.items point (Flop Loader next) drives in
      let left = runs.stay point (flops.left point (are.has_flops point next less marked drives)) in
      left.flop next drives;
  latch = λ gate latched drives.
      let less = slice_get_within network.drives.items point (Hold gate latched) drives in
      let left = runs.left point (are.has_latches point gate latched less marked drives) in
      left.latch gate latched drives;
}

-- what is not set stays as it was offered
not_set : (network : Network) (tick : Tick network) (given : List Tern) → AreOnWay network tick given → (point : ℕ) → (IsMarked tick.loads point → ⊥) →
    kept_tern given point ≡ tick.before point
not_set network tick given way point unmarked = elim (way point) [ inl e ↦ e | inr set ↦ absurd (unmarked set.marked) ]

-- while a piece is offered, all is as it was for loading
pub still_loading : (network : Network) (loading : Loading) (loads : List Bool) (first width : ℕ) (piece : List Bool) (demand : Asked) (old new : List Tern) → length piece ≡ width →
    IsOffered first piece (kept_tern old) (kept_tern new) → IsLoadingAt network loading loads first width demand old → IsLoadingAt network loading loads first width demand new
still_loading network loading loads first width piece demand old new long offered at = record {
  base = at.base;
  asked = at.asked;
  is_asked = at.is_asked;
  differs = at.differs;
  gathered = at.gathered;
  inputs = at.inputs;
  kept = offered_kept network at.base at.asked first piece (kept_tern old) (kept_tern new) (λ bit less. at.inputs bit (omega (arith, less, long))) offered at.kept;
}

-- what a tick has done
pub record HasTicked (network : Network) (loading : Loading) (loads : List Bool) (first width : ℕ) (demand : Asked) (old new : List Tern) : Type 0 where
  pub loading_at : IsLoadingAt network loading loads first width demand new
  pub tick : IsLoadTick network loads (kept_tern old) (kept_tern new)

pub has_ticked : (network : Network) (loading : Loading) (loads : List Bool) (first width : ℕ) (demand after : Asked) (one two new : List Tern) →
    ((given : PointTerns) → (t : PointTerns) × IsLeast network.trees.items network.drives.items given t) → IsLoadingAt network loading loads first width demand one →
    ((asked : Asked) → DiffersInOwn asked demand → DiffersInOwn asked after) → ShowsLeast network one demand after →
    LeavesFlopsOf network loading.flops.items after one two → LeavesRuns network loading.runs.items after two new → HasTicked network loading loads first width after one new
unfolding tick_of
has_ticked network loading loads first width demand after one two new solvable at stays shows flops runs =
    let solved = solvable (kept_tern one) in
    let tick = tick_of network at.base at.asked loads (kept_tern one) solved.0 at.is_asked at.kept solved.1.solves in
    let shown = shows Loader at.base at.asked at.is_asked at.differs (kept_tern one) solved.0 at.kept (λ p listed. refl) solved.1 in
    let first_left = flops tick shown (stays at.asked at.differs) at.gathered.flops (λ p. inl refl) in
    let then_left = runs tick shown at.gathered.runs first_left.on_way in
    record {
      loading_at = record {
        base = at.base;
        asked = at.asked;
        is_asked = at.is_asked;
        differs = stays at.asked at.differs;
        gathered = at.gathered;
        inputs = at.inputs;
        kept = ticked_kept network tick at.base at.asked new refl at.kept then_left.on_way;
      };
      tick = record {
        t = solved.0;
        least = solved.1;
        loaded = all_left network tick loading one two new at.gathered first_left then_left;
        others = not_set network tick new then_left.on_way;
      };
    }

-- a piece is offered, and then the clock ticks
pub step_of : (network : Network) (loads : List Bool) (first : ℕ) (piece : List Bool) (old offered new : PointTerns) → IsOffered first piece old offered →
    IsLoadTick network loads offered new → IsLoadStep network loads first piece old new
step_of network loads first piece old offered new is tick = record {
  offered = offered;
  is_offered = is;
  t = tick.t;
  least = tick.least;
  loaded = tick.loaded;
  others = tick.others;
}

-- ---- steps one after the other

from_same : (network : Network) (loads : List Bool) (first : ℕ) (piece : List Bool) (old now new : PointTerns) → ((point : ℕ) → now point ≡ old point) →
    IsLoadStep network loads first piece now new → IsLoadStep network loads first piece old new
from_same network loads first piece old now new same step = record {
  offered = step.offered;
  is_offered = record { bits = step.is_offered.bits; others = λ p outside. step.is_offered.others p outside ∙ same p };
  t = step.t;
  least = step.least;
  loaded = step.loaded;
  others = step.others;
}

steps_from_same : (network : Network) (loads : List Bool) (first : ℕ) (pieces : List (List Bool)) (old now new : PointTerns) → ((point : ℕ) → now point ≡ old point) →
    AreLoadSteps network loads first pieces now new → AreLoadSteps network loads first pieces old new
steps_from_same network loads first [] old now new same steps = λ p. steps p ∙ same p
steps_from_same network loads first (piece ∷ pieces) old now new same steps = (steps.0, from_same network loads first piece old now steps.0 same steps.1, steps.2)

pub steps_then : (network : Network) (loads : List Bool) (first : ℕ) (pieces more : List (List Bool)) (old now new : PointTerns) →
    AreLoadSteps network loads first pieces old now → AreLoadSteps network loads first more now new → AreLoadSteps network loads first (pieces ++ more) old new
steps_then network loads first [] more old now new same steps = steps_from_same network loads first more old now new same steps
steps_then network loads first (piece ∷ pieces) more old now new before steps =
    (before.0, before.1, steps_then network loads first pieces more before.0 now new before.2 steps)

pub steps_more : (network : Network) (loads : List Bool) (first : ℕ) (pieces : List (List Bool)) (piece : List Bool) (old now new : PointTerns) →
    AreLoadSteps network loads first pieces old now → IsLoadStep network loads first piece now new → AreLoadSteps network loads first (pieces ++ piece ∷ []) old new
steps_more network loads first pieces piece old now new before step =
    steps_then network loads first pieces (piece ∷ []) old now new before (new, step, λ p. refl)

-- ---- the pieces of words

pub words_more : (words : List ℕ) (word : ℕ) → map word_bits (words ++ word ∷ []) ≡ map word_bits words ++ word_bits word ∷ []
words_more words word = map-append word_bits words (word ∷ [])

-- the bits of words, one by one
abbrev pub all_bits : List ℕ → List (List Bool)
all_bits words = flat_map single_bits (map word_bits words)

pub bits_more : (words : List ℕ) (word : ℕ) → all_bits (words ++ word ∷ []) ≡ all_bits words ++ single_bits (word_bits word)
bits_more words word =
    ap (flat_map single_bits) (words_more words word) ∙ flat_map-append single_bits (map word_bits words) (word_bits word ∷ [])
    ∙ ap (λ (pieces : List (List Bool)). all_bits words ++ pieces) (append-nil (single_bits (word_bits word)))
