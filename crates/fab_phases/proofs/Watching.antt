-- What is watched while words are loaded.
use Rattle.std.proofs.Common.{◌≡◌, ℕ, ◌+◌, ◌-◌, ◌<◌, Bool, List, map, length, Some, sym, ap, ◌∙◌, subst, inl, inr, arith, length-append}
use Rattle.std.specs.List.{slice_get}
use Rattle.std.specs.Prelude.{Result, Ok, Err, IfOk}
use Rattle.std.specs.Result.{result_ok}
use Rattle.std.proofs.lemmas.List.{length-map}
use Rattle.fab_ternary.specs.declared.Tern.{Tern}
use Rattle.fab_network.specs.declared.network.Network.{Network}
use Rattle.fab_network.specs.Passes.{kept_tern}
use Rattle.fab_demand.specs.Asked.{Asked, DiffersInOwn}
use Rattle.fab_changes.specs.declared.changes.Changes.{Changes}
use Rattle.fab_changes.specs.Changes.{AreChangesOf, HasGiven, WaitsAt}
use Rattle.fab_changes.proofs.Noted.{given_noted, hold_waits}
use Rattle.fab_phases.specs.Lists.{Each}
use Rattle.fab_phases.specs.Loading.{AreRuns, IsInRuns}
use Rattle.fab_phases.specs.Words.{word_bits, IsOffered}
use Rattle.fab_phases.specs.inner.Enables.{AreEnables, AreEnablesOf, AreFlopGroups, AreHolding, AreInFlopGroups, AreNewlyWatched, EnableGroups, EnableRuns, IsFitEnable, IsWatching}
use Rattle.fab_phases.specs.inner.Ticks.{AreFitRuns, WritesFlops, WritesOnly}
use Rattle.fab_phases.specs.declared.enables.Enable.{Enable}
use Rattle.fab_phases.specs.declared.enables.Enable.TheVariants.{Gate}
use Rattle.fab_phases.specs.declared.flop_groups.FlopGroup.{FlopGroup}
use Rattle.fab_phases.specs.declared.loading.LoadedFlop.{LoadedFlop}
use Rattle.fab_phases.specs.declared.loading.Loading.{Loading}
use Rattle.fab_phases.specs.declared.loading.Run.{Run}
use Rattle.fab_phases.specs.declared.watched.Watching.{Watching}
use Rattle.fab_phases.proofs.Enabling.{enables_new}
use Rattle.fab_phases.proofs.Grouping.{groups_same}
use Rattle.fab_phases.proofs.Offering.{word_long}
use Rattle.fab_phases.proofs.Stepping.{among}
use Rattle.fab_phases.proofs.Lists.{get_left, get_mapped, get_of_mapped, get_parts, get_right}

-- ---- the enables of groups and runs

abbrev of_groups : List FlopGroup → List Enable
of_groups groups = map (λ (group : FlopGroup). group.enable) groups

abbrev of_runs : List Run → List Enable
of_runs runs = map (λ (run : Run). Gate run.gate) runs

enables_long : (groups : List FlopGroup) (runs : List Run) (enables : List Enable) → AreEnablesOf groups runs enables → length enables ≡ length groups + length runs
enables_long groups runs enables are =
    let first = length-map groups (λ (g : FlopGroup). g.enable) in
    let then = length-map runs (λ (run : Run). Gate run.gate) in
    let both = length-append (of_groups groups) (of_runs runs) in
    let all = ap length are in
    omega (arith, first, then, both, all)

pub enable_groups : (groups : List FlopGroup) (runs : List Run) (enables : List Enable) → AreEnablesOf groups runs enables → EnableGroups groups enables
enable_groups groups runs enables are =
    let long = enables_long groups runs enables are in
    record {
      room = omega (arith, long);
      each = λ place group at.
          ap (λ (es : List Enable). slice_get es place) are
          ∙ get_left (of_groups groups) (of_runs runs) place group.enable (get_mapped (λ (g : FlopGroup). g.enable) groups place group at);
    }

pub enable_runs : (groups : List FlopGroup) (runs : List Run) (enables : List Enable) → AreEnablesOf groups runs enables → EnableRuns runs enables
enable_runs groups runs enables are =
    let long = enables_long groups runs enables are in
    record {
      room = omega (arith, long);
      gates = λ place run at.
          let first = length-map groups (λ (g : FlopGroup). g.enable) in
          let there : length enables - length runs + place ≡ length (of_groups groups) + place = omega (arith, long, first) in
          ap (slice_get enables) there ∙ ap (λ (es : List Enable). slice_get es (length (of_groups groups) + place)) are
          ∙ get_right (of_groups groups) (of_runs runs) place (Gate run.gate) (get_mapped (λ (r : Run). Gate r.gate) runs place run at);
    }

pub enables_fit : (network : Network) (asked : Asked) (groups : List FlopGroup) (runs : List Run) (enables : List Enable) → AreEnablesOf groups runs enables →
    AreHolding network asked groups → AreFitRuns network runs → Each enables (IsFitEnable network)
enables_fit network asked groups runs enables are holding fit number enable at =
    elim (get_parts (of_groups groups) (of_runs runs) number enable (ap (λ (es : List Enable). slice_get es number) (sym are) ∙ at)) [
      | inl here ↦
          let one = get_of_mapped (λ (g : FlopGroup). g.enable) groups number enable here in
          subst (IsFitEnable network) one.2 (holding number one.0 one.1).enable
      | inr behind ↦
          let one = get_of_mapped (λ (r : Run). Gate r.gate) runs behind.0 enable behind.2 in
          subst (IsFitEnable network) one.2 (fit behind.0 one.0 one.1).gate
    ]

-- ---- at first

-- what holds of a result that is kept as an option
pub kept_ok : {A E : Type 0} (P : A → Type 0) (result : Result A E) (value : A) → Some value ≡ result_ok result → IfOk result P → P value
kept_ok P (Ok a) value e holds = let same : a ≡ value = cc in subst P same holds
kept_ok P (Err x) value e holds = absurd (cc)

pub watching_made : (network : Network) (loading : Loading) (asked : Asked) (watching : Watching) (own leads : List ℕ) → AreFitRuns network loading.runs.items →
    own ≡ asked.own → leads ≡ asked.leads → AreFlopGroups network asked loading.flops.items watching.groups.items →
    AreInFlopGroups watching.groups.items loading.flops.items → AreEnablesOf watching.groups.items loading.runs.items watching.enables.items →
    ((other : Asked) → other.own ≡ own → other.leads ≡ leads → AreChangesOf network other watching.changes) → ((point : ℕ) → WaitsAt watching.changes point) →
    AreNewlyWatched network own leads watching.enables.items watching.watches → (given : List Tern) → IsWatching network loading asked given watching
watching_made network loading asked watching own leads fit same_own same_leads groups all of changes waits watched given = record {
  groups = groups;
  all = all;
  of = of;
  changes = changes asked (sym same_own) (sym same_leads);
  noted = λ point. inl (waits point);
  enables = enables_new network asked watching.enables.items watching.watches own leads same_own same_leads
      (enables_fit network asked watching.groups.items loading.runs.items watching.enables.items of groups.holding fit) watched;
}

-- ---- behind a tick

pub watching_ticked : (network : Network) (loading : Loading) (old new : Asked) (old_given new_given : List Tern) (before after : Watching) → DiffersInOwn old new →
    IsWatching network loading old old_given before →
    after.groups.items ≡ before.groups.items → after.enables.items ≡ before.enables.items → AreChangesOf network new after.changes →
    HasGiven new.terns new_given after.changes → AreEnables network new after.enables.items after.watches → IsWatching network loading new new_given after
watching_ticked network loading old new old_given new_given before after differs is same_groups same_enables changes noted enables = record {
  groups = subst (AreFlopGroups network new loading.flops.items) (sym same_groups) (groups_same network old new loading.flops.items before.groups.items differs is.groups);
  all = subst (λ (groups : List FlopGroup). AreInFlopGroups groups loading.flops.items) (sym same_groups) is.all;
  of = subst (λ (groups : List FlopGroup). AreEnablesOf groups loading.runs.items after.enables.items) (sym same_groups)
      (subst (AreEnablesOf before.groups.items loading.runs.items) (sym same_enables) is.of);
  changes = changes;
  noted = noted;
  enables = enables;
}

-- ---- what is given

-- flip-flops that wait have been written
pub flops_noted : (terns : List Tern) (flops : List LoadedFlop) (old new : List Tern) (before after : Changes) → HasGiven terns old before →
    ((point : ℕ) → WaitsAt before point → WaitsAt after point) → Each flops (λ flop. WaitsAt after flop.point) → WritesFlops flops old new → HasGiven terns new after
flops_noted terns flops old new before after has more waits writes =
    given_noted terns old new before after has more
    (λ point. elim (writes point) [ inl one ↦ inl (subst (WaitsAt after) one.3 (waits one.0 one.1 one.2)) | inr same ↦ inr same ])

-- latches have been written
pub runs_noted : (network : Network) (asked demand : Asked) (loads : List Bool) (runs : List Run) (old new : List Tern) (changes : Changes) → AreRuns network asked loads runs →
    AreChangesOf network demand changes → HasGiven demand.terns old changes → WritesOnly (IsInRuns runs) old new → HasGiven demand.terns new changes
runs_noted network asked demand loads runs old new changes are of has writes =
    given_noted demand.terns old new changes changes has (λ point waits. waits)
    (λ point. elim (writes point) [
      | inl one ↦
          let latch = one.3 in
          let is = (are one.0 one.1 one.2).latches latch.0 latch.1 latch.2 in
          inl (subst (WaitsAt changes) latch.3 (hold_waits network demand changes of latch.1.point is.own_gate latch.1.latched is.is))
      | inr same ↦ inr same
    ])

-- a word has been offered
pub watching_offered : (network : Network) (loading : Loading) (demand : Asked) (first word : ℕ) (old new : List Tern) (watching : Watching) (changes : Changes) →
    IsWatching network loading demand old watching → IsOffered first (word_bits word) (kept_tern old) (kept_tern new) →
    (AreChangesOf network demand watching.changes → AreChangesOf network demand changes) → ((k : ℕ) → k < 32 → WaitsAt changes (first + k)) →
    ((point : ℕ) → WaitsAt watching.changes point → WaitsAt changes point) → IsWatching network loading demand new (record watching { changes = changes })
watching_offered network loading demand first word old new watching changes is offered still waits more = record {
  groups = is.groups;
  all = is.all;
  of = is.of;
  changes = still is.changes;
  noted = given_noted demand.terns old new watching.changes changes is.noted more
      (λ point. elim (among first 32 point) [
        | inl bit ↦ inl (subst (WaitsAt changes) (sym bit.2) (waits bit.0 bit.1))
        | inr outside ↦ inr (offered.others point (elim outside [ inl l ↦ inl l | inr g ↦ let long = word_long word in inr (omega (arith, g, long)) ]))
      ]);
  enables = is.enables;
}
