-- What is passed over while its enable is 0.
use Rattle.std.proofs.Common.{◌≡◌, ℕ, ◌+◌, ◌-◌, ◌≤◌, List, length, Some, refl, sym, ap, ◌∙◌, subst, inl, inr, arith}
use Rattle.std.specs.List.{slice_get}
use Rattle.std.proofs.lemmas.Bool.{cases_lt}
use Rattle.fab_systems_laws.specs.Ternary.{no}
use Rattle.fab_ternary.specs.declared.Tern.{Tern}
use Rattle.fab_ternary.specs.declared.Tern.TheVariants.{No}
use Rattle.fab_network.specs.declared.network.Network.{Network}
use Rattle.fab_demand.specs.Asked.{Asked}
use Rattle.fab_changes.specs.declared.fanout.Fanout.{Fanout}
use Rattle.fab_changes.specs.Fanout.{AreFresh}
use Rattle.fab_phases.specs.inner.Enables.{AreClosed, AreEnables, AreHolding, EnableGroups, EnableRuns, IsEnabled}
use Rattle.fab_phases.specs.inner.Ticks.{LeavesRun}
use Rattle.fab_phases.specs.declared.enables.Enable.{Enable}
use Rattle.fab_phases.specs.declared.enables.Enable.TheVariants.{Gate}
use Rattle.fab_phases.specs.declared.flop_groups.FlopGroup.{FlopGroup}
use Rattle.fab_phases.specs.declared.loading.Run.{Run}
use Rattle.fab_phases.proofs.Gathered.{below}
use Rattle.fab_phases.proofs.Grouping.{group_closed, GroupsSoFar}
use Rattle.fab_phases.proofs.Ticking.{run_closed, run_step, RunsSoFar}

-- ---- enables

pub none_closed : (network : Network) (demand : Asked) (enables : List Enable) (from : ℕ) → AreClosed network demand enables from from
none_closed network demand enables from number low less = absurd (omega (arith, low, less))

-- enables that are not stale
pub fresh_closed : (network : Network) (demand : Asked) (enables : List Enable) (watches : Fanout) (from begin end : ℕ) → AreEnables network demand enables watches →
    AreClosed network demand enables from begin → AreFresh watches.stale begin end → AreClosed network demand enables from end
fresh_closed network demand enables watches from begin end are passed fresh number low less enable at =
    elim (cases_lt number begin) [ inl l ↦ passed number low l enable at | inr g ↦ sym (are.closed number enable at (fresh number g less)) ]

-- one that has been looked at
pub closed_more : (network : Network) (demand : Asked) (enables : List Enable) (from here : ℕ) → AreClosed network demand enables from here →
    IsEnabled network demand enables here No → AreClosed network demand enables from (here + 1)
closed_more network demand enables from here passed closed number low less =
    elim (below here number less) [
      | inl l ↦ passed number low l
      | inr same ↦ subst (λ (n : ℕ). IsEnabled network demand enables n No) (sym same) closed
    ]

-- ---- flip-flops and latches

pub groups_passed : (network : Network) (groups : List FlopGroup) (enables : List Enable) (demand : Asked) (from end : ℕ) (old now : List Tern) →
    AreHolding network demand groups → EnableGroups groups enables → AreClosed network demand enables from end → GroupsSoFar network groups demand from old now →
    GroupsSoFar network groups demand end old now
groups_passed network groups enables demand from end old now holding of closed so_far tick shows differs are way =
    let before = so_far tick shows differs are way in
    record {
      on_way = before.on_way;
      stay = before.stay;
      left = λ q has.
          let group = has.1 in
          elim (cases_lt has.0 from) [
            | inl l ↦ before.left q (has.0, group, l, has.3, has.4)
            | inr g ↦
                let value = closed has.0 g has.2 group.enable (of.each has.0 group has.3) in
                let left =
                group_closed network demand group now (holding has.0 group has.3) (sym value) tick shows differs (are has.0 group has.3) before.on_way in
                left.left q has.4
          ];
    }

-- runs by the numbers of their enables
pub runs_passed : (network : Network) (runs : List Run) (enables : List Enable) (demand : Asked) (from end : ℕ) (old now : List Tern) → EnableRuns runs enables →
    length enables - length runs ≤ from → AreClosed network demand enables from end →
    RunsSoFar network runs demand (from - (length enables - length runs)) old now → RunsSoFar network runs demand (end - (length enables - length runs)) old now
runs_passed network runs enables demand from end old now of low closed so_far tick shows are way =
    let done = so_far tick shows are way in
    record {
      on_way = done.on_way;
      stay = done.stay;
      left = λ q has.
          let run = has.1 in
          elim (cases_lt has.0 (from - (length enables - length runs))) [
            | inl l ↦ done.left q (has.0, run, l, has.3, has.4)
            | inr g ↦
                let inside = has.2 in
                let value =
                closed (length enables - length runs + has.0) (omega (arith, g, low)) (omega (arith, inside)) (Gate run.gate) (of.gates has.0 run has.3) in
                let left = run_closed network run no demand now refl value tick shows (are has.0 run has.3) done.on_way in
                left.left q has.4
          ];
    }

-- the enable of a run is its gate
pub gate_at : (runs : List Run) (enables : List Enable) (number : ℕ) (run : Run) → EnableRuns runs enables → length enables - length runs ≤ number →
    slice_get runs (number - (length enables - length runs)) ≡ Some run → slice_get enables number ≡ Some (Gate run.gate)
gate_at runs enables number run of low at =
    let there : length enables - length runs + (number - (length enables - length runs)) ≡ number = omega (arith, low) in
    ap (slice_get enables) (sym there) ∙ of.gates (number - (length enables - length runs)) run at

-- one run more
pub runs_more : (network : Network) (runs : List Run) (enables : List Enable) (demand : Asked) (number : ℕ) (old now new : List Tern) (run : Run) →
    length enables - length runs ≤ number → slice_get runs (number - (length enables - length runs)) ≡ Some run → LeavesRun network run demand now new →
    RunsSoFar network runs demand (number - (length enables - length runs)) old now →
    RunsSoFar network runs demand (number + 1 - (length enables - length runs)) old new
runs_more network runs enables demand number old now new run low at leaves so_far =
    let there : number - (length enables - length runs) + 1 ≡ number + 1 - (length enables - length runs) = omega (arith, low) in
    subst (λ (count : ℕ). RunsSoFar network runs demand count old new) there
    (run_step network runs demand (number - (length enables - length runs)) old now new run at leaves so_far)
