use Rattle.std.proofs.Common.{◌≡◌, List, Some, sym, ap, ◌∙◌, subst, arith}
use Rattle.std.specs.List.{slice_get}
use Rattle.std.proofs.lemmas.Option.{slice_get_within}
use Rattle.fab_phases.specs.declared.loading.Run.{Run}
use Rattle.fab_phases.specs.declared.gathering.GatedLatch.{GatedLatch}
use Rattle.fab_phases.proofs.Gathered.{AreRunsSoFar, rest_gated, runs_more}
use Rattle.fab_phases.proofs.Lists.{get_left}
use Rattle.fab_phases.proofs.gathering.runs_of.Goals as goal

pub together-count-requires-clause-gate : goal.together-count-requires-clause-gate
together-count-requires-clause-gate c =
    let gated = rest_gated c.args.network.now c.args.demand.now c.requires.latches.0 c.args.latches.now c.runs.rest.now c.runs.runs.items c.runs.invariant c.requires.latches.1 in
    let first = c.in-Some.ensures in
    (gated 0 c.in-Some.first.now (sym first.value)).gate

pub together-count-requires-clause-latches : goal.together-count-requires-clause-latches
together-count-requires-clause-latches c = (
  c.requires.latches.0,
  rest_gated c.args.network.now c.args.demand.now c.requires.latches.0 c.args.latches.now c.runs.rest.now c.runs.runs.items c.runs.invariant c.requires.latches.1,
)

pub runs-preserved : goal.runs-preserved
runs-preserved c =
    let gated = rest_gated c.args.network.now c.args.demand.now c.requires.latches.0 c.args.latches.now c.runs.rest.now c.runs.runs.items c.runs.invariant c.requires.latches.1 in
    let first = c.in-Some.ensures in
    let run = c.in_ok-run_of.ensures in
    let front = c.split_at.result.0.now in
    subst (λ (runs : List Run). AreRunsSoFar c.args.network.now c.args.demand.now c.args.latches.now c.split_at.result.1.now runs) (sym c.in_ok-push.ensures.items)
    (runs_more c.args.network.now c.args.demand.now c.args.latches.now c.runs.rest.now front c.split_at.result.1.now c.runs.runs.items c.in_ok-run_of.field-0
    c.in-Some.first.now.gate c.runs.invariant c.split_at.ensures.by_index.0 (gated 0 c.in-Some.first.now (sym first.value)).gate
    (λ place latch at.
    let less = slice_get_within front place latch at in
    let there : slice_get c.runs.rest.now place ≡ Some latch =
    ap (λ (latches : List GatedLatch). slice_get latches place) c.split_at.ensures.by_index.0 ∙ get_left front c.split_at.result.1.now place latch at in
    c.together-count.ensures.front place latch (omega (arith, c.split_at.ensures.front_len)) there)
    run.0 run.1)
