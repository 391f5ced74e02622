use Rattle.std.proofs.Common.{◌≡◌, length, List, refl, ap, sym, ◌∙◌, subst, inr, arith, get_or}
use Rattle.std.proofs.lemmas.Option.{slice_get-get_or}
use Rattle.fab_ternary.specs.Terns.{plain_tern}
use Rattle.fab_compiled.specs.Terns.{seen}
use Rattle.fab_compiled.specs.declared.tree.Tree.{Tree}
use Rattle.fab_network.specs.Sharing.{IsShared}
use Rattle.fab_phases.specs.Lists.{HasOne}
use Rattle.fab_phases.specs.declared.loading.LoadedFlop.{LoadedFlop}
use Rattle.fab_phases.proofs.Ticking.{eval_at, fit_at, flop_step, flops_done, no_flop}
use Rattle.fab_phases.proofs.Writing.{writes_more}
use Rattle.fab_phases.proofs.ticks.take_flops.Goals as goal

pub value-requires-clause-fit : goal.value-requires-clause-fit
value-requires-clause-fit c =
    let flop = get_or c.args.flops.now c.loop-flop.flop-index no_flop in
    let fits = c.requires.flops c.loop-flop.flop-index flop (slice_get-get_or c.args.flops.now c.loop-flop.flop-index no_flop c.loop-flop-test.true) in
    fit_at c.args.network.now c.deref.result.now (length c.view-view.result.leads.now) flop.next c.deref.ensures.value
    (c.requires.points ∙ ap length (sym c.view-view.ensures.leads)) fits.next

pub value-requires-clause-shared : goal.value-requires-clause-shared
value-requires-clause-shared c =
    subst (λ (trees : List Tree). IsShared trees (length c.view-view.result.leads.now) (seen c.view-view.result.terns.now c.view-view.result.leads.now) c.loop-flop.shared)
    (sym c.deref.ensures.value) c.loop-flop.invariant.shared

pub bounds-given-flop : goal.bounds-given-flop
bounds-given-flop c =
    let flop = get_or c.args.flops.now c.loop-flop.flop-index no_flop in
    let fits = c.requires.flops c.loop-flop.flop-index flop (slice_get-get_or c.args.flops.now c.loop-flop.flop-index no_flop c.loop-flop-test.true) in
    omega (arith, fits.point)

pub loop-flop-init : goal.loop-flop-init
loop-flop-init c = record {
  left = λ tick shows are way. record { on_way = way; stay = λ point is. is; left = λ point has. absurd (omega (arith, has.2)) };
  writes = λ point. inr refl;
  shared = c.forget.ensures c.args.network.now.trees.items (length c.view-view.result.leads.now) (seen c.view-view.result.terns.now c.view-view.result.leads.now);
}

pub loop-flop-preserved : goal.loop-flop-preserved
loop-flop-preserved c =
    let flop = get_or c.args.flops.now c.loop-flop.flop-index no_flop in
    let at = slice_get-get_or c.args.flops.now c.loop-flop.flop-index no_flop c.loop-flop-test.true in
    let fits = c.requires.flops c.loop-flop.flop-index flop at in
    record {
      left = flop_step c.args.network.now c.args.flops.now c.args.demand.now c.loop-flop.flop-index c.args.given.now c.loop-flop.given flop c.value.result at
          (omega (arith, fits.point))
          (eval_at c.args.network.now.trees.items c.deref.result.now c.args.demand.now.terns c.view-view.result.terns.now c.args.demand.now.leads
          c.view-view.result.leads.now flop.next (plain_tern c.value.result) c.deref.ensures.value c.view-view.ensures.terns c.view-view.ensures.leads
          c.value.ensures.value)
          c.loop-flop.invariant.left;
      writes = writes_more (λ point. HasOne c.args.flops.now (λ (other : LoadedFlop). other.point ≡ point)) c.args.given.now c.loop-flop.given flop.point c.value.result
          c.loop-flop.invariant.writes (c.loop-flop.flop-index, flop, at, refl);
      shared = subst
          (λ (trees : List Tree). IsShared trees (length c.view-view.result.leads.now) (seen c.view-view.result.terns.now c.view-view.result.leads.now) c.value.new.self)
          c.deref.ensures.value c.value.ensures.shared;
    }

pub returns-clause-leaves : goal.returns-clause-leaves
returns-clause-leaves c =
    flops_done c.args.network.now c.args.flops.now c.args.demand.now c.loop-flop.flop-index c.args.given.now c.loop-flop.given (omega arith)
    c.loop-flop.invariant.left
