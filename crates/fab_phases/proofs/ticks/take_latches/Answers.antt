use Rattle.std.proofs.Common.{◌≡◌, length, List, refl, ap, sym, ◌∙◌, subst, inr, arith, get_or, ◌<◌}
use Rattle.std.proofs.lemmas.Option.{slice_get-get_or}
use Rattle.fab_systems_laws.specs.Ternary.{Tern as PlainTern}
use Rattle.fab_ternary_laws.specs.Shown.{through}
use Rattle.fab_ternary.specs.declared.Tern.TheVariants.{No}
use Rattle.fab_ternary.specs.Terns.{plain_tern}
use Rattle.fab_compiled.specs.Terns.{seen}
use Rattle.fab_compiled.specs.declared.tree.Tree.{Tree}
use Rattle.fab_network.specs.Sharing.{IsShared}
use Rattle.fab_phases.specs.Lists.{HasOne}
use Rattle.fab_phases.specs.declared.loading.Latch.{Latch}
use Rattle.fab_phases.proofs.Ticking.{eval_at, fit_at, kept_get, latch_step, latches_done, no_latch}
use Rattle.fab_phases.proofs.Writing.{writes_more}
use Rattle.fab_phases.proofs.ticks.take_latches.Goals as goal

pub value-latched-requires-clause-fit : goal.value-latched-requires-clause-fit
value-latched-requires-clause-fit c =
    let latch = get_or c.args.latches.now c.loop-latch.latch-index no_latch in
    let fits = c.requires.latches c.loop-latch.latch-index latch (slice_get-get_or c.args.latches.now c.loop-latch.latch-index no_latch c.loop-latch-test.true) in
    fit_at c.args.network.now c.deref.result.now (length c.view-view.result.leads.now) latch.latched c.deref.ensures.value
    (c.requires.points ∙ ap length (sym c.view-view.ensures.leads)) fits.latched

pub value-latched-requires-clause-shared : goal.value-latched-requires-clause-shared
value-latched-requires-clause-shared c =
    subst (λ (trees : List Tree). IsShared trees (length c.view-view.result.leads.now) (seen c.view-view.result.terns.now c.view-view.result.leads.now) c.loop-latch.shared)
    (sym c.deref.ensures.value) c.loop-latch.invariant.shared

pub slice_copy_out-through : goal.slice_copy_out-through
slice_copy_out-through c =
    let latch = get_or c.args.latches.now c.loop-latch.latch-index no_latch in
    let fits = c.requires.latches c.loop-latch.latch-index latch (slice_get-get_or c.args.latches.now c.loop-latch.latch-index no_latch c.loop-latch-test.true) in
    omega (arith, fits.point)

pub bounds-given-point : goal.bounds-given-point
bounds-given-point c =
    let latch = get_or c.args.latches.now c.loop-latch.latch-index no_latch in
    let fits = c.requires.latches c.loop-latch.latch-index latch (slice_get-get_or c.args.latches.now c.loop-latch.latch-index no_latch c.loop-latch-test.true) in
    omega (arith, fits.point)

pub loop-latch-init : goal.loop-latch-init
loop-latch-init c = record {
  left = λ tick shows opens opened are way. record { on_way = way; stay = λ point is. is; left = λ point has. absurd (omega (arith, has.2)) };
  writes = λ point. inr refl;
  shared = c.forget.ensures c.args.network.now.trees.items (length c.view-view.result.leads.now) (seen c.view-view.result.terns.now c.view-view.result.leads.now);
}

pub loop-latch-preserved : goal.loop-latch-preserved
loop-latch-preserved c =
    let latch = get_or c.args.latches.now c.loop-latch.latch-index no_latch in
    let at = slice_get-get_or c.args.latches.now c.loop-latch.latch-index no_latch c.loop-latch-test.true in
    let fits = c.requires.latches c.loop-latch.latch-index latch at in
    let less : latch.point < length c.loop-latch.given = omega (arith, fits.point) in
    let given = plain_tern c.value-latched.result in
    record {
      left = latch_step c.args.network.now (plain_tern c.args.gate) c.args.latches.now c.args.demand.now c.loop-latch.latch-index c.args.given.now
          c.loop-latch.given latch given c.through.result at less
          (eval_at c.args.network.now.trees.items c.deref.result.now c.args.demand.now.terns c.view-view.result.terns.now c.args.demand.now.leads
          c.view-view.result.leads.now latch.latched given c.deref.ensures.value c.view-view.ensures.terns c.view-view.ensures.leads c.value-latched.ensures.value)
          (c.through.ensures ∙ ap (λ (held : PlainTern). through (plain_tern c.args.gate) given held) (kept_get c.loop-latch.given latch.point No less))
          c.loop-latch.invariant.left;
      writes = writes_more (λ point. HasOne c.args.latches.now (λ (other : Latch). other.point ≡ point)) c.args.given.now c.loop-latch.given latch.point
          c.through.result c.loop-latch.invariant.writes (c.loop-latch.latch-index, latch, at, refl);
      shared = subst
          (λ (trees : List Tree). IsShared trees (length c.view-view.result.leads.now) (seen c.view-view.result.terns.now c.view-view.result.leads.now)
          c.value-latched.new.self)
          c.deref.ensures.value c.value-latched.ensures.shared;
    }

pub returns-clause-leaves : goal.returns-clause-leaves
returns-clause-leaves c =
    latches_done c.args.network.now (plain_tern c.args.gate) c.args.latches.now c.args.demand.now c.loop-latch.latch-index c.args.given.now c.loop-latch.given (omega arith)
    c.loop-latch.invariant.left
