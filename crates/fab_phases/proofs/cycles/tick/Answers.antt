use Rattle.std.proofs.Common.{◌≡◌, ℕ, ◌<◌, List, length, sym, ap, subst, arith, get_or}
use Rattle.fab_ternary.specs.declared.Tern.TheVariants.{No}
use Rattle.fab_ternary.specs.Terns.{plain_tern}
use Rattle.fab_compiled.specs.Terns.{seen}
use Rattle.fab_network.specs.Passes.{kept_tern}
use Rattle.fab_phases.proofs.Telling.{ticked_all, ticked_more, ticked_none, written_at}
use Rattle.fab_phases.proofs.Ticking.{form_at_place, kept_get}
use Rattle.fab_phases.proofs.cycles.tick.Goals as goal

pub left_at-requires-clause-form : goal.left_at-requires-clause-form
left_at-requires-clause-form c =
    let demand = c.args.demand.now in
    let same : get_or demand.own c.loop-place.place 0 ≡ get_or c.own-own.result.now c.loop-place.place 0 =
    ap (λ (own : List ℕ). get_or own c.loop-place.place 0) (sym c.own-own.ensures) in
    form_at_place c.args.network.now demand c.view-view.result.leads.now c.view-view.result.terns.now c.args.forms.now c.loop-place.place
    (get_or c.own-own.result.now c.loop-place.place 0) same c.view-view.ensures.leads c.view-view.ensures.terns c.requires.forms

pub loop-place-init : goal.loop-place-init
loop-place-init c = record {
  ticked = ticked_none c.args.network.now c.args.demand.now c.args.given.now;
  shared = c.new-shared.ensures c.args.network.now.trees.items (length c.view-view.result.leads.now) (seen c.view-view.result.terns.now c.view-view.result.leads.now);
}

pub loop-place-preserved : goal.loop-place-preserved
loop-place-preserved c =
    let network = c.args.network.now in
    let demand = c.args.demand.now in
    let place = c.loop-place.place in
    let point = get_or c.own-own.result.now place 0 in
    let at : get_or demand.own place 0 ≡ point = ap (λ (own : List ℕ). get_or own place 0) (sym c.own-own.ensures) in
    let whole = c.view-view.ensures.whole in
    let within : point < length demand.leads =
    let inside : place < length demand.own = let test = c.loop-place-test.true in subst (λ (own : List ℕ). place < length own) c.own-own.ensures test in
    subst (λ (n : ℕ). n < length demand.leads) at (whole.own place inside).0 in
    let less : point < length c.loop-place.given = omega arith in
    record {
      ticked = ticked_more network demand place c.args.given.now c.loop-place.given point c.left_at.result at less
          (written_at network demand c.view-view.result.terns.now c.view-view.result.leads.now point (plain_tern (get_or c.loop-place.given point No)) (kept_tern c.loop-place.given point)
          (plain_tern c.left_at.result) c.view-view.ensures.terns c.view-view.ensures.leads (kept_get c.loop-place.given point No less) c.left_at.ensures.left)
          c.loop-place.invariant.ticked;
      shared = c.left_at.ensures.shared;
    }

pub returns : goal.returns
returns c =
    let long : length c.own-own.result.now ≡ length c.args.demand.now.own = ap length c.own-own.ensures in
    ticked_all c.args.network.now c.args.demand.now c.loop-place.place c.args.given.now c.loop-place.given (omega arith) (omega arith) c.loop-place.invariant.ticked
