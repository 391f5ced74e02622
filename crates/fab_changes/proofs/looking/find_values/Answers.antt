use Rattle.std.proofs.Common.{ℕ, List, length, ap, ◌∙◌, arith, slice_get, slice_index}
use Rattle.fab_ternary.specs.declared.Tern.{Tern}
use Rattle.fab_compiled.specs.Terns.{seen}
use Rattle.fab_changes.specs.inner.Looking.{value_tern}
use Rattle.fab_changes.proofs.Right.{found_more, found_none}
use Rattle.fab_changes.proofs.looking.find_values.Goals as goal

pub loop-place-init : goal.loop-place-init
loop-place-init c = record {
  found = found_none c.args.network.now c.args.demand.now c.args.group c.args.found.now;
  shared = c.forget.ensures c.args.network.now.trees.items (length c.view-view.result.leads.now)
      (seen c.view-view.result.terns.now c.view-view.result.leads.now);
}

pub loop-place-preserved : goal.loop-place-preserved
loop-place-preserved c =
    let network = c.args.network.now in
    let trees = network.trees.items in
    let drives = network.drives.items in
    let demand = c.args.demand.now in
    let place = c.loop-place.place in
    let view = c.view-view.result in
    record {
      found = found_more network demand c.args.group c.loop-place.found place c.value_at.result (omega arith) (omega (arith, c.requires.room))
          (c.value_at.ensures.value
          ∙ ap (λ (own : List ℕ). value_tern trees (seen view.terns.now view.leads.now) (slice_get drives (slice_index own place))) c.own-own.ensures
          ∙ ap (λ (terns : List Tern). value_tern trees (seen terns view.leads.now) (slice_get drives (slice_index demand.own place))) c.view-view.ensures.terns
          ∙ ap (λ (leads : List ℕ). value_tern trees (seen demand.terns leads) (slice_get drives (slice_index demand.own place))) c.view-view.ensures.leads)
          c.loop-place.invariant.found;
      shared = c.value_at.ensures.shared;
    }
