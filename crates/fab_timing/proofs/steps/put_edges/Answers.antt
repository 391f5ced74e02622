use Rattle.std.proofs.Common.{◌∙◌, get_or, refl}
use Rattle.fab_fabric.specs.declared.wire.Wire.{Wire}
use Rattle.fab_implementation.specs.Plain.{Edge}
use Rattle.fab_legal.proofs.Lists.{at_default}
use Rattle.fab_timing.specs.inner.Passes.{HasStep, IsEdgeStep}
use Rattle.fab_timing.proofs.Added.{none_added, item_added, all_added}
use Rattle.fab_timing.proofs.Passes.{edge_added}
use Rattle.fab_timing.proofs.steps.put_edges.Goals as goal

pub loop-from-init : goal.loop-from-init
loop-from-init c = record { len = refl; added = none_added (IsEdgeStep c.args.fabric.now) c.args.edges.now (HasStep c.args.before.now.items) }

pub loop-from-preserved : goal.loop-from-preserved
loop-from-preserved c =
    let none : Wire = record { 0 = 0 } in
    let edges = c.args.edges.now in
    let edge : Edge = get_or edges c.loop-from.from-index (none, none) in
    let at = at_default edges c.loop-from.from-index (none, none) c.loop-from-test.true in
    record {
      len = c.in_ok-put_step.ensures.len ∙ c.loop-from.invariant.len;
      added = item_added (IsEdgeStep c.args.fabric.now) edges c.loop-from.from-index edge (HasStep c.args.before.now.items) (HasStep c.loop-from.before.items) (HasStep c.put_step.new.before.items) at.0 at.1
          c.loop-from.invariant.added
          (edge_added c.args.fabric.now edge c.edge_units-units.result (HasStep c.loop-from.before.items) (HasStep c.put_step.new.before.items) c.edge_units-units.ensures c.in_ok-put_step.ensures.added);
    }

pub returns-clause-added : goal.returns-clause-added
returns-clause-added c =
    all_added (IsEdgeStep c.args.fabric.now) c.args.edges.now c.loop-from.from-index (HasStep c.args.before.now.items) (HasStep c.loop-from.before.items) c.loop-from-test.false c.loop-from.invariant.added
