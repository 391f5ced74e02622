use Rattle.std.proofs.Common.{◌<◌, ◌∙◌, ap, sym, subst, ℕ, List}
use Rattle.fab_model.specs.Grid.{PlainFabric}
use Rattle.fab_fabric.specs.Fabric.{wire_count}
use Rattle.fab_ways_laws.specs.Edges.{ends}
use Rattle.fab_route.specs.inner.Numbers.{Adds}
use Rattle.std.proofs.Common.{take, ◌+◌}
use Rattle.fab_route.proofs.Leading.{joined_added, unjoined_added, end_within}
use Rattle.fab_route.proofs.targets.add_targets.Goals as goal
use Rattle.fab_route.proofs.targets.add_targets.Goals.{in-Some+in_ok-push, in_default}

pub loop-index-preserved : goal.loop-index-preserved
loop-index-preserved c =
    let f = c.args.fabric.now in
    let i = c.loop-index.index in
    let inside : c.at.result.0 < wire_count f =
    subst (λ (g : PlainFabric). c.at.result.0 < wire_count g) c.requires.same
    (end_within c.ends-ends.result (ends c.args.graph.now c.args.wire.0) (wire_count c.args.graph.now) i c.at.result c.at.ensures c.ends-ends.ensures.ends c.ends-ends.ensures.within) in
    elim c.match-join_to.branch [
      | in-Some+in_ok-push w ↦
          subst (λ (new : List ℕ). Adds f c.args.nodes.now (take (i + 1) c.ends-ends.result) c.args.targets.now.items new) (sym (ap (λ v. v.items) w.targets-is ∙ w.in_ok-push.ensures.items))
          (joined_added f c.args.nodes.now c.ends-ends.result i c.at.result c.at.ensures c.args.targets.now.items c.loop-index.targets.items c.loop-index.invariant c.join_to.result c.join_to.ensures.join w.in-Some.to w.in-Some.is inside)
      | in_default w ↦
          subst (λ (new : List ℕ). Adds f c.args.nodes.now (take (i + 1) c.ends-ends.result) c.args.targets.now.items new) (sym (ap (λ v. v.items) w.targets-is))
          (unjoined_added f c.args.nodes.now c.ends-ends.result i c.at.result c.at.ensures c.args.targets.now.items c.loop-index.targets.items c.loop-index.invariant c.join_to.result c.join_to.ensures.join w.in_default.not-Some)
    ]
