use Rattle.std.proofs.Common.{ℕ, subst, arith}
use Rattle.fab_route.specs.inner.Owners.{IsLeastShared}
use Rattle.fab_route.proofs.shared.least_shared.Goals as goal

pub returns : goal.returns
returns c =
    subst (λ (n : ℕ). IsLeastShared c.args.fabric.now c.args.nodes.now c.args.owners.now.items n c.loop-node.least) (omega (arith, c.loop-node-test.false, c.loop-node.auto.node-end, c.count-node-end.ensures)) c.loop-node.invariant
