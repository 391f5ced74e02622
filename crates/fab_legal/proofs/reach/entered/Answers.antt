use Rattle.std.proofs.Common.{get_or, nat_eq}
use Rattle.fab_legal.specs.inner.Tables.{entered_number}
use Rattle.fab_legal.proofs.Lists.{at_default}
use Rattle.fab_legal.proofs.Sets.{keys_more}
use Rattle.fab_legal.proofs.reach.entered.Goals as goal

pub loop-edge-preserved : goal.loop-edge-preserved
loop-edge-preserved c =
    keys_more nat_eq entered_number c.args.edges.now c.loop-edge.edge-index (get_or c.args.edges.now c.loop-edge.edge-index (record { 0 = 0 }, record { 0 = 0 })) c.loop-edge.set.keys c.insert.new.self.keys
    (at_default c.args.edges.now c.loop-edge.edge-index (record { 0 = 0 }, record { 0 = 0 }) c.loop-edge-test.true) c.loop-edge.invariant c.in_ok-insert.ensures.keys
