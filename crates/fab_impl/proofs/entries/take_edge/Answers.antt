use Rattle.std.proofs.Common.{sym}
use Rattle.fab_impl.specs.Names.{wire_of}
use Rattle.fab_impl.proofs.Edges.{edge_taken}
use Rattle.fab_impl.proofs.entries.take_edge.Goals as goal

pub returns : goal.returns
returns c =
    edge_taken c.args.trees.now.items c.pop.new.self.items c.push.new.self.items c.in-Some.tree c.in_ok-with_edge.field-0
    (wire_of c.args.fabric.now c.args.from.now) (wire_of c.args.fabric.now c.args.to.now) c.in-Some-wire_of.from c.in-Some-wire_of-2.to
    c.in-Some.ensures.items (sym c.in-Some-wire_of.ensures) (sym c.in-Some-wire_of-2.ensures) c.in_ok-with_edge.ensures c.in_ok-push.ensures.items
