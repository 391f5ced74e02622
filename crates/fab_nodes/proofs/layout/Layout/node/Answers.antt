use Rattle.std.proofs.Common.{subst, ap}
use Rattle.fab_nodes.specs.Nodes.{IsNodeOf}
use Rattle.fab_nodes.proofs.Parts.{node_in, node_of}
use Rattle.fab_nodes.proofs.layout.Layout.node.Goals as goal

pub returns-in-Leaf : goal.returns-in-Leaf
returns-in-Leaf c tree laid = subst (IsNodeOf tree) (ap node_in c.in-Leaf.is) (node_of tree c.args.self.now laid)

pub returns-in-One : goal.returns-in-One
returns-in-One c tree laid = subst (IsNodeOf tree) (ap node_in c.in-One.is) (node_of tree c.args.self.now laid)

pub returns-in-Two : goal.returns-in-Two
returns-in-Two c tree laid = subst (IsNodeOf tree) (ap node_in c.in-Two.is) (node_of tree c.args.self.now laid)

pub returns-in-Three : goal.returns-in-Three
returns-in-Three c tree laid = subst (IsNodeOf tree) (ap node_in c.in-Three.is) (node_of tree c.args.self.now laid)
