use Rattle.std.proofs.Common.{ℕ, ◌+◌}
use Rattle.fab_systems_laws.specs.Ternary.{Tern as PlainTern}
use Rattle.fab_compiled.specs.Terns.{seen}
use Rattle.fab_nodes.specs.Nodes.{AreNodes}
use Rattle.fab_nodes.proofs.Walking.{first_of, rest_of}
use Rattle.fab_nodes.proofs.pointwise.bits_of_both.Goals as goal

pub operand_bit-one-requires-clause-nodes : goal.operand_bit-one-requires-clause-nodes
operand_bit-one-requires-clause-nodes c =
    let terns = c.args.point.now.view.terns.now in
    let leads = c.args.point.now.view.leads.now in
    let first = c.args.point.now.first in
    let at : ℕ → PlainTern = λ place. seen terns leads (first + place) in
    let tree = c.args.left.tree.now in
    let room_is = (c.node.ensures tree c.requires.left.laid).room in
    first_of at tree c.node.result.room c.args.operands.now c.split_at.result.0.now room_is c.split_at.ensures.front c.requires.nodes.0

pub operand_bit-other-requires-clause-nodes : goal.operand_bit-other-requires-clause-nodes
operand_bit-other-requires-clause-nodes c =
    let terns = c.args.point.now.view.terns.now in
    let leads = c.args.point.now.view.leads.now in
    let first = c.args.point.now.first in
    let at : ℕ → PlainTern = λ place. seen terns leads (first + place) in
    let tree = c.args.left.tree.now in
    let room_is = (c.node.ensures tree c.requires.left.laid).room in
    rest_of at (AreNodes at c.args.right.tree.now) tree c.node.result.room c.args.operands.now c.split_at.result.1.now room_is c.split_at.ensures.back
    c.requires.nodes.1
