use Rattle.std.proofs.Common.{◌≡◌, ℕ, ◌+◌, sym, ◌∙◌, arith}
use Rattle.fab_systems_laws.specs.Ternary.{Tern as PlainTern}
use Rattle.fab_ternary.specs.Terns.{plain_tern}
use Rattle.fab_compiled.specs.Terns.{seen}
use Rattle.fab_compiled.specs.Trees.{tree_width}
use Rattle.fab_compiled.specs.Evaluation.{value_seen}
use Rattle.fab_compiled.proofs.Evaluated.{wide_at}
use Rattle.fab_nodes.specs.Nodes.{AreNodes}
use Rattle.fab_nodes.proofs.Walking.{first_of, high_below, low_below, rest_of}
use Rattle.fab_nodes.proofs.pointwise.bit_of_parts.Goals as goal

pub operand_bit-requires-clause-nodes : goal.operand_bit-requires-clause-nodes
operand_bit-requires-clause-nodes c =
    let terns = c.args.point.now.view.terns.now in
    let leads = c.args.point.now.view.leads.now in
    let first = c.args.point.now.first in
    let at : ℕ → PlainTern = λ place. seen terns leads (first + place) in
    let tree = c.args.left.tree.now in
    let room_is = (c.node.ensures tree c.requires.left.laid).room in
    first_of at tree c.node.result.room c.args.operands.now c.split_at.result.0.now room_is c.split_at.ensures.front c.requires.nodes.0

pub operand_bit-requires-else-bit-width-clause-nodes : goal.operand_bit-requires-else-bit-width-clause-nodes
operand_bit-requires-else-bit-width-clause-nodes c =
    let terns = c.args.point.now.view.terns.now in
    let leads = c.args.point.now.view.leads.now in
    let first = c.args.point.now.first in
    let at : ℕ → PlainTern = λ place. seen terns leads (first + place) in
    let tree = c.args.left.tree.now in
    let room_is = (c.node.ensures tree c.requires.left.laid).room in
    rest_of at (AreNodes at c.args.right.tree.now) tree c.node.result.room c.args.operands.now c.split_at.result.1.now room_is c.split_at.ensures.back
    c.requires.nodes.1

pub returns-then-bit-width : goal.returns-then-bit-width
returns-then-bit-width c =
    let terns = c.args.point.now.view.terns.now in
    let leads = c.args.point.now.view.leads.now in
    let first = c.args.point.now.first in
    let at : ℕ → PlainTern = λ place. seen terns leads (first + place) in
    let value = value_seen terns leads first in
    let left = c.args.left.tree.now in
    let width : c.node-width.result.width ≡ tree_width left = (c.node-width.ensures left c.requires.left.laid).width in
    low_below (plain_tern c.operand_bit.result) (value left) (value c.args.right.tree.now) c.args.bit
    (omega (arith, c.if-bit-width.true, width, wide_at terns leads first left c.requires.left.made)) c.operand_bit.ensures

pub returns-else-bit-width : goal.returns-else-bit-width
returns-else-bit-width c =
    let terns = c.args.point.now.view.terns.now in
    let leads = c.args.point.now.view.leads.now in
    let first = c.args.point.now.first in
    let at : ℕ → PlainTern = λ place. seen terns leads (first + place) in
    let value = value_seen terns leads first in
    let left = c.args.left.tree.now in
    let width : c.node-width.result.width ≡ tree_width left = (c.node-width.ensures left c.requires.left.laid).width in
    high_below (plain_tern c.operand_bit-else-bit-width.result) (value left) (value c.args.right.tree.now) c.args.bit c.node-width.result.width
    (wide_at terns leads first left c.requires.left.made ∙ sym width) c.if-bit-width.false c.operand_bit-else-bit-width.ensures
