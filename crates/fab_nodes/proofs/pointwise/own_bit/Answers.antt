use Rattle.std.proofs.Common.{◌≡◌, ℕ, ◌+◌, map, refl, sym, ap, ◌∙◌, subst}
use Rattle.fab_systems_laws.specs.Ternary.{Tern as PlainTern}
use Rattle.fab_ternary.specs.Terns.{plain_tern}
use Rattle.fab_compiled.specs.Terns.{seen}
use Rattle.fab_nodes.specs.declared.operands.Unary.{Unary}
use Rattle.fab_nodes.specs.declared.operands.Unary.TheVariants.{Inverse}
use Rattle.fab_nodes.specs.declared.operands.Binary.{Binary}
use Rattle.fab_nodes.specs.declared.operands.Binary.TheVariants.{Pair}
use Rattle.fab_nodes.specs.Nodes.{room, IsLaidOut}
use Rattle.fab_nodes.specs.inner.Operands.{one, parts, two}
use Rattle.fab_nodes.specs.inner.Renewing.{AreBoth}
use Rattle.fab_nodes.proofs.Parts.{has_one, has_two, has_three}
use Rattle.fab_nodes.proofs.Walking.{cond_below, first_of, inverse_below, pair_below, rest_of, three_lent, three_read, two_lent}
use Rattle.fab_nodes.proofs.pointwise.own_bit.Goals as goal

pub operand_bit-requires-clause-nodes : goal.operand_bit-requires-clause-nodes
operand_bit-requires-clause-nodes c =
    let terns = c.args.point.now.view.terns.now in
    let leads = c.args.point.now.view.leads.now in
    let first = c.args.point.now.first in
    let at : ℕ → PlainTern = λ place. seen terns leads (first + place) in
    let has = has_one c.args.tree.now c.in-One-Inverse-default.field-0 c.in-One-Inverse-default.inner.now c.in-One-Inverse-default.ensures in
    has.operand at (map plain_tern c.args.operands.now) c.requires.operands

pub bit_of_parts-requires-clause-nodes : goal.bit_of_parts-requires-clause-nodes
bit_of_parts-requires-clause-nodes c =
    let terns = c.args.point.now.view.terns.now in
    let leads = c.args.point.now.view.leads.now in
    let first = c.args.point.now.first in
    let at : ℕ → PlainTern = λ place. seen terns leads (first + place) in
    two_lent at c.args.tree.now c.in-Two.operator c.in-Two.left.now c.in-Two.right.now (map plain_tern c.args.operands.now) c.in-Two.ensures
    c.of-left.ensures.tree
    c.of-right.ensures.tree c.requires.operands

pub bits_of_both-one-requires-clause-nodes : goal.bits_of_both-one-requires-clause-nodes
bits_of_both-one-requires-clause-nodes c =
    let terns = c.args.point.now.view.terns.now in
    let leads = c.args.point.now.view.leads.now in
    let first = c.args.point.now.first in
    let at : ℕ → PlainTern = λ place. seen terns leads (first + place) in
    two_lent at c.args.tree.now c.in-Two.operator c.in-Two.left.now c.in-Two.right.now (map plain_tern c.args.operands.now) c.in-Two.ensures
    c.of-left.ensures.tree
    c.of-right.ensures.tree c.requires.operands

pub operand_bit-test-requires-clause-nodes : goal.operand_bit-test-requires-clause-nodes
operand_bit-test-requires-clause-nodes c =
    let terns = c.args.point.now.view.terns.now in
    let leads = c.args.point.now.view.leads.now in
    let first = c.args.point.now.first in
    let at : ℕ → PlainTern = λ place. seen terns leads (first + place) in
    let test = c.in-Three.test.now in
    let of =
    three_lent at c.args.tree.now test c.in-Three.yes.now c.in-Three.no.now (map plain_tern c.args.operands.now) c.in-Three.ensures refl c.of-yes.ensures.tree
    c.of-no.ensures.tree c.requires.operands in
    let read = (three_read terns leads first test c.in-Three.yes.now c.in-Three.no.now c.in-Three.ensures c.in-Three-layout.is c.requires.read).0 in
    let room_is : c.node.result.room ≡ room test = (c.node.ensures test (subst (IsLaidOut test) (sym c.deref-in-Three-3.ensures) read.laid)).room in
    first_of at test c.node.result.room c.args.operands.now c.split_at.result.0.now room_is c.split_at.ensures.front of.0

pub bits_of_both-one-requires-in-Three-clause-nodes : goal.bits_of_both-one-requires-in-Three-clause-nodes
bits_of_both-one-requires-in-Three-clause-nodes c =
    let terns = c.args.point.now.view.terns.now in
    let leads = c.args.point.now.view.leads.now in
    let first = c.args.point.now.first in
    let at : ℕ → PlainTern = λ place. seen terns leads (first + place) in
    let test = c.in-Three.test.now in
    let of =
    three_lent at c.args.tree.now test c.in-Three.yes.now c.in-Three.no.now (map plain_tern c.args.operands.now) c.in-Three.ensures refl c.of-yes.ensures.tree
    c.of-no.ensures.tree c.requires.operands in
    let read = (three_read terns leads first test c.in-Three.yes.now c.in-Three.no.now c.in-Three.ensures c.in-Three-layout.is c.requires.read).0 in
    let room_is : c.node.result.room ≡ room test = (c.node.ensures test (subst (IsLaidOut test) (sym c.deref-in-Three-3.ensures) read.laid)).room in
    rest_of at (AreBoth at c.of-yes.result.tree.now c.of-no.result.tree.now) test c.node.result.room c.args.operands.now c.split_at.result.1.now room_is
    c.split_at.ensures.back of.1

pub returns-in-One-Inverse-default : goal.returns-in-One-Inverse-default
returns-in-One-Inverse-default c =
    let terns = c.args.point.now.view.terns.now in
    let leads = c.args.point.now.view.leads.now in
    let first = c.args.point.now.first in
    let a = c.in-One-Inverse-default.inner.now in
    let is : parts c.args.tree.now ≡ one Inverse a =
    c.in-One-Inverse-default.ensures ∙ ap (λ (operator : Unary). one operator a) c.in-One-Inverse-default.field-0-is in
    inverse_below terns leads first c.args.tree.now a (plain_tern c.operand_bit.result) (plain_tern c.inverse.result) c.args.bit
    (has_one c.args.tree.now Inverse a is)
    c.requires.read.made c.requires.within c.inverse.ensures c.operand_bit.ensures

pub returns-in-Pair : goal.returns-in-Pair
returns-in-Pair c =
    let terns = c.args.point.now.view.terns.now in
    let leads = c.args.point.now.view.leads.now in
    let first = c.args.point.now.first in
    let tree = c.args.tree.now in
    let a = c.in-Two.left.now in
    let b = c.in-Two.right.now in
    let is : parts tree ≡ two (Pair c.in-Pair.pairing) a b = c.in-Two.ensures ∙ ap (λ (operator : Binary). two operator a b) c.in-Pair.is in
    pair_below terns leads first c.in-Pair.pairing tree a b c.of-left.result.tree.now c.of-right.result.tree.now (plain_tern c.bits_of_both-one.result.0)
    (plain_tern c.bits_of_both-one.result.1) (plain_tern c.pair.result) c.args.bit (has_two tree (Pair c.in-Pair.pairing) a b is) c.requires.read.made
    c.requires.within c.of-left.ensures.tree c.of-right.ensures.tree c.pair.ensures c.bits_of_both-one.ensures.left c.bits_of_both-one.ensures.right

pub returns-in-Three-layout : goal.returns-in-Three-layout
returns-in-Three-layout c =
    let terns = c.args.point.now.view.terns.now in
    let leads = c.args.point.now.view.leads.now in
    let first = c.args.point.now.first in
    let tree = c.args.tree.now in
    let test = c.in-Three.test.now in
    let a = c.in-Three.yes.now in
    let b = c.in-Three.no.now in
    cond_below terns leads first tree test a b c.of-yes.result.tree.now c.of-no.result.tree.now (plain_tern c.operand_bit-test.result)
    (plain_tern c.bits_of_both-one-in-Three.result.0) (plain_tern c.bits_of_both-one-in-Three.result.1) (plain_tern c.through.result) c.args.bit
    (has_three tree test a b c.in-Three.ensures) c.requires.read.made c.requires.within c.of-yes.ensures.tree c.of-no.ensures.tree c.through.ensures
    c.operand_bit-test.ensures c.bits_of_both-one-in-Three.ensures.left c.bits_of_both-one-in-Three.ensures.right
