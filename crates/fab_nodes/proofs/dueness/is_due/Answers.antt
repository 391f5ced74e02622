use Rattle.std.proofs.Common.{ℕ, ◌+◌, map, sym, subst}
use Rattle.fab_systems_laws.specs.Ternary.{Tern as PlainTern}
use Rattle.fab_ternary.specs.Terns.{plain_tern}
use Rattle.fab_compiled.specs.declared.tree.Tree.{Tree}
use Rattle.fab_compiled.specs.Terns.{seen}
use Rattle.fab_nodes.specs.Nodes.{AreNodes}
use Rattle.fab_nodes.proofs.Parts.{has_one}
use Rattle.fab_nodes.proofs.Walking.{two_lent}
use Rattle.fab_nodes.proofs.dueness.is_due.Goals as goal

pub are_apart-requires-clause-nodes : goal.are_apart-requires-clause-nodes
are_apart-requires-clause-nodes c =
    let at : ℕ → PlainTern = λ place. seen c.args.point.now.view.terns.now c.args.point.now.view.leads.now (c.args.point.now.first + place) in
    two_lent at c.args.tree.now c.in-Two.operator c.in-Two.left.now c.in-Two.right.now (map plain_tern c.args.operands.now) c.in-Two.ensures
    c.of-left.ensures.tree
    c.of-right.ensures.tree c.requires.operands

pub known_from-requires-clause-nodes : goal.known_from-requires-clause-nodes
known_from-requires-clause-nodes c =
    let at : ℕ → PlainTern = λ place. seen c.args.point.now.view.terns.now c.args.point.now.view.leads.now (c.args.point.now.first + place) in
    two_lent at c.args.tree.now c.in-Two.operator c.in-Two.left.now c.in-Two.right.now (map plain_tern c.args.operands.now) c.in-Two.ensures
    c.of-left.ensures.tree
    c.of-right.ensures.tree c.requires.operands

pub is_all_known-requires-clause-nodes : goal.is_all_known-requires-clause-nodes
is_all_known-requires-clause-nodes c =
    let at : ℕ → PlainTern = λ place. seen c.args.point.now.view.terns.now c.args.point.now.view.leads.now (c.args.point.now.first + place) in
    let bits = map plain_tern c.args.operands.now in
    subst (λ (x : Tree). AreNodes at x bits) (sym c.of.ensures.tree)
    ((has_one c.args.tree.now c.in-One.field-0 c.in-One.inner.now c.in-One.ensures).operand at bits c.requires.operands)
